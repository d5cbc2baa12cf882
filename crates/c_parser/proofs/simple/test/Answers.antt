use Rattle.std.proofs.Common.{◌≡◌, suc, refl, add-one}
use Rattle.std.specs.Prelude.{codes}
use Rattle.c_parser.specs.TextPlans.{test_then, punctuator, text_parsed}
use Rattle.c_parser.proofs.FunctionReturns.{through_of, through_expr, hands_of, hands_expr}
use Rattle.c_parser.proofs.simple.test.Goals as goal

pub returns-in_err-rest-clause-reads : goal.returns-in_err-rest-clause-reads
returns-in_err-rest-clause-reads c k =
    let e1 : text_parsed (test_then c.args.depth k) c.args.tokens.now ≡ _ = refl in
    hands_of _ c.from_residual.result c.in_err-rest.field-0.0 _ _ _ c.from_residual.ensures.1 (e1) c.in_err-rest.ensures.reads

pub returns-in_err-value-clause-reads : goal.returns-in_err-value-clause-reads
returns-in_err-value-clause-reads c k =
    let e1 : text_parsed (test_then c.args.depth k) c.args.tokens.now ≡ _ = refl in
    hands_expr _ c.from_residual-in_err-value.result c.in_err-value.field-0.0 (suc c.args.depth) (λ x. punctuator (codes ")") c.args.depth (k x)) _ c.from_residual-in_err-value.ensures.1 (through_of _ _ _ (e1) c.in_ok-rest.ensures.reads) (rw add-one at c.in_err-value.ensures.reads)

pub returns-in_err-rest-2-clause-reads : goal.returns-in_err-rest-2-clause-reads
returns-in_err-rest-2-clause-reads c k =
    let e1 : text_parsed (test_then c.args.depth k) c.args.tokens.now ≡ _ = refl in
    hands_of _ c.from_residual-in_err-rest-2.result c.in_err-rest-2.field-0.0 _ _ _ c.from_residual-in_err-rest-2.ensures.1 (through_expr (suc c.args.depth) (λ x. punctuator (codes ")") c.args.depth (k x)) _ (through_of _ _ _ (e1) c.in_ok-rest.ensures.reads) (rw add-one at c.in_ok-value.ensures.reads)) c.in_err-rest-2.ensures.reads

pub returns-clause-reads : goal.returns-clause-reads
returns-clause-reads c k =
    let e1 : text_parsed (test_then c.args.depth k) c.args.tokens.now ≡ _ = refl in
    through_of _ _ _ (through_expr (suc c.args.depth) (λ x. punctuator (codes ")") c.args.depth (k x)) _ (through_of _ _ _ (e1) c.in_ok-rest.ensures.reads) (rw add-one at c.in_ok-value.ensures.reads)) c.in_ok-rest-2.ensures.reads
