use Rattle.std.proofs.Common.{◌≡◌, Some, None, sym, ◌∙◌}
use Rattle.c_parser.specs.TextPlans.{expr_then, punctuator, text_parsed}
use Rattle.c_parser.specs.Parts.{optional_then}
use Rattle.c_parser.proofs.PhraseBeginnings.{optional_absent, optional_present}
use Rattle.c_parser.proofs.FunctionReturns.{through_of, through_expr, hands_of, hands_expr}
use Rattle.c_parser.proofs.simple.optional.Goals as goal

pub returns-in_err-rest-clause-reads : goal.returns-in_err-rest-clause-reads
returns-in_err-rest-clause-reads c k =
    let here : text_parsed (optional_then c.args.depth c.args.punctuator.now c.args.punctuator_depth k) c.args.tokens.now ≡ text_parsed (punctuator c.args.punctuator.now c.args.punctuator_depth (k None)) c.args.tokens.now = optional_absent c.args.depth c.args.punctuator.now c.args.punctuator_depth k c.args.tokens.now c.requires.ends (sym c.is_ahead.ensures ∙ c.if-is_ahead.true) in
    hands_of _ c.from_residual.result c.in_err-rest.field-0.0 _ _ _ c.from_residual.ensures.1 (here) c.in_err-rest.ensures.reads

pub returns-then-is_ahead-clause-reads : goal.returns-then-is_ahead-clause-reads
returns-then-is_ahead-clause-reads c k =
    let here : text_parsed (optional_then c.args.depth c.args.punctuator.now c.args.punctuator_depth k) c.args.tokens.now ≡ text_parsed (punctuator c.args.punctuator.now c.args.punctuator_depth (k None)) c.args.tokens.now = optional_absent c.args.depth c.args.punctuator.now c.args.punctuator_depth k c.args.tokens.now c.requires.ends (sym c.is_ahead.ensures ∙ c.if-is_ahead.true) in
    through_of _ _ _ (here) c.in_ok-rest.ensures.reads

pub returns-in_err-value-clause-reads : goal.returns-in_err-value-clause-reads
returns-in_err-value-clause-reads c k =
    let here : text_parsed (optional_then c.args.depth c.args.punctuator.now c.args.punctuator_depth k) c.args.tokens.now ≡ text_parsed (expr_then c.args.depth (λ x. punctuator c.args.punctuator.now c.args.punctuator_depth (k (Some x)))) c.args.tokens.now = optional_present c.args.depth c.args.punctuator.now c.args.punctuator_depth k c.args.tokens.now (sym c.is_ahead.ensures ∙ c.if-is_ahead.false) in
    hands_expr _ c.from_residual-in_err-value.result c.in_err-value.field-0.0 c.args.depth (λ x. punctuator c.args.punctuator.now c.args.punctuator_depth (k (Some x))) _ c.from_residual-in_err-value.ensures.1 (here) c.in_err-value.ensures.reads

pub returns-in_err-rest-2-clause-reads : goal.returns-in_err-rest-2-clause-reads
returns-in_err-rest-2-clause-reads c k =
    let here : text_parsed (optional_then c.args.depth c.args.punctuator.now c.args.punctuator_depth k) c.args.tokens.now ≡ text_parsed (expr_then c.args.depth (λ x. punctuator c.args.punctuator.now c.args.punctuator_depth (k (Some x)))) c.args.tokens.now = optional_present c.args.depth c.args.punctuator.now c.args.punctuator_depth k c.args.tokens.now (sym c.is_ahead.ensures ∙ c.if-is_ahead.false) in
    hands_of _ c.from_residual-in_err-rest-2.result c.in_err-rest-2.field-0.0 _ _ _ c.from_residual-in_err-rest-2.ensures.1 (through_expr c.args.depth (λ x. punctuator c.args.punctuator.now c.args.punctuator_depth (k (Some x))) _ (here) c.in_ok-value.ensures.reads) c.in_err-rest-2.ensures.reads

pub returns-clause-reads : goal.returns-clause-reads
returns-clause-reads c k =
    let here : text_parsed (optional_then c.args.depth c.args.punctuator.now c.args.punctuator_depth k) c.args.tokens.now ≡ text_parsed (expr_then c.args.depth (λ x. punctuator c.args.punctuator.now c.args.punctuator_depth (k (Some x)))) c.args.tokens.now = optional_present c.args.depth c.args.punctuator.now c.args.punctuator_depth k c.args.tokens.now (sym c.is_ahead.ensures ∙ c.if-is_ahead.false) in
    through_of _ _ _ (through_expr c.args.depth (λ x. punctuator c.args.punctuator.now c.args.punctuator_depth (k (Some x))) _ (here) c.in_ok-value.ensures.reads) c.in_ok-rest-2.ensures.reads
