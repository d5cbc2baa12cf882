use Rattle.std.proofs.Common.{◌≡◌, refl}
use Rattle.c_parser.specs.TextPlans.{update_statement, text_parsed}
use Rattle.c_parser.proofs.FunctionReturns.{through_of, hands_of, tail_call}
use Rattle.c_parser.proofs.simple.update.Goals as goal

pub returns-in_err-rest-clause-reads : goal.returns-in_err-rest-clause-reads
returns-in_err-rest-clause-reads c =
    let e1 : text_parsed (update_statement c.args.depth c.args.start) c.args.tokens.now ≡ _ = refl in
    hands_of _ c.from_residual.result c.in_err-rest.field-0.0 _ _ _ c.from_residual.ensures.1 (e1) c.in_err-rest.ensures.reads

pub returns-in_err-rest-2-clause-reads : goal.returns-in_err-rest-2-clause-reads
returns-in_err-rest-2-clause-reads c =
    let e1 : text_parsed (update_statement c.args.depth c.args.start) c.args.tokens.now ≡ _ = refl in
    hands_of _ c.from_residual-in_err-rest-2.result c.in_err-rest-2.field-0.0 _ _ _ c.from_residual-in_err-rest-2.ensures.1 (through_of _ _ _ (e1) c.in_ok-rest.ensures.reads) c.in_err-rest-2.ensures.reads

pub returns-clause-reads : goal.returns-clause-reads
returns-clause-reads c =
    let e1 : text_parsed (update_statement c.args.depth c.args.start) c.args.tokens.now ≡ _ = refl in
    tail_call _ _ (through_of _ _ _ (through_of _ _ _ (e1) c.in_ok-rest.ensures.reads) c.in_ok-rest-2.ensures.reads) c.simple.ensures.reads
