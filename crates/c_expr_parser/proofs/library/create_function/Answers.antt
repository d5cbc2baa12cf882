use Rattle.std.proofs.Common.{◌∙◌}
use Rattle.c_expr_parser.specs.Plans.{parsed, create_function}
use Rattle.c_expr_parser.proofs.PlanResults.{parsed_then, parsed_return}
use Rattle.c_expr_parser.proofs.FunctionReturns.{Goes, through, hands_on}
use Rattle.c_expr_parser.proofs.library.create_function.Goals as goal

pub returns-in_err-function-clause-reads : goal.returns-in_err-function-clause-reads
returns-in_err-function-clause-reads c =
    let e1 : Goes (parsed (create_function c.args.depth) c.args.tokens.now) _ _ = record { on = parsed_then _ _ _ } in
    hands_on _ c.from_residual.result c.in_err-function.field-0.0 c.from_residual.ensures.1 e1 c.in_err-function.ensures.reads

pub returns-in_err-rest-clause-reads : goal.returns-in_err-rest-clause-reads
returns-in_err-rest-clause-reads c =
    let e1 : Goes (parsed (create_function c.args.depth) c.args.tokens.now) _ _ = record { on = parsed_then _ _ _ } in
    let e2 : Goes (parsed (create_function c.args.depth) c.args.tokens.now) _ _ = record { on = through e1 c.in_ok-function.ensures.reads ∙ parsed_then _ _ _ } in
    hands_on _ c.from_residual-in_err-rest.result c.in_err-rest.field-0.0 c.from_residual-in_err-rest.ensures.1 e2 c.in_err-rest.ensures.reads

pub returns-clause-reads : goal.returns-clause-reads
returns-clause-reads c =
    let e1 : Goes (parsed (create_function c.args.depth) c.args.tokens.now) _ _ = record { on = parsed_then _ _ _ } in
    let e2 : Goes (parsed (create_function c.args.depth) c.args.tokens.now) _ _ = record { on = through e1 c.in_ok-function.ensures.reads ∙ parsed_then _ _ _ } in
    through e2 c.in_ok-rest.ensures.reads ∙ parsed_return _ _
