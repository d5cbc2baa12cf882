use Rattle.std.proofs.Common.{◌≡◌, refl, sym, ap, ◌∙◌}
use Rattle.c_parser.specs.TextPlans.{simple, statement, found, text_parsed}
use Rattle.c_parser.proofs.PlanResults.{parsed_give}
use Rattle.c_parser.proofs.FunctionReturns.{through_of, hands_of}
use Rattle.c_parser.proofs.simple.simple.Goals as goal

pub returns-in_err-rest-clause-reads : goal.returns-in_err-rest-clause-reads
returns-in_err-rest-clause-reads c =
    let e1 : text_parsed (simple c.args.depth c.args.start c.args.node) c.args.tokens.now ≡ _ = refl in
    hands_of _ c.from_residual.result c.in_err-rest.field-0.0 _ _ _ c.from_residual.ensures.1 (e1) c.in_err-rest.ensures.reads

pub returns-clause-reads : goal.returns-clause-reads
returns-clause-reads c =
    let e1 : text_parsed (simple c.args.depth c.args.start c.args.node) c.args.tokens.now ≡ _ = refl in
    through_of _ _ _ (e1) c.in_ok-rest.ensures.reads ∙ parsed_give _ _ ∙ ap (λ s. found (statement s) c.in_ok-rest.rest.now) (sym c.made.ensures)
