use Rattle.std.proofs.Common.{◌∙◌, refl, sym, ap, arith, Some}
use Rattle.std.specs.Prelude.{codes}
use Rattle.c_expr_parser.specs.Tables.{when_some}
use Rattle.c_parser.specs.TextPlans.{Give, Place, place}
use Rattle.c_parser.proofs.PlanResults.{takes_first, sinks_first, dead_first, dead_end}
use Rattle.c_parser.proofs.block.closing_brace.Goals as goal

pub returns-then-not-is-clause-reads : goal.returns-then-not-is-clause-reads
returns-then-not-is-clause-reads c k =
    dead_first (Place (codes "}") c.args.depth) k c.in-Some.token.now c.in-Some.rest.now _ c.in-Some.ensures.cases.0
    (ap (λ b. when_some b (Some (Give (place c.in-Some.token.now.at)))) (sym c.is.ensures ∙ c.if-not-is.true)) refl

pub returns-then-depth-gt-MOST_DEPTH-clause-reads : goal.returns-then-depth-gt-MOST_DEPTH-clause-reads
returns-then-depth-gt-MOST_DEPTH-clause-reads c k =
    sinks_first (Place (codes "}") c.args.depth) k (Give (place c.in-Some.token.now.at)) c.in-Some.token.now c.in-Some.rest.now _ c.in-Some.ensures.cases.0
    (ap (λ b. when_some b (Some (Give (place c.in-Some.token.now.at)))) (sym c.is.ensures ∙ c.if-not-is.false)) c.if-depth-gt-MOST_DEPTH.true

pub returns-else-depth-gt-MOST_DEPTH-clause-reads : goal.returns-else-depth-gt-MOST_DEPTH-clause-reads
returns-else-depth-gt-MOST_DEPTH-clause-reads c k =
    takes_first (Place (codes "}") c.args.depth) k (Give (place c.in-Some.token.now.at)) c.in-Some.token.now c.in-Some.rest.now _ c.in-Some.ensures.cases.0
    (ap (λ b. when_some b (Some (Give (place c.in-Some.token.now.at)))) (sym c.is.ensures ∙ c.if-not-is.false)) (omega arith)

pub returns-in-None-clause-reads : goal.returns-in-None-clause-reads
returns-in-None-clause-reads c k = dead_end (Place (codes "}") c.args.depth) k _ c.in-None.ensures.cases refl
