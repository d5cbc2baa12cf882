use Rattle.std.proofs.Common.{refl, arith, sym, ◌∙◌, ap, Some}
use Rattle.c_expr_parser.specs.Plans.{Return, nothing}
use Rattle.c_expr_parser.specs.Tables.{when_some}
use Rattle.c_expr_parser.proofs.PlanResults.{reads_dead, reads_end, reads_one, reads_deep}
use Rattle.c_expr_parser.proofs.cursor.take.Goals as goal

pub returns-then-not-is-clause-reads : goal.returns-then-not-is-clause-reads
returns-then-not-is-clause-reads c = reads_dead _ _ c.in-Some.token.now c.in-Some.rest.now c.in-Some.ensures.cases.0 (ap (λ b. when_some b (Some (Return nothing))) (sym c.is.ensures ∙ c.if-not-is.true)) refl

pub returns-then-depth-gt-MOST_DEPTH-clause-reads : goal.returns-then-depth-gt-MOST_DEPTH-clause-reads
returns-then-depth-gt-MOST_DEPTH-clause-reads c = reads_deep _ _ c.in-Some.token.now c.in-Some.rest.now (Return nothing) c.in-Some.ensures.cases.0 (ap (λ b. when_some b (Some (Return nothing))) (sym c.is.ensures ∙ c.if-not-is.false)) c.if-depth-gt-MOST_DEPTH.true

pub returns-else-depth-gt-MOST_DEPTH-clause-reads : goal.returns-else-depth-gt-MOST_DEPTH-clause-reads
returns-else-depth-gt-MOST_DEPTH-clause-reads c = reads_one _ _ c.in-Some.token.now c.in-Some.rest.now nothing c.in-Some.ensures.cases.0 (ap (λ b. when_some b (Some (Return nothing))) (sym c.is.ensures ∙ c.if-not-is.false)) (omega arith)

pub returns-in-None-clause-reads : goal.returns-in-None-clause-reads
returns-in-None-clause-reads c = reads_end _ _ c.in-None.ensures.cases refl
