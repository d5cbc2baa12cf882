use Rattle.std.proofs.Common.{refl, sym, ap, ◌∙◌}
use Rattle.c_expr_parser.specs.Statements.{stmt}
use Rattle.c_parser.specs.TextPlans.{Give, returned, statement, found}
use Rattle.c_parser.proofs.PlanResults.{parsed_give}
use Rattle.c_parser.proofs.FunctionReturns.{hands}
use Rattle.c_parser.proofs.simple.return_statement.Goals as goal

pub returns-in_err-value-clause-reads : goal.returns-in_err-value-clause-reads
returns-in_err-value-clause-reads c =
    hands _ c.from_residual.result c.in_err-value.field-0.0 c.from_residual.ensures.1 (refl) (c.in_err-value.ensures.reads (λ e. Give (statement (stmt c.args.start (returned e)))))

pub returns-clause-reads : goal.returns-clause-reads
returns-clause-reads c =
    (c.in_ok-value.ensures.reads (λ e. Give (statement (stmt c.args.start (returned e))))) ∙ parsed_give _ _ ∙ ap (λ n. found (statement (stmt c.args.start n)) c.in_ok-value.rest.now) (sym c.returned.ensures) ∙ ap (λ s. found (statement s) c.in_ok-value.rest.now) (sym c.made.ensures)
