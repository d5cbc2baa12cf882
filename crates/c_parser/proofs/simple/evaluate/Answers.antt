use Rattle.std.proofs.Common.{refl, sym, ap, ◌∙◌}
use Rattle.std.specs.Prelude.{codes}
use Rattle.c_tree.specs.declared.stmt.StmtNode.TheVariants.{Evaluate}
use Rattle.c_expr_parser.specs.Statements.{stmt}
use Rattle.c_parser.specs.TextPlans.{punctuator, text_parsed}
use Rattle.c_parser.proofs.FunctionReturns.{through_of, through_expr, hands_of, hands_expr}
use Rattle.c_parser.proofs.simple.evaluate.Goals as goal

pub returns-in_err-value-clause-reads : goal.returns-in_err-value-clause-reads
returns-in_err-value-clause-reads c k =
    hands_expr _ c.from_residual.result c.in_err-value.field-0.0 c.args.depth (λ e. punctuator (codes ";") c.args.depth (k (stmt c.args.start (Evaluate e)))) _ c.from_residual.ensures.1 (refl) c.in_err-value.ensures.reads

pub returns-in_err-rest-clause-reads : goal.returns-in_err-rest-clause-reads
returns-in_err-rest-clause-reads c k =
    hands_of _ c.from_residual-in_err-rest.result c.in_err-rest.field-0.0 _ _ _ c.from_residual-in_err-rest.ensures.1 (through_expr c.args.depth (λ e. punctuator (codes ";") c.args.depth (k (stmt c.args.start (Evaluate e)))) _ (refl) c.in_ok-value.ensures.reads) c.in_err-rest.ensures.reads

pub returns-clause-reads : goal.returns-clause-reads
returns-clause-reads c k =
    through_of _ _ _ (through_expr c.args.depth (λ e. punctuator (codes ";") c.args.depth (k (stmt c.args.start (Evaluate e)))) _ (refl) c.in_ok-value.ensures.reads) c.in_ok-rest.ensures.reads ∙ ap (λ e. text_parsed (k (stmt c.args.start (Evaluate e))) c.in_ok-rest.rest.now) (sym c.into_inner.ensures) ∙ ap (λ s. text_parsed (k s) c.in_ok-rest.rest.now) (sym c.made.ensures)
