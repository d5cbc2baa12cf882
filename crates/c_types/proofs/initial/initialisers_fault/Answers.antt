use Rattle.std.proofs.Common.{ap, ◌∙◌}
use Rattle.c_expr_types.specs.Faults.{sooner}
use Rattle.c_types.specs.Definitions.{initialiser_faults}
use Rattle.c_expr_types.proofs.Firsts.{faults_step}
use Rattle.c_types.proofs.initial.initialisers_fault.Goals as goal

pub loop-expr-preserved : goal.loop-expr-preserved
loop-expr-preserved c =
    faults_step (initialiser_faults c.args.known.now c.args.to.now) c.args.exprs.now c.loop-expr.expr-index c.expr-item.result
    c.loop-expr.fault c.sooner-fault.result c.loop-expr-test.true c.expr-item.is
    (c.sooner-fault.ensures ∙ ap (sooner c.loop-expr.fault) c.in_ok-initialiser_fault.ensures)
    ∙ c.loop-expr.invariant
