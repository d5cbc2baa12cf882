use Rattle.std.proofs.Common.{ap, ◌∙◌}
use Rattle.c_expr_types.specs.Faults.{sooner}
use Rattle.c_expr_types.specs.Expressions.{unknown_tag}
use Rattle.c_expr_types.proofs.Firsts.{faults_step}
use Rattle.c_types.proofs.parameter.types_fault.Goals as goal

pub loop-declared-preserved : goal.loop-declared-preserved
loop-declared-preserved c =
    faults_step (unknown_tag c.args.known.now) c.args.types.now c.loop-declared.declared-index c.declared-item.result
    c.loop-declared.fault c.sooner-fault.result c.loop-declared-test.true c.declared-item.is
    (c.sooner-fault.ensures ∙ ap (sooner c.loop-declared.fault) c.unknown_tag.ensures)
    ∙ c.loop-declared.invariant
