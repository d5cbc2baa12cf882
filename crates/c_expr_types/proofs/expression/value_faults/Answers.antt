use Rattle.std.proofs.Common.{ap, ◌∙◌}
use Rattle.c_expr_types.specs.Faults.{first, sooner}
use Rattle.c_expr_types.specs.Found.{required, is_value}
use Rattle.c_expr_types.proofs.Firsts.{faults_step}
use Rattle.c_expr_types.proofs.expression.value_faults.Goals as goal

pub loop-argument-preserved : goal.loop-argument-preserved
loop-argument-preserved c =
    faults_step (λ a. required (is_value a.found) a) c.args.arguments.now c.loop-argument.argument-index c.argument-item.result
    c.loop-argument.fault c.sooner-fault.result c.loop-argument-test.true c.argument-item.is
    (c.sooner-fault.ensures
    ∙ ap (sooner c.loop-argument.fault)
    (c.required.ensures ∙ ap (λ holds. first (required holds c.argument-item.result)) c.is_value.ensures))
    ∙ c.loop-argument.invariant
