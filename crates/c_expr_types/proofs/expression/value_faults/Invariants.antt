use Rattle.std.proofs.Common.{◌≡◌, drop}
use Rattle.c_expr_types.specs.Faults.{first, sooner}
use Rattle.c_expr_types.specs.Expressions.{value_faults}
use Rattle.c_expr_types.proofs.expression.value_faults.Given as goal

abbrev pub invariant-loop-argument : goal.invariant-loop-argument
invariant-loop-argument l =
    sooner l.fault (first (value_faults (drop l.argument-index l.arguments))) ≡ first (value_faults l.arguments)
