use Rattle.std.proofs.Common.{◌≡◌, drop}
use Rattle.c_expr_types.specs.Faults.{first, sooner}
use Rattle.c_expr_types.specs.Expressions.{print_faults}
use Rattle.c_expr_types.proofs.expression.print_faults.Given as goal

abbrev pub invariant-loop-argument : goal.invariant-loop-argument
invariant-loop-argument l =
    sooner l.fault (first (print_faults (drop l.argument-index l.arguments))) ≡ first (print_faults l.arguments)
