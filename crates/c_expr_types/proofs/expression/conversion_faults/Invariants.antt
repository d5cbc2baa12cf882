use Rattle.std.proofs.Common.{◌≡◌, drop}
use Rattle.c_expr_types.specs.Faults.{first, sooner}
use Rattle.c_definitions.specs.Lookup.{types_of}
use Rattle.c_expr_types.specs.Expressions.{conversion_faults}
use Rattle.c_expr_types.proofs.expression.conversion_faults.Given as goal

abbrev pub invariant-loop-i : goal.invariant-loop-i
invariant-loop-i l =
    sooner l.fault (first (conversion_faults (types_of (drop l.i l.parameters)) (drop l.i l.arguments)))
    ≡ first (conversion_faults (types_of l.parameters) l.arguments)
