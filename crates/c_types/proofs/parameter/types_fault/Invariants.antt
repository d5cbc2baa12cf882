use Rattle.std.proofs.Common.{◌≡◌, drop}
use Rattle.std.specs.List.{flat_map}
use Rattle.c_expr_types.specs.Faults.{first, sooner}
use Rattle.c_expr_types.specs.Expressions.{unknown_tag}
use Rattle.c_types.proofs.parameter.types_fault.Given as goal

abbrev pub invariant-loop-declared : goal.invariant-loop-declared
invariant-loop-declared l =
    sooner l.fault (first (flat_map (unknown_tag l.known) (drop l.declared-index l.types))) ≡ first (flat_map (unknown_tag l.known) l.types)
