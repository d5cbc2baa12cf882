use Rattle.std.proofs.Common.{◌≡◌, ◌≤◌, length, drop}
use Rattle.c_definitions.specs.Lookup.{types_of}
use Rattle.c_types.specs.Definitions.{same_types}
use Rattle.c_types.proofs.parameter.same_parameters.Given as goal

abbrev pub invariant-loop-i : goal.invariant-loop-i
invariant-loop-i l = record {
  within : l.i ≤ length l.b;
  long : length l.a ≡ length l.b;
  same : l.are_same ≡ same_types (types_of (drop l.i l.a)) (types_of (drop l.i l.b));
}

abbrev pub decreases-loop-i : goal.decreases-loop-i
decreases-loop-i l = l.i
