use Rattle.std.proofs.Common.{◌≡◌, ◌≤◌, length, drop}
use Rattle.c_definitions.specs.Lookup.{types_of}
use Rattle.c_types.specs.Definitions.{same_types}
use Rattle.c_types.proofs.parameter.have_types.Given as goal

abbrev pub invariant-loop-i : goal.invariant-loop-i
invariant-loop-i l = record {
  within : l.i ≤ length l.types;
  long : length l.parameters ≡ length l.types;
  same : l.are_same ≡ same_types (types_of (drop l.i l.parameters)) (drop l.i l.types);
}

abbrev pub decreases-loop-i : goal.decreases-loop-i
decreases-loop-i l = l.i
