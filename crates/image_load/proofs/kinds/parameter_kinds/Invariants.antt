use Rattle.std.proofs.Common.{◌≡◌, ◌≤◌, map, drop, length}
use Rattle.c_tree.specs.Bare.{bare_binding}
use Rattle.formed_code.specs.FormedLaws.{kinds_of}
use Rattle.image_load.proofs.kinds.parameter_kinds.Given as goal

abbrev pub invariant-loop-left : goal.invariant-loop-left
invariant-loop-left l = record {
  within : l.left ≤ length l.parameters;
  done : l.kinds.items ≡ kinds_of (map bare_binding (drop l.left l.parameters));
}

abbrev pub decreases-loop-left : goal.decreases-loop-left
decreases-loop-left l = l.left
