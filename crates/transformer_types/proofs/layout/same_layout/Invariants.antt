use Rattle.std.proofs.Common.{◌≡◌, ◌≤◌, length, drop, map}
use Rattle.c_tree.specs.Bare.{bare_binding}
use Rattle.c_semantics.specs.Changes.{same_layout}
use Rattle.transformer_types.proofs.layout.same_layout.Given as goal

abbrev pub invariant-loop-i : goal.invariant-loop-i
invariant-loop-i l = record {
  within : l.i ≤ length l.a;
  long : length l.a ≡ length l.b;
  same : l.are_same ≡ same_layout (map bare_binding (drop l.i l.a)) (map bare_binding (drop l.i l.b));
}

abbrev pub decreases-loop-i : goal.decreases-loop-i
decreases-loop-i l = l.i
