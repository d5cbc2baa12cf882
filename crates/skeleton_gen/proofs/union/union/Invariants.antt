use Rattle.std.proofs.Common.{◌≡◌, ◌≤◌, length, take}
use Rattle.c_semantics.specs.Skeletons.{union}
use Rattle.skeleton_gen.proofs.union.union.Given as goal

abbrev pub invariant-loop-left : goal.invariant-loop-left
invariant-loop-left l = record {
  within : l.left ≤ length l.first;
  rest : union (take l.left l.first) l.set.items ≡ union l.first l.fn.second.items;
}

abbrev pub decreases-loop-left : goal.decreases-loop-left
decreases-loop-left l = l.left
