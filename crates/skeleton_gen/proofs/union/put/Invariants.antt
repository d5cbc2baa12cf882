use Rattle.std.proofs.Common.{◌≡◌, ◌++◌, ◌≤◌, ◌-◌, take, drop, vec_len}
use Rattle.c_semantics.specs.Skeletons.{with_point}
use Rattle.skeleton_gen.proofs.union.put.Given as goal

abbrev pub invariant-loop-i : goal.invariant-loop-i
invariant-loop-i l = record {
  within : l.i ≤ vec_len l.set;
  passed : with_point l.n l.set.items ≡ take l.i l.set.items ++ with_point l.n (drop l.i l.set.items);
}

abbrev pub decreases-loop-i : goal.decreases-loop-i
decreases-loop-i l = vec_len l.set - l.i
