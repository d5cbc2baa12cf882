use Rattle.std.proofs.Common.{◌≡◌, ◌≤◌, map, reverse, drop, length}
use Rattle.resolved_tree.specs.Trees.{table}
use Rattle.skeletons.specs.Meaning.{point_of}
use Rattle.skeleton_gen.specs.Drawn.{spot_of}
use Rattle.skeleton_gen.specs.Naming.{AllKnown}
use Rattle.skeleton_gen.proofs.naming.named.Given as goal

abbrev pub invariant-loop-left : goal.invariant-loop-left
invariant-loop-left l = record {
  within : l.left ≤ length l.spots;
  points : map (point_of l.names) l.points.items ≡ reverse (map (spot_of (table l.trees)) (drop l.left l.spots));
  known : AllKnown (length l.names) l.points.items;
}

abbrev pub decreases-loop-left : goal.decreases-loop-left
decreases-loop-left l = l.left
