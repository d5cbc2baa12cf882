use Rattle.std.proofs.Common.{◌≤◌, length, bytes_eq}
use Rattle.resolved_tree.specs.Nodes.{word}
use Rattle.resolved_tree.specs.Trees.{table}
use Rattle.source_programs.proofs.Placed.{ArePlaced}
use Rattle.source_programs.proofs.ready.places_of_names.Given as goal

abbrev pub invariant-loop-left : goal.invariant-loop-left
invariant-loop-left l = record {
  within : l.left ≤ length l.definitions;
  placed : ArePlaced (λ name d. bytes_eq name (word (table l.trees) d.name)) l.places l.left l.definitions;
}

abbrev pub decreases-loop-left : goal.decreases-loop-left
decreases-loop-left l = l.left
