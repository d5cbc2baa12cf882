use Rattle.std.proofs.Common.{◌≡◌, ◌≤◌, take, length, find, bytes_eq}
use Rattle.resolved_tree.specs.Nodes.{word}
use Rattle.source_data.specs.Stores.{holders_of}
use Rattle.resolved_tree.specs.Trees.{table}
use Rattle.source_data.proofs.mutexes.holder_of.Given as goal

abbrev pub invariant-loop-left : goal.invariant-loop-left
invariant-loop-left l = record {
  within : l.left ≤ length l.holders;
  same : find (λ h. bytes_eq (word (table l.trees) l.mutex) h.mutex) (holders_of (table l.trees) (take l.left l.holders))
      ≡ find (λ h. bytes_eq (word (table l.trees) l.mutex) h.mutex) (holders_of (table l.trees) l.holders);
}

abbrev pub decreases-loop-left : goal.decreases-loop-left
decreases-loop-left l = l.left
