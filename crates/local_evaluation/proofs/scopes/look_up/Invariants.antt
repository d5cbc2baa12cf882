use Rattle.std.proofs.Common.{◌≡◌, ◌≤◌, take, length}
use Rattle.c_semantics.specs.Evaluation.{look_up}
use Rattle.resolved_tree.specs.Nodes.{word}
use Rattle.resolved_tree.specs.Trees.{table}
use Rattle.local_evaluation.specs.Work.{scopes_of}
use Rattle.local_evaluation.proofs.scopes.look_up.Given as goal

abbrev pub invariant-loop-left : goal.invariant-loop-left
invariant-loop-left l = record {
  within : l.left ≤ length l.scopes;
  same : look_up (scopes_of (table l.trees) (take l.left l.scopes)) (word (table l.trees) l.name)
      ≡ look_up (scopes_of (table l.trees) l.scopes) (word (table l.trees) l.name);
}

abbrev pub decreases-loop-left : goal.decreases-loop-left
decreases-loop-left l = l.left
