use Rattle.std.proofs.Common.{◌≡◌, ◌≤◌, take, drop, length}
use Rattle.c_semantics.specs.Evaluation.{stored}
use Rattle.resolved_tree.specs.Nodes.{word}
use Rattle.resolved_tree.specs.Trees.{table}
use Rattle.local_evaluation.specs.Values.{seen}
use Rattle.local_evaluation.specs.Work.{scopes_on, scopes_of}
use Rattle.local_evaluation.proofs.scopes.store.Given as goal

abbrev pub invariant-loop-left : goal.invariant-loop-left
invariant-loop-left l =
    let t = table l.trees in
    let name = word t l.name in
    record {
      within : l.left ≤ length l.scopes;
      same : l.scopes ≡ l.initial.scopes;
      rest : stored name (seen l.value) (scopes_of t l.scopes)
          ≡ scopes_on t (drop l.left l.scopes) (stored name (seen l.value) (scopes_of t (take l.left l.scopes)));
    }

abbrev pub decreases-loop-left : goal.decreases-loop-left
decreases-loop-left l = l.left
