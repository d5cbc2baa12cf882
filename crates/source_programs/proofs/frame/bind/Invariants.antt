use Rattle.std.proofs.Common.{◌≡◌, ◌≤◌, ◌∷◌, length, map, drop}
use Rattle.c_semantics.specs.Threads.{bind}
use Rattle.resolved_tree.specs.Nodes.{Table}
use Rattle.local_evaluation.specs.Values.{seen}
use Rattle.local_evaluation.specs.Work.{scopes_of}
use Rattle.source_programs.specs.Definitions.{bindings_of}
use Rattle.source_programs.proofs.frame.bind.Given as goal

abbrev pub invariant-loop-left : goal.invariant-loop-left
invariant-loop-left l = record {
  within : l.left ≤ length l.parameters;
  scopes : (t : Table) → scopes_of t l.scopes.items
      ≡ bind (drop l.left (bindings_of t l.parameters)) (drop l.left (map seen l.arguments)) ∷ scopes_of t l.fn.scopes.items;
}

abbrev pub decreases-loop-left : goal.decreases-loop-left
decreases-loop-left l = l.left
