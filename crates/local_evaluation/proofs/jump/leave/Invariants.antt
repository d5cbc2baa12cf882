use Rattle.std.proofs.Common.{◌≡◌, ◌≤◌, List, vec_len}
use Rattle.c_semantics.specs.Values.{Value}
use Rattle.c_semantics.specs.Evaluation.{ways}
use Rattle.resolved_tree.specs.Nodes.{Table}
use Rattle.local_evaluation.specs.Pieces.{pending}
use Rattle.local_evaluation.specs.Weights.{weight}
use Rattle.local_evaluation.specs.Work.{scopes_of, way}
use Rattle.local_evaluation.proofs.jump.leave.Given as goal

abbrev pub invariant-loop-piece : goal.invariant-loop-piece
invariant-loop-piece l = record {
  meaning : (t : Table) (values : List Value)
      → way l.jump (ways (pending t l.initial.pieces.items)) values (scopes_of t l.initial.scopes.items)
      ≡ way l.jump (ways (pending t l.pieces.items)) values (scopes_of t l.scopes.items);
  falls : (t : Table) → weight (pending t l.pieces.items) ≤ weight (pending t l.initial.pieces.items);
}

abbrev pub decreases-loop-piece : goal.decreases-loop-piece
decreases-loop-piece l = vec_len l.pieces
