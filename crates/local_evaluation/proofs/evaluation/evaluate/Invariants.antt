use Rattle.std.proofs.Common.{◌≡◌}
use Rattle.c_semantics.specs.Evaluation.{local}
use Rattle.local_evaluation.specs.Pieces.{pending}
use Rattle.resolved_tree.specs.Trees.{table}
use Rattle.local_evaluation.specs.Weights.{weight}
use Rattle.local_evaluation.specs.Work.{newest, scopes_of}
use Rattle.local_evaluation.proofs.evaluation.evaluate.Given as goal

abbrev pub invariant-loop-piece : goal.invariant-loop-piece
invariant-loop-piece l =
    let t = table l.trees in
    local (pending t l.initial.work.pieces.items) (newest l.initial.work.values.items) (scopes_of t l.initial.work.scopes.items)
    ≡ local (pending t l.work.pieces.items) (newest l.work.values.items) (scopes_of t l.work.scopes.items)

abbrev pub decreases-loop-piece : goal.decreases-loop-piece
decreases-loop-piece l = weight (pending (table l.trees) l.work.pieces.items)
