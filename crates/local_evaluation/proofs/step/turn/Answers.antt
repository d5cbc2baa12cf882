use Rattle.std.proofs.Common.{[], ◌∷◌, refl, arith}
use Rattle.c_semantics.specs.Pieces.{Turn}
use Rattle.local_evaluation.specs.declared.piece.Piece.TheVariants as node
use Rattle.local_evaluation.specs.Pieces.{loop_of}
use Rattle.resolved_tree.specs.Trees.{table}
use Rattle.local_evaluation.proofs.Following.{from_decide}
use Rattle.local_evaluation.proofs.step.turn.Goals as goal

pub returns : goal.returns
returns c = λ q.
    let t = table c.args.trees.now in
    from_decide t q (Turn (loop_of t c.args.l)) c.args.work.now c.decide.new.work c.decide.result
    (node.Do c.args.l.body c.in_ok-body.body ∷ node.AfterBody c.args.l ∷ []) [] (rw c.in_ok-body.ensures refl) (omega arith)
    c.decide.ensures.meaning c.decide.ensures.scopes c.decide.ensures.falls
