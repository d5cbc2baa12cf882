use Rattle.std.proofs.Common.{[], ◌∷◌, refl, arith}
use Rattle.c_semantics.specs.Pieces.{Choose}
use Rattle.local_evaluation.specs.declared.piece.Piece.TheVariants as node
use Rattle.resolved_tree.specs.Nodes.{expression_at}
use Rattle.resolved_tree.specs.Trees.{table}
use Rattle.local_evaluation.proofs.Following.{from_decide}
use Rattle.local_evaluation.proofs.step.choose.Goals as goal

pub returns : goal.returns
returns c = λ q.
    let t = table c.args.trees.now in
    from_decide t q (Choose (expression_at t c.args.a) (expression_at t c.args.b) c.args.n) c.args.work.now c.decide.new.work c.decide.result
    (node.Compute c.args.a c.args.n ∷ []) (node.Compute c.args.b c.in_ok-second.second ∷ []) (rw c.in_ok-second.ensures refl) (omega arith)
    c.decide.ensures.meaning c.decide.ensures.scopes c.decide.ensures.falls
