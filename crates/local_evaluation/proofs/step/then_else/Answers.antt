use Rattle.std.proofs.Common.{[], ◌∷◌, refl, arith}
use Rattle.c_semantics.specs.Pieces.{ThenElse}
use Rattle.local_evaluation.specs.declared.piece.Piece.TheVariants as node
use Rattle.resolved_tree.specs.Nodes.{statement_at}
use Rattle.resolved_tree.specs.Trees.{table}
use Rattle.local_evaluation.proofs.Following.{from_decide}
use Rattle.local_evaluation.proofs.step.then_else.Goals as goal

pub returns : goal.returns
returns c = λ q.
    let t = table c.args.trees.now in
    from_decide t q (ThenElse (statement_at t c.args.a) (statement_at t c.args.b) c.args.n) c.args.work.now c.decide.new.work c.decide.result
    (node.Do c.args.a c.args.n ∷ []) (node.Do c.args.b c.in_ok-second.second ∷ []) (rw c.in_ok-second.ensures refl) (omega arith)
    c.decide.ensures.meaning c.decide.ensures.scopes c.decide.ensures.falls
