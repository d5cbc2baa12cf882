use Rattle.std.proofs.Common.{[], ◌∷◌, refl, arith}
use Rattle.c_semantics.specs.Pieces.{Then}
use Rattle.local_evaluation.specs.declared.piece.Piece.TheVariants as node
use Rattle.resolved_tree.specs.Nodes.{statement_at}
use Rattle.local_evaluation.proofs.Following.{from_decide}
use Rattle.local_evaluation.proofs.step.then.Goals as goal

pub returns : goal.returns
returns c = λ t q.
    from_decide t q (Then (statement_at t c.args.s) c.args.n) c.args.work.now c.decide.new.work c.decide.result
    (node.Do c.args.s c.args.n ∷ []) [] refl (omega arith)
    c.decide.ensures.meaning c.decide.ensures.scopes c.decide.ensures.falls
