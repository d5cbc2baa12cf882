use Rattle.std.proofs.Common.{[], ◌∷◌, refl, arith}
use Rattle.c_semantics.specs.Pieces.{OrElse}
use Rattle.c_ints.specs.declared.int.Int.TheVariants.{I32}
use Rattle.std.proofs.Common.{pos}
use Rattle.local_evaluation.specs.declared.piece.Piece.TheVariants as node
use Rattle.local_evaluation.specs.declared.value.Value.TheVariants.{Number}
use Rattle.resolved_tree.specs.Nodes.{expression_at}
use Rattle.local_evaluation.proofs.Following.{from_decide}
use Rattle.local_evaluation.proofs.step.or_else.Goals as goal

pub returns : goal.returns
returns c = λ t q.
    from_decide t q (OrElse (expression_at t c.args.b) c.args.n) c.args.work.now c.decide.new.work c.decide.result
    (node.Push (Number (I32 (pos 1))) ∷ []) (node.Compute c.args.b c.args.n ∷ node.Truth ∷ []) refl (omega arith)
    c.decide.ensures.meaning c.decide.ensures.scopes c.decide.ensures.falls
