use Rattle.std.proofs.Common.{ℕ, ◌+◌, List, ◌∷◌, ap, ◌∙◌}
use Rattle.c_semantics.specs.Values.{Value}
use Rattle.c_semantics.specs.Pieces.{Piece, Sequence, Push, At}
use Rattle.c_semantics.specs.Stops.{Return}
use Rattle.c_semantics.specs.Points.{size_stmts}
use Rattle.resolved_tree.specs.Nodes.{statements_at}
use Rattle.local_evaluation.specs.Pieces.{pending}
use Rattle.resolved_tree.specs.Trees.{table}
use Rattle.source_programs.proofs.Entering.{ok_as}
use Rattle.source_programs.proofs.frame.put_body.Goals as goal

pub returns : goal.returns
returns c =
    let t = table c.args.trees.now in
    let body = statements_at t c.args.body in
    let made : Value → ℕ → List Piece = λ v n. Sequence body 1 ∷ Push v ∷ At Return n ∷ pending t c.args.pieces.now.items in
    ok_as c.put.result c.put.ensures
    (λ h. h t ∙ ap (made _) (c.in_ok-sum.ensures ∙ ap (λ n. 1 + n) c.statements_points-points.ensures)
    ∙ ap (λ v. made v (1 + size_stmts body)) (c.zero_of.ensures t))
