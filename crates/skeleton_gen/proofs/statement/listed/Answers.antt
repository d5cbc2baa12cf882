use Rattle.std.proofs.Common.{map, ap, ◌∙◌}
use Rattle.name_resolution.specs.Found.{before}
use Rattle.resolved_tree.specs.Nodes.{statement_at, statements_at}
use Rattle.resolved_tree.specs.Trees.{table}
use Rattle.skeleton_gen.proofs.Rows.{row_more}
use Rattle.skeleton_gen.proofs.statement.listed.Goals as goal

pub loop-s-preserved : goal.loop-s-preserved
loop-s-preserved c =
    let t = table c.args.trees.now in
    let list = c.loop-s.list.items in
    ap (λ ids. before (map (statement_at t) ids) (statements_at t c.in-Then.next)) c.in_ok-push.ensures.items
    ∙ row_more t list c.in-Then.s (statements_at t c.in-Then.next)
    ∙ ap (before (map (statement_at t) list)) c.in-Then.ensures ∙ c.loop-s.invariant
