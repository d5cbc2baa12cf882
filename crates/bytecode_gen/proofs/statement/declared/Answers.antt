use Rattle.std.proofs.Common.{map, ap, ◌∙◌}
use Rattle.name_resolution.specs.Found.{before}
use Rattle.resolved_tree.specs.Nodes.{statement_at, statements_at}
use Rattle.resolved_tree.specs.Trees.{table}
use Rattle.typed_trees.specs.StatementTypes.{declare_all}
use Rattle.bytecode_gen.specs.Tails.{in_a_row}
use Rattle.bytecode_gen.proofs.Rows.{row_more, more_in_scope}
use Rattle.bytecode_gen.proofs.statement.declared.Goals as goal

pub loop-s-preserved : goal.loop-s-preserved
loop-s-preserved c =
    let t = table c.args.trees.now in
    let list = c.loop-s.list.items in
    let s = c.in-Then.s in
    record {
      list = ap (λ ids. before (map (statement_at t) ids) (statements_at t c.in-Then.next)) c.in_ok-push.ensures.items
          ∙ row_more t list s (statements_at t c.in-Then.next)
          ∙ ap (before (map (statement_at t) list)) c.in-Then.ensures ∙ c.loop-s.invariant.list;
      scope = λ env h. more_in_scope t list _ s env _ c.in_ok-push.ensures.items
          (c.in_ok-remember.ensures (declare_all (in_a_row t list) env) (c.loop-s.invariant.scope env h));
    }
