use Rattle.std.proofs.Common.{ap, ◌∙◌, arith}
use Rattle.std.specs.Prelude.{slice_index_or}
use Rattle.c_tree.specs.declared.stmt.Stmt.{out-Stmt}
use Rattle.c_semantics.specs.Places.{statements_of}
use Rattle.resolved_tree.specs.Nodes.{statement_at, statements_at}
use Rattle.resolved_tree.specs.Trees.{table}
use Rattle.point_places.proofs.Weights.{of_statements}
use Rattle.point_places.proofs.Appending.{statement_added}
use Rattle.point_places.proofs.statement.+statement.Goals as goal

pub each_inner-loop-a-preserved : goal.each_inner-loop-a-preserved
each_inner-loop-a-preserved t c =
    let tab = table c.args.trees.now in
    let list = statements_of (out-Stmt c.args.s.now).node in
    record {
      smaller = omega (arith, ap of_statements c.in-Then.ensures);
      added = λ m. statement_added (statement_at tab c.in-Then.a) (statements_at tab c.in-Then.next) (statements_at tab c.loop-a.rest)
          list c.inner.result.now c.loop-a.k c.in_ok-k.k c.loop-a.places.items c.statement.new.places.items _
          c.in-Then.ensures (c.inner.ensures ∙ ap (λ d. slice_index_or list c.loop-a.k d) m) c.in_ok-k.ensures c.in_ok-statement.ensures
          (c.loop-a.invariant.added m);
    }

pub each_of-loop-a-preserved : goal.each_of-loop-a-preserved
each_of-loop-a-preserved t c =
    let tab = table c.args.trees.now in
    let list = c.args.stmts.now in
    record {
      smaller = omega (arith, ap of_statements c.in-Then.ensures);
      added = λ m. statement_added (statement_at tab c.in-Then.a) (statements_at tab c.in-Then.next) (statements_at tab c.loop-a.rest)
          list c.nth.result.now c.loop-a.k c.in_ok-k.k c.loop-a.places.items c.statement.new.places.items _
          c.in-Then.ensures (c.nth.ensures ∙ ap (λ d. slice_index_or list c.loop-a.k d) m) c.in_ok-k.ensures c.in_ok-statement.ensures
          (c.loop-a.invariant.added m);
    }
