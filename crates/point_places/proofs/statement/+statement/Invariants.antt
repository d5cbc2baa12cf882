use Rattle.std.proofs.Common.{◌≡◌, ◌++◌, ◌+◌, ◌*◌, ◌≤◌, drop}
use Rattle.c_tree.specs.declared.stmt.Stmt.{out-Stmt}
use Rattle.c_semantics.specs.Places.{statements_of, statements_places, no_statement}
use Rattle.resolved_tree.specs.Nodes.{statement_at, statement_of, statements_at}
use Rattle.resolved_tree.specs.Trees.{table}
use Rattle.point_places.proofs.Weights.{of_statement, of_statements}
use Rattle.point_places.proofs.statement.+statement.Given as goal

abbrev pub decreases-statement : goal.decreases-statement
decreases-statement l = 8 * of_statement (statement_at (table l.trees.now) l.id) + 3

abbrev pub decreases-node : goal.decreases-node
decreases-node l = 8 * of_statement (statement_of (table l.trees.now) l.node) + 2

abbrev pub decreases-guarded : goal.decreases-guarded
decreases-guarded l = 8 * of_statement (statement_at (table l.trees.now) l.a) + 4

abbrev pub decreases-turn : goal.decreases-turn
decreases-turn l = 8 * of_statement (statement_at (table l.trees.now) l.a) + 4

abbrev pub decreases-block : goal.decreases-block
decreases-block l = 8 * of_statements (statements_at (table l.trees.now) l.list) + 1

abbrev pub decreases-each_inner : goal.decreases-each_inner
decreases-each_inner l = 8 * of_statements (statements_at (table l.trees.now) l.list)

abbrev pub decreases-sequence : goal.decreases-sequence
decreases-sequence l = 8 * of_statements (statements_at (table l.trees.now) l.list) + 1

abbrev pub decreases-each_of : goal.decreases-each_of
decreases-each_of l = 8 * of_statements (statements_at (table l.trees.now) l.list)

abbrev pub invariant-each_inner-loop-a : goal.invariant-each_inner-loop-a
invariant-each_inner-loop-a l = record {
  smaller : of_statements (statements_at (table l.trees) l.rest) ≤ of_statements (statements_at (table l.trees) l.fn.list);
  added : l.missing ≡ no_statement →
      l.places.items ++ statements_places (statements_at (table l.trees) l.rest) (drop l.k (statements_of (out-Stmt l.s).node))
      ≡ l.initial.places.items ++ statements_places (statements_at (table l.trees) l.fn.list) (statements_of (out-Stmt l.s).node);
}

abbrev pub decreases-each_inner-loop-a : goal.decreases-each_inner-loop-a
decreases-each_inner-loop-a l = of_statements (statements_at (table l.trees) l.rest)

abbrev pub invariant-each_of-loop-a : goal.invariant-each_of-loop-a
invariant-each_of-loop-a l = record {
  smaller : of_statements (statements_at (table l.trees) l.rest) ≤ of_statements (statements_at (table l.trees) l.fn.list);
  added : l.missing ≡ no_statement →
      l.places.items ++ statements_places (statements_at (table l.trees) l.rest) (drop l.k l.stmts)
      ≡ l.initial.places.items ++ statements_places (statements_at (table l.trees) l.fn.list) l.stmts;
}

abbrev pub decreases-each_of-loop-a : goal.decreases-each_of-loop-a
decreases-each_of-loop-a l = of_statements (statements_at (table l.trees) l.rest)
