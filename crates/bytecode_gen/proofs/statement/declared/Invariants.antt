use Rattle.std.proofs.Common.{◌≡◌, map}
use Rattle.local_evaluation.specs.Weights.{of_statements}
use Rattle.name_resolution.specs.Found.{before}
use Rattle.resolved_tree.specs.Nodes.{statement_at, statements_at}
use Rattle.resolved_tree.specs.Trees.{table}
use Rattle.typed_trees.specs.StatementTypes.{declare_all}
use Rattle.typed_trees.specs.ValueTypes.{Environment}
use Rattle.bytecode_gen.specs.Tails.{InScope, in_a_row}
use Rattle.bytecode_gen.proofs.statement.declared.Given as goal

abbrev pub invariant-loop-s : goal.invariant-loop-s
invariant-loop-s l = let t = table l.trees in record {
  list : before (map (statement_at t) l.list.items) (statements_at t l.rest) ≡ statements_at t l.fn.ss;
  scope : (env : Environment) → InScope t env l.fn.variables.items → InScope t (declare_all (in_a_row t l.list.items) env) l.variables.items;
}

abbrev pub decreases-loop-s : goal.decreases-loop-s
decreases-loop-s l = of_statements (statements_at (table l.trees) l.rest)
