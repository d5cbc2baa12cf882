use Rattle.std.proofs.Common.{◌≡◌, ◌≤◌, ◌+◌, ◌*◌, ◌-◌, length, take, drop}
use Rattle.c_semantics.specs.Points.{size_stmts}
use Rattle.local_evaluation.specs.Weights as weight
use Rattle.resolved_tree.specs.Nodes.{statement_at, statements_at}
use Rattle.typed_trees.specs.StatementTypes.{declare_all}
use Rattle.typed_trees.specs.ValueTypes.{Environment}
use Rattle.bytecode_gen.specs.Tails.{Precedes, InScope, AreInside, in_a_row, statements_code, trees_of, look_of}
use Rattle.bytecode_gen.proofs.statement.+statement.Given as goal

abbrev pub decreases-statement : goal.decreases-statement
decreases-statement l = 4 * weight.of_statement (statement_at (trees_of l.source.now) l.s)

abbrev pub decreases-statements : goal.decreases-statements
decreases-statements l = 4 * weight.of_statements (statements_at (trees_of l.source.now) l.ss) + 1

abbrev pub decreases-conditional : goal.decreases-conditional
decreases-conditional l = 4 * weight.of_statement (statement_at (trees_of l.source.now) l.parts.1) + 1

abbrev pub decreases-alternative : goal.decreases-alternative
decreases-alternative l =
    4 * (weight.of_statement (statement_at (trees_of l.source.now) l.parts.1) + weight.of_statement (statement_at (trees_of l.source.now) l.parts.2)) + 1

abbrev pub decreases-transaction : goal.decreases-transaction
decreases-transaction l = 4 * weight.of_statements (statements_at (trees_of l.source.now) l.ss) + 2

abbrev pub decreases-turns : goal.decreases-turns
decreases-turns l = 4 * weight.of_statement (statement_at (trees_of l.source.now) l.l.body) + 1

abbrev pub decreases-do_turns : goal.decreases-do_turns
decreases-do_turns l = 4 * weight.of_statement (statement_at (trees_of l.source.now) l.parts.0) + 1

abbrev pub decreases-for_turns : goal.decreases-for_turns
decreases-for_turns l =
    4 * (weight.of_statements (statements_at (trees_of l.source.now) l.parts.0) + weight.of_statement (statement_at (trees_of l.source.now) l.parts.3)) + 3

abbrev pub invariant-statements-loop-left : goal.invariant-statements-loop-left
invariant-statements-loop-left l = let t = trees_of l.source in record {
  within : l.left ≤ length l.list.items;
  inside : AreInside l.jumps l.tail.items;
  at : l.at ≡ l.fn.n + size_stmts (in_a_row t (take l.left l.list.items));
  scope : (env : Environment) → InScope t env l.fn.variables.items
      → InScope t (declare_all (in_a_row t (take l.left l.list.items)) env) l.variables.items;
  code : (env : Environment) → InScope t env l.fn.variables.items
      → Precedes t l.fn.tail.items l.tail.items (statements_code (look_of l.source) (in_a_row t (drop l.left l.list.items)) l.at l.jumps l.fn.tail.items
      (declare_all (in_a_row t (take l.left l.list.items)) env));
}

abbrev pub decreases-statements-loop-left : goal.decreases-statements-loop-left
decreases-statements-loop-left l = l.left
