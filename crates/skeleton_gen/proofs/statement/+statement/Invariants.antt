use Rattle.std.proofs.Common.{◌≤◌, ◌+◌, ◌*◌, length, drop}
use Rattle.c_semantics.specs.Points.{of_statements}
use Rattle.c_semantics.specs.Skeletons as flow
use Rattle.resolved_tree.specs.Nodes.{statement_at, statements_at}
use Rattle.resolved_tree.specs.Trees.{table}
use Rattle.skeleton_gen.specs.Adding.{AddsFlow, targets}
use Rattle.skeleton_gen.specs.Drawn.{drawn}
use Rattle.skeleton_gen.specs.Rows.{in_a_row}
use Rattle.skeleton_gen.specs.Weights as weight
use Rattle.skeleton_gen.proofs.statement.+statement.Given as goal

abbrev pub decreases-statement : goal.decreases-statement
decreases-statement l = 4 * weight.of_statement (statement_at (table l.trees.now) l.s)

abbrev pub decreases-statements : goal.decreases-statements
decreases-statements l = 4 * weight.of_statements (statements_at (table l.trees.now) l.ss) + 1

abbrev pub decreases-conditional : goal.decreases-conditional
decreases-conditional l = 4 * weight.of_statement (statement_at (table l.trees.now) l.a) + 1

abbrev pub decreases-alternative : goal.decreases-alternative
decreases-alternative l =
    4 * (weight.of_statement (statement_at (table l.trees.now) l.a) + weight.of_statement (statement_at (table l.trees.now) l.b)) + 1

abbrev pub decreases-transaction : goal.decreases-transaction
decreases-transaction l = 4 * weight.of_statements (statements_at (table l.trees.now) l.ss) + 2

abbrev pub decreases-turns : goal.decreases-turns
decreases-turns l = 4 * weight.of_statement (statement_at (table l.trees.now) l.l.body) + 1

abbrev pub decreases-do_turns : goal.decreases-do_turns
decreases-do_turns l = 4 * weight.of_statement (statement_at (table l.trees.now) l.body) + 1

abbrev pub invariant-statements-loop-left : goal.invariant-statements-loop-left
invariant-statements-loop-left l = let t = table l.trees in record {
  within : l.left ≤ length l.list.items;
  drawn : AddsFlow (of_statements l.depth (in_a_row t (drop l.left l.list.items)))
      (λ n. flow.statements (in_a_row t (drop l.left l.list.items)) n (targets l.fn.on.items l.jumps.broken.items l.jumps.continued.items))
      (drawn t l.fn.draft) (drawn t l.draft) l.to.items;
}

abbrev pub decreases-statements-loop-left : goal.decreases-statements-loop-left
decreases-statements-loop-left l = l.left
