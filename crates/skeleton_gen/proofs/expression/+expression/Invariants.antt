use Rattle.std.proofs.Common.{◌+◌, ◌*◌}
use Rattle.resolved_tree.specs.Nodes.{expression_at, arguments_at}
use Rattle.resolved_tree.specs.Trees.{table}
use Rattle.skeleton_gen.specs.Steps.{step_weight}
use Rattle.skeleton_gen.specs.Weights.{of_expression, of_expressions}
use Rattle.skeleton_gen.proofs.expression.+expression.Given as goal

abbrev pub decreases-expression : goal.decreases-expression
decreases-expression l = 3 * of_expression (expression_at (table l.trees.now) l.e)

abbrev pub decreases-add_step : goal.decreases-add_step
decreases-add_step l = 3 * step_weight (table l.trees.now) l.step + 2

abbrev pub decreases-arguments : goal.decreases-arguments
decreases-arguments l = 3 * of_expressions (arguments_at (table l.trees.now) l.es) + 1

abbrev pub decreases-maybe : goal.decreases-maybe
decreases-maybe l = 3 * of_expression (expression_at (table l.trees.now) l.b) + 1

abbrev pub decreases-maybe_not : goal.decreases-maybe_not
decreases-maybe_not l = 3 * of_expression (expression_at (table l.trees.now) l.b) + 1

abbrev pub decreases-either : goal.decreases-either
decreases-either l =
    3 * (of_expression (expression_at (table l.trees.now) l.a) + of_expression (expression_at (table l.trees.now) l.b)) + 1
