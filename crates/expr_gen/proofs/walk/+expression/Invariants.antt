use Rattle.std.proofs.Common.{◌+◌, ◌*◌}
use Rattle.resolved_tree.specs.Nodes.{expression_at, arguments_at, expression_of}
use Rattle.local_evaluation.specs.Weights.{of_expression, of_expressions}
use Rattle.expr_gen.specs.Operands.{operand_weight}
use Rattle.expr_gen.specs.Scope.{trees_of}
use Rattle.expr_gen.proofs.walk.+expression.Given as goal

abbrev pub decreases-expression : goal.decreases-expression
decreases-expression l = 4 * of_expression (expression_at (trees_of l.context.now) l.e) + 1

abbrev pub decreases-prepare : goal.decreases-prepare
decreases-prepare l = 4 * of_expression (expression_of (trees_of l.context.now) l.node)

abbrev pub decreases-operand : goal.decreases-operand
decreases-operand l = 4 * operand_weight (trees_of l.context.now) l.part + 3

abbrev pub decreases-arguments : goal.decreases-arguments
decreases-arguments l = 4 * of_expressions (arguments_at (trees_of l.context.now) l.es) + 2

abbrev pub decreases-logical : goal.decreases-logical
decreases-logical l =
    let t = trees_of l.context.now in
    4 * (of_expression (expression_at t l.sides.0) + of_expression (expression_at t l.sides.1)) + 2

abbrev pub decreases-choice : goal.decreases-choice
decreases-choice l =
    let t = trees_of l.context.now in
    4 * (of_expression (expression_at t l.parts.0) + of_expression (expression_at t l.parts.1) + of_expression (expression_at t l.parts.2)) + 2
