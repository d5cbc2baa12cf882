use Rattle.std.proofs.Common.{◌≡◌, ◌++◌, ◌+◌, ◌*◌, ◌≤◌, drop}
use Rattle.c_semantics.specs.Places.{without_casts, operands, all_places, nothing}
use Rattle.resolved_tree.specs.Nodes.{expression_at, expression_of, arguments_at, place_of}
use Rattle.resolved_tree.specs.Trees.{table}
use Rattle.point_places.proofs.Weights.{of_expression, of_expressions, of_parts}
use Rattle.point_places.proofs.expression.+expression.Given as goal

abbrev pub decreases-expression : goal.decreases-expression
decreases-expression l = 8 * of_expression (expression_at (table l.trees.now) l.id) + 3

abbrev pub decreases-node : goal.decreases-node
decreases-node l = 8 * of_expression (expression_of (table l.trees.now) l.node) + 2

abbrev pub decreases-both : goal.decreases-both
decreases-both l =
    8 * (of_expression (expression_at (table l.trees.now) l.a) + of_expression (expression_at (table l.trees.now) l.b)) + 4

abbrev pub decreases-target : goal.decreases-target
decreases-target l =
    8 * (of_parts (place_of (table l.trees.now) l.place) + of_expression (expression_at (table l.trees.now) l.value)) + 4

abbrev pub decreases-update : goal.decreases-update
decreases-update l =
    8 * (of_parts (place_of (table l.trees.now) l.place) + of_expression (expression_at (table l.trees.now) l.value)) + 4

abbrev pub decreases-join_into : goal.decreases-join_into
decreases-join_into l =
    8 * (of_expression (expression_at (table l.trees.now) l.thread) + of_parts (place_of (table l.trees.now) l.place)) + 4

abbrev pub decreases-parts : goal.decreases-parts
decreases-parts l = 8 * of_parts (place_of (table l.trees.now) l.place)

abbrev pub decreases-arguments : goal.decreases-arguments
decreases-arguments l = 8 * of_expressions (arguments_at (table l.trees.now) l.list) + 1

abbrev pub decreases-each : goal.decreases-each
decreases-each l = 8 * of_expressions (arguments_at (table l.trees.now) l.list)

abbrev pub invariant-each-loop-argument : goal.invariant-each-loop-argument
invariant-each-loop-argument l = record {
  smaller : of_expressions (arguments_at (table l.trees) l.rest) ≤ of_expressions (arguments_at (table l.trees) l.fn.list);
  added : without_casts l.missing ≡ nothing →
      l.places.items ++ all_places (arguments_at (table l.trees) l.rest) (drop l.k (operands (without_casts l.e)))
      ≡ l.initial.places.items ++ all_places (arguments_at (table l.trees) l.fn.list) (operands (without_casts l.e));
}

abbrev pub decreases-each-loop-argument : goal.decreases-each-loop-argument
decreases-each-loop-argument l = of_expressions (arguments_at (table l.trees) l.rest)
