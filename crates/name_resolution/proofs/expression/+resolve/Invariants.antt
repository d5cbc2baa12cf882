use Rattle.std.proofs.Common.{◌≡◌, map, take}
use Rattle.c_tree.specs.Bare.{bare_expr}
use Rattle.c_semantics.specs.Resolution.{tree_of}
use Rattle.resolved_tree.specs.Nodes.{Table, expression_at}
use Rattle.name_resolution.specs.Found.{Grows, IsIn, each_node}
use Rattle.name_resolution.specs.Known.{known_of, locals_of}
use Rattle.resolved_tree.specs.Trees.{table}
use Rattle.name_resolution.proofs.expression.+resolve.Given as goal

abbrev pub invariant-all-loop-expr : goal.invariant-all-loop-expr
invariant-all-loop-expr l = record {
  within : IsIn (table l.trees) (each_node l.ids.items);
  grows : Grows (table l.fn.trees) (table l.trees);
  trees : (u : Table) → Grows (table l.trees) u
      → map (expression_at u) l.ids.items ≡ map (tree_of (known_of l.known) (locals_of l.locals)) (map bare_expr (take l.expr-index l.expr-items));
}
