use Rattle.std.proofs.Common.{◌≡◌, map, take}
use Rattle.c_tree.specs.Bare.{bare_binding}
use Rattle.expr_gen.specs.Scope.{binding_of}
use Rattle.name_resolution.specs.Found.{Grows}
use Rattle.resolved_tree.specs.Nodes.{Table}
use Rattle.resolved_tree.specs.Trees.{table}
use Rattle.text_code.proofs.outline.in_order.Given as goal

abbrev pub invariant-loop-one : goal.invariant-loop-one
invariant-loop-one l = record {
  grows : Grows (table l.fn.trees) (table l.trees);
  made : (u : Table) → Grows (table l.trees) u → map (binding_of u) l.variables.items ≡ map bare_binding (take l.one-index l.declared);
}
