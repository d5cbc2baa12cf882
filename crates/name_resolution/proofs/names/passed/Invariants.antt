use Rattle.std.proofs.Common.{◌≡◌, ◌≤◌, length, map, drop}
use Rattle.c_tree.specs.Bare.{bare_binding}
use Rattle.c_semantics.specs.Resolution.{passed}
use Rattle.resolved_tree.specs.Nodes.{Table, expression_at, arguments_at}
use Rattle.resolved_tree.specs.Parts.{a_node}
use Rattle.name_resolution.specs.Found.{Grows, IsIn, listed}
use Rattle.resolved_tree.specs.Trees.{table}
use Rattle.name_resolution.proofs.names.passed.Given as goal

abbrev pub invariant-loop-i : goal.invariant-loop-i
invariant-loop-i l = record {
  short : l.i ≤ length l.ids;
  within : IsIn (table l.trees) (a_node l.list);
  grows : Grows (table l.fn.trees) (table l.trees);
  tree : (u : Table) → Grows (table l.trees) u
      → arguments_at u l.list ≡ passed (listed (drop l.i (map (expression_at u) l.ids))) (drop l.i (map bare_binding l.parameters));
}

abbrev pub decreases-loop-i : goal.decreases-loop-i
decreases-loop-i l = l.i
