use Rattle.std.proofs.Common.{◌≡◌, ◌≤◌, length, map, drop}
use Rattle.c_semantics.specs.Resolved.{NoStatements}
use Rattle.resolved_tree.specs.Nodes.{Table, statement_at, statements_at}
use Rattle.resolved_tree.specs.Parts.{a_node}
use Rattle.name_resolution.specs.Found.{Grows, IsIn, before}
use Rattle.resolved_tree.specs.Trees.{table}
use Rattle.name_resolution.proofs.block.linked.Given as goal

abbrev pub invariant-loop-i : goal.invariant-loop-i
invariant-loop-i l = record {
  short : l.i ≤ length l.ids;
  within : IsIn (table l.trees) (a_node l.list);
  grows : Grows (table l.fn.trees) (table l.trees);
  tree : (u : Table) → Grows (table l.trees) u
      → statements_at u l.list ≡ before (drop l.i (map (statement_at u) l.ids)) NoStatements;
}

abbrev pub decreases-loop-i : goal.decreases-loop-i
decreases-loop-i l = l.i
