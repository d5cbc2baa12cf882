use Rattle.std.proofs.Common.{◌≡◌, map, drop}
use Rattle.std.specs.Option.{option_map_or}
use Rattle.c_tree.specs.Bare.{bare_type, bare_stmt, bare_block}
use Rattle.c_semantics.specs.Texts.{int}
use Rattle.c_semantics.specs.Resolution.{statements, declared_by_all}
use Rattle.resolved_tree.specs.Nodes.{Table, statement_at}
use Rattle.name_resolution.specs.Found.{Grows, IsIn, each_node, before}
use Rattle.name_resolution.specs.Known.{known_of, locals_of}
use Rattle.resolved_tree.specs.Trees.{table}
use Rattle.name_resolution.proofs.statement.+resolve_statement.Given as goal

abbrev pub invariant-sequence-loop-stmt : goal.invariant-sequence-loop-stmt
invariant-sequence-loop-stmt l = record {
  within : IsIn (table l.trees) (each_node l.ids.items);
  grows : Grows (table l.fn.trees) (table l.trees);
  tree : (u : Table) → Grows (table l.trees) u
      → statements (known_of l.known) (option_map_or (λ t. bare_type t.now) l.returned int) (locals_of l.fn.locals.items) (bare_block (map bare_stmt l.stmt-items))
      ≡ before (map (statement_at u) l.ids.items)
      (statements (known_of l.known) (option_map_or (λ t. bare_type t.now) l.returned int) (locals_of l.locals.items)
      (bare_block (map bare_stmt (drop l.stmt-index l.stmt-items))));
  locals : declared_by_all (bare_block (map bare_stmt l.stmt-items)) (locals_of l.fn.locals.items)
      ≡ declared_by_all (bare_block (map bare_stmt (drop l.stmt-index l.stmt-items))) (locals_of l.locals.items);
}
