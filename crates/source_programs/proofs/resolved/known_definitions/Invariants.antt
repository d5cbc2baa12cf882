use Rattle.std.proofs.Common.{◌≡◌, map, take}
use Rattle.c_tree.specs.BareExpr.{Bytes}
use Rattle.c_tree.specs.Bare.{bare_def}
use Rattle.c_semantics.specs.Texts.{definition, names}
use Rattle.resolved_tree.specs.Nodes.{Table}
use Rattle.name_resolution.specs.Known.{known_of}
use Rattle.name_resolution.specs.Found.{Grows}
use Rattle.resolved_tree.specs.Trees.{table}
use Rattle.source_programs.specs.Definitions.{kept, IsDefinition, names_in, tree_kept}
use Rattle.source_programs.proofs.resolved.known_definitions.Given as goal

abbrev pub invariant-loop-place : goal.invariant-loop-place
invariant-loop-place l = record {
  grows : Grows (table l.fn.trees) (table l.trees);
  made : (u : Table) → Grows (table l.trees) u → (name : Bytes)
      → IsDefinition u (known_of l.known) (kept u l.definitions.items name) (definition (map bare_def (take l.place l.text)) name);
  trees : (u : Table) → Grows (table l.trees) u → (name : Bytes)
      → tree_kept u (map bare_def l.text) l.definitions.items name ≡ definition (map bare_def (take l.place l.text)) name;
  names : (u : Table) → Grows (table l.trees) u → names_in u l.definitions.items ≡ names (map bare_def (take l.place l.text));
}
