use Rattle.std.proofs.Common.{◌≡◌, map, take}
use Rattle.c_tree.specs.Bare.{bare_binding}
use Rattle.resolved_tree.specs.Nodes.{Table}
use Rattle.name_resolution.specs.Found.{Grows}
use Rattle.resolved_tree.specs.Trees.{table}
use Rattle.source_programs.specs.Definitions.{bindings_of}
use Rattle.source_programs.proofs.resolved.bindings.Given as goal

abbrev pub invariant-loop-one : goal.invariant-loop-one
invariant-loop-one l = record {
  grows : Grows (table l.fn.trees) (table l.trees);
  made : (u : Table) → Grows (table l.trees) u → bindings_of u l.bindings.items ≡ map bare_binding (take l.one-index l.declared);
}
