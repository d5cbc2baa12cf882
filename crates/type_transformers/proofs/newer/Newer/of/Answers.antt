use Rattle.std.proofs.Common.{sym, subst, List}
use Rattle.c_tree.specs.declared.def.Def.{Def}
use Rattle.type_transformers.specs.Newer.{HasSmallStructs}
use Rattle.type_transformers.proofs.Limits.{small_structs}
use Rattle.type_transformers.proofs.newer.Newer.of.Goals as goal

pub invariant_of-result : goal.invariant_of-result
invariant_of-result c = (
  c.in_ok-known.ensures,
  c.in_ok-structs.ensures,
  c.in_ok-globals.ensures,
  subst {A = List Def} HasSmallStructs (sym c.as_slice-definitions.ensures) (small_structs c.program.result.now c.program.ensures.typed),
)
