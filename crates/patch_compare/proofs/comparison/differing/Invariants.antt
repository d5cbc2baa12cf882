use Rattle.std.proofs.Common.{◌≡◌, map, filter, not, take, string_bytes}
use Rattle.c_tree.specs.Bare.{bare_def}
use Rattle.c_semantics.specs.Changes.{agree}
use Rattle.c_semantics.specs.Texts.{definition}
use Rattle.patch_compare.specs.Extents.{same_by}
use Rattle.patch_compare.proofs.comparison.differing.Given as goal

-- those of the names so far
abbrev pub invariant-loop-text : goal.invariant-loop-text
invariant-loop-text l =
    l.differing.items ≡ filter (λ z. not (agree (same_by l.extent) (definition (map bare_def l.old) z) (definition (map bare_def l.new) z)))
    (map string_bytes (take l.text-index l.candidates))
