use Rattle.std.proofs.Common.{◌≡◌, map, filter, not, take, string_bytes}
use Rattle.c_tree.specs.Bare.{bare_def}
use Rattle.c_semantics.specs.Texts.{names}
use Rattle.name_sets.specs.NameLists.{is_among}
use Rattle.patch_compare.proofs.comparison.added.Given as goal

-- those of the names so far
abbrev pub invariant-loop-text : goal.invariant-loop-text
invariant-loop-text l =
    l.added.items ≡ filter (λ z. not (is_among (names (map bare_def l.old)) z)) (map string_bytes (take l.text-index l.candidates))
