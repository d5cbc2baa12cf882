use Rattle.std.proofs.Common.{◌≡◌, map, string_bytes}
use Rattle.std.specs.List.{find}
use Rattle.c_tree.specs.Bare.{bare_def}
use Rattle.c_semantics.specs.Texts.{definition}
use Rattle.patch_faults.specs.Sorts.{other_sort}
use Rattle.patch_compare.proofs.Chosen.{found_from}
use Rattle.patch_compare.proofs.comparison.first_of_other_sort.Given as goal

-- what is found is found from the next name on
abbrev pub invariant-loop-text : goal.invariant-loop-text
invariant-loop-text l =
    find (λ z. other_sort (definition (map bare_def l.old) z) (definition (map bare_def l.new) z)) (map string_bytes l.candidates)
    ≡ found_from (λ z. other_sort (definition (map bare_def l.old) z) (definition (map bare_def l.new) z)) l.candidates l.text-index
