use Rattle.std.proofs.Common.{map, string_bytes, ap, sym, subst, ◌∙◌}
use Rattle.c_tree.specs.Bare.{bare_def}
use Rattle.c_semantics.specs.Texts.{names}
use Rattle.name_sets.specs.NameLists.{name_set}
use Rattle.patch_compare.specs.Faults.{IsAnswer}
use Rattle.patch_compare.proofs.comparison.compare_known.Goals as goal

pub returns : goal.returns
returns c =
    subst (λ ds. IsAnswer (map bare_def ds) (map bare_def c.args.new.now) c.compare_names.result) c.requires.old
    (subst (λ ds. IsAnswer (map bare_def c.args.old_known.now) (map bare_def ds) c.compare_names.result) c.requires.new c.compare_names.ensures)

pub compare_names-requires : goal.compare_names-requires
compare_names-requires c = record {
  old =
      ap (map string_bytes) c.as_slice.ensures.value ∙ c.in-Ok.ensures
      ∙ ap (λ ds. name_set (names (map bare_def ds))) (sym c.requires.old);
  new =
      ap (map string_bytes) c.as_slice-2.ensures.value ∙ c.in-Ok-names_in_order.ensures
      ∙ ap (λ ds. name_set (names (map bare_def ds))) (sym c.requires.new);
}
