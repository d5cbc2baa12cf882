use Rattle.std.proofs.Common.{◌≡◌, List, map, filter, not, refl, ap, ◌∙◌}
use Rattle.c_tree.specs.Bare.{bare_def}
use Rattle.c_semantics.specs.Changes.{agree}
use Rattle.c_semantics.specs.Texts.{definition, names}
use Rattle.name_sets.specs.NameLists.{name_set}
use Rattle.c_tree.specs.BareDef.{BareDef}
use Rattle.patch_compare.specs.declared.lookup.Extent.{Extent}
use Rattle.patch_compare.specs.declared.lookup.Extent.TheVariants.{Whole, Interface}
use Rattle.patch_compare.specs.Extents.{same_by, differing}
use Rattle.patch_compare.proofs.Chosen.{listed_more, listed_all}
use Rattle.patch_compare.proofs.comparison.differing.Goals as goal

pub loop-text-preserved : goal.loop-text-preserved
loop-text-preserved c =
    c.in_ok-add_if.ensures
    ∙ listed_more
    (λ z. not (agree (same_by c.args.extent) (definition (map bare_def c.args.old.now) z) (definition (map bare_def c.args.new.now) z)))
    c.args.candidates.now c.loop-text.text-index c.text-item.result c.loop-text.differing.items (not c.agree-differs.result) c.as_str-name.result.now
    c.loop-text-test.true c.text-item.is c.loop-text.invariant (ap not c.agree-differs.ensures) c.as_str-name.ensures.value

of_extent : (extent : Extent) (p q : List BareDef)
    → filter (λ z. not (agree (same_by extent) (definition p z) (definition q z))) (name_set (names p)) ≡ differing extent p q
of_extent Whole p q = refl
of_extent Interface p q = refl

pub returns : goal.returns
returns c =
    let p = map bare_def c.args.old.now in
    let q = map bare_def c.args.new.now in
    c.of.ensures
    ∙ listed_all (λ z. not (agree (same_by c.args.extent) (definition p z) (definition q z))) c.args.candidates.now c.loop-text.text-index
    c.loop-text.differing.items (name_set (names p)) c.loop-text-test.false c.loop-text.invariant c.requires
    ∙ of_extent c.args.extent p q
