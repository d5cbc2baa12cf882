use Rattle.std.proofs.Common.{◌+◌, Bool, map, Some, string_bytes, sym, ap, ◌∙◌, if◌then◌else◌}
use Rattle.c_tree.specs.Bare.{bare_def}
use Rattle.c_tree.specs.BareExpr.{Bytes}
use Rattle.c_tree.specs.declared.def.Def.{Def}
use Rattle.c_semantics.specs.Texts.{definition}
use Rattle.patch_faults.specs.Sorts.{other_sort}
use Rattle.std.proofs.Common.{List}
use Rattle.std.specs.List.{find}
use Rattle.patch_compare.proofs.Chosen.{found_from, found_here, found_nowhere}
use Rattle.patch_compare.proofs.comparison.first_of_other_sort.Goals as goal

abbrev test : List Def → List Def → Bytes → Bool
test old new z = other_sort (definition (map bare_def old) z) (definition (map bare_def new) z)

pub loop-text-preserved : goal.loop-text-preserved
loop-text-preserved c =
    let p = test c.args.old.now c.args.new.now in
    c.loop-text.invariant
    ∙ found_here p c.args.candidates.now c.loop-text.text-index c.text-item.result c.loop-text-test.true c.text-item.is
    ∙ ap (λ b. if b then Some (string_bytes c.text-item.result) else found_from p c.args.candidates.now (c.loop-text.text-index + 1))
    (sym (c.has_other_sort.ensures ∙ ap p c.as_str-name.ensures.value) ∙ c.if-has_other_sort.false)

pub returns : goal.returns
returns c =
    sym (ap (find (test c.args.old.now c.args.new.now)) (sym c.requires) ∙ c.loop-text.invariant
    ∙ found_nowhere (test c.args.old.now c.args.new.now) c.args.candidates.now c.loop-text.text-index c.loop-text-test.false)

pub returns-then-has_other_sort : goal.returns-then-has_other_sort
returns-then-has_other_sort c =
    let p = test c.args.old.now c.args.new.now in
    ap Some c.as_str-name.ensures.value
    ∙ sym
    (ap (find p) (sym c.requires) ∙ c.loop-text.invariant
    ∙ found_here p c.args.candidates.now c.loop-text.text-index c.text-item.result c.loop-text-test.true c.text-item.is
    ∙ ap (λ b. if b then Some (string_bytes c.text-item.result) else found_from p c.args.candidates.now (c.loop-text.text-index + 1))
    (sym (c.has_other_sort.ensures ∙ ap p c.as_str-name.ensures.value) ∙ c.if-has_other_sort.true))
