use Rattle.std.proofs.Common.{map, not, ap, ◌∙◌}
use Rattle.c_tree.specs.Bare.{bare_def}
use Rattle.c_semantics.specs.Texts.{names}
use Rattle.name_sets.specs.NameLists.{is_among, name_set}
use Rattle.patch_compare.proofs.Chosen.{listed_more, listed_all}
use Rattle.patch_compare.proofs.comparison.added.Goals as goal

pub loop-text-preserved : goal.loop-text-preserved
loop-text-preserved c =
    c.in_ok-add_if.ensures
    ∙ listed_more (λ z. not (is_among (names (map bare_def c.args.old.now)) z))
    c.args.candidates.now c.loop-text.text-index c.text-item.result c.loop-text.added.items (not c.is_defined-is_new.result) c.as_str-name.result.now
    c.loop-text-test.true c.text-item.is c.loop-text.invariant (ap not c.is_defined-is_new.ensures) c.as_str-name.ensures.value

pub returns : goal.returns
returns c =
    c.of.ensures
    ∙ listed_all (λ z. not (is_among (names (map bare_def c.args.old.now)) z)) c.args.candidates.now c.loop-text.text-index
    c.loop-text.added.items (name_set (names (map bare_def c.args.new.now))) c.loop-text-test.false c.loop-text.invariant c.requires
