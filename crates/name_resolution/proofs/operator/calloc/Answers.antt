use Rattle.resolved_tree.specs.Parts.{a_word}
use Rattle.name_resolution.proofs.Kept.{grows_trans, both_in}
use Rattle.name_resolution.proofs.operator.calloc.Goals as goal

pub returns-in_err-tag-clause-grows : goal.returns-in_err-tag-clause-grows
returns-in_err-tag-clause-grows c = c.in_err-tag.ensures.grows

pub returns-clause-grows : goal.returns-clause-grows
returns-clause-grows c = grows_trans _ _ _ c.in_ok-tag.ensures.grows c.value.ensures.grows

pub returns-clause-within : goal.returns-clause-within
returns-clause-within c = c.value.ensures.within

pub value-requires : goal.value-requires
value-requires c =
    both_in _ (a_word c.in_ok-tag.tag) (a_word c.in_ok-tag.tag) c.in_ok-tag.ensures.within c.in_ok-tag.ensures.within
