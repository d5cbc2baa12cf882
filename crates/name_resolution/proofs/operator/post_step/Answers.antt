use Rattle.resolved_tree.specs.Parts.{in_place, in_type, both}
use Rattle.name_resolution.proofs.Kept.{grows_trans, in_later, both_in}
use Rattle.name_resolution.proofs.operator.post_step.Goals as goal

pub value-requires : goal.value-requires
value-requires c =
    let at = c.in_ok-place.ensures.within in
    let type = in_later _ _ _ c.in_ok-place.ensures.grows (c.declared-declared.ensures.within _ c.requires) in
    both_in _ (both (in_type c.declared-declared.result) (in_place c.in_ok-place.place)) (in_type c.declared-declared.result)
    (both_in _ (in_type c.declared-declared.result) (in_place c.in_ok-place.place) type at) type

pub returns-in_err-place-clause-grows : goal.returns-in_err-place-clause-grows
returns-in_err-place-clause-grows c = c.in_err-place.ensures.grows

pub returns-clause-grows : goal.returns-clause-grows
returns-clause-grows c = grows_trans _ _ _ c.in_ok-place.ensures.grows c.value.ensures.grows

pub returns-clause-within : goal.returns-clause-within
returns-clause-within c = c.value.ensures.within
