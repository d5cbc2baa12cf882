use Rattle.resolved_tree.specs.Parts.{a_node, in_place, in_type, both}
use Rattle.name_resolution.specs.Found.{found, in_found}
use Rattle.name_resolution.proofs.Kept.{grows_trans, in_later, both_in, left_in, right_in, later_as}
use Rattle.name_resolution.proofs.operator.update.Goals as goal

pub tree-requires : goal.tree-requires
tree-requires c = in_later _ _ _ c.in_ok-place.ensures.grows (right_in _ (in_found c.args.a) (in_found c.args.b) c.requires)

pub value-requires : goal.value-requires
value-requires c =
    let at = in_later _ _ _ c.in_ok-operand.ensures.grows c.in_ok-place.ensures.within in
    let here = c.declared-declared.ensures.within _ (left_in _ (in_found c.args.a) (in_found c.args.b) c.requires) in
    let type = in_later _ _ _ c.in_ok-operand.ensures.grows (in_later _ _ _ c.in_ok-place.ensures.grows here) in
    both_in _ (both (in_type c.declared-declared.result) (both (in_place c.in_ok-place.place) (a_node c.in_ok-operand.operand))) (in_type c.declared-declared.result)
    (both_in _ (in_type c.declared-declared.result) (both (in_place c.in_ok-place.place) (a_node c.in_ok-operand.operand)) type
    (both_in _ (in_place c.in_ok-place.place) (a_node c.in_ok-operand.operand) at c.in_ok-operand.ensures.within)) type

pub returns-clause-found : goal.returns-clause-found
returns-clause-found c =
    later_as found _ c.value.result _ _ c.value.ensures.found
    (λ u g.
    let g2 = grows_trans _ _ u c.value.ensures.grows g in
    let g1 = grows_trans _ _ u c.in_ok-operand.ensures.grows g2 in
    let e1 = c.in_ok-place.ensures.place u g1 in
    let e2 = c.in_ok-operand.ensures.tree u g2 in
    let e3 = c.declared-declared.ensures.declared u in
    cc)

pub returns-in_err-place-clause-grows : goal.returns-in_err-place-clause-grows
returns-in_err-place-clause-grows c = c.in_err-place.ensures.grows

pub returns-in_err-operand-clause-grows : goal.returns-in_err-operand-clause-grows
returns-in_err-operand-clause-grows c = grows_trans _ _ _ c.in_ok-place.ensures.grows c.in_err-operand.ensures.grows

pub returns-clause-grows : goal.returns-clause-grows
returns-clause-grows c = grows_trans _ _ _ c.in_ok-place.ensures.grows (grows_trans _ _ _ c.in_ok-operand.ensures.grows c.value.ensures.grows)

pub returns-clause-within : goal.returns-clause-within
returns-clause-within c = c.value.ensures.within

pub place-requires : goal.place-requires
place-requires c =
    left_in _ (in_found c.args.a) (in_found c.args.b) c.requires
