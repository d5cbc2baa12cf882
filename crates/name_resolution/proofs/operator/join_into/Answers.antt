use Rattle.name_resolution.specs.Found.{found, in_found}
use Rattle.resolved_tree.specs.Parts.{a_node, in_place, both}
use Rattle.name_resolution.proofs.Kept.{grows_trans, in_later, right_in, later_as, both_in, left_in, alone_in}
use Rattle.name_resolution.proofs.operator.join_into.Goals as goal

pub place-requires : goal.place-requires
place-requires c = in_later _ _ _ c.in_ok-thread.ensures.grows (right_in _ (in_found c.args.a) (in_found c.args.b) c.requires)

pub returns-clause-found : goal.returns-clause-found
returns-clause-found c =
    later_as found _ c.value.result _ _ c.value.ensures.found
    (λ u g.
    let g2 = grows_trans _ _ u c.value.ensures.grows g in
    let g1 = grows_trans _ _ u c.in_ok-place.ensures.grows g2 in
    let e1 = c.in_ok-thread.ensures.tree u g1 in
    let e2 = c.in_ok-place.ensures.place u g2 in
    cc)

pub returns-in_err-thread-clause-grows : goal.returns-in_err-thread-clause-grows
returns-in_err-thread-clause-grows c = c.in_err-thread.ensures.grows

pub returns-in_err-place-clause-grows : goal.returns-in_err-place-clause-grows
returns-in_err-place-clause-grows c = grows_trans _ _ _ c.in_ok-thread.ensures.grows c.in_err-place.ensures.grows

pub returns-clause-grows : goal.returns-clause-grows
returns-clause-grows c = grows_trans _ _ _ c.in_ok-thread.ensures.grows (grows_trans _ _ _ c.in_ok-place.ensures.grows c.value.ensures.grows)

pub returns-clause-within : goal.returns-clause-within
returns-clause-within c = c.value.ensures.within

pub tree-requires : goal.tree-requires
tree-requires c =
    left_in _ (in_found c.args.a) (in_found c.args.b) c.requires

pub value-requires : goal.value-requires
value-requires c =
    alone_in _ (both (a_node c.in_ok-thread.thread) (in_place c.in_ok-place.place))
    (both_in _ (a_node c.in_ok-thread.thread) (in_place c.in_ok-place.place) (in_later _ _ (a_node c.in_ok-thread.thread) c.in_ok-place.ensures.grows c.in_ok-thread.ensures.within) c.in_ok-place.ensures.within)
