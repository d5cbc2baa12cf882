use Rattle.name_resolution.specs.Found.{found, in_found}
use Rattle.resolved_tree.specs.Parts.{a_node, both}
use Rattle.name_resolution.proofs.Kept.{grows_trans, in_later, right_in, later_as, both_in, left_in, alone_in}
use Rattle.name_resolution.proofs.operator.or.Goals as goal

pub tree-requires-2 : goal.tree-requires-2
tree-requires-2 c = in_later _ _ _ c.in_ok-left.ensures.grows (right_in _ (in_found c.args.a) (in_found c.args.b) c.requires)

pub returns-clause-found : goal.returns-clause-found
returns-clause-found c =
    later_as found _ c.value.result _ _ c.value.ensures.found
    (λ u g.
    let g2 = grows_trans _ _ u c.value.ensures.grows g in
    let g1 = grows_trans _ _ u c.in_ok-right.ensures.grows g2 in
    let e1 = c.in_ok-left.ensures.tree u g1 in
    let e2 = c.in_ok-right.ensures.tree u g2 in
    cc)

pub returns-in_err-left-clause-grows : goal.returns-in_err-left-clause-grows
returns-in_err-left-clause-grows c = c.in_err-left.ensures.grows

pub returns-in_err-right-clause-grows : goal.returns-in_err-right-clause-grows
returns-in_err-right-clause-grows c = grows_trans _ _ _ c.in_ok-left.ensures.grows c.in_err-right.ensures.grows

pub returns-clause-grows : goal.returns-clause-grows
returns-clause-grows c = grows_trans _ _ _ c.in_ok-left.ensures.grows (grows_trans _ _ _ c.in_ok-right.ensures.grows c.value.ensures.grows)

pub returns-clause-within : goal.returns-clause-within
returns-clause-within c = c.value.ensures.within

pub tree-requires : goal.tree-requires
tree-requires c =
    left_in _ (in_found c.args.a) (in_found c.args.b) c.requires

pub value-requires : goal.value-requires
value-requires c =
    alone_in _ (both (a_node c.in_ok-left.left) (a_node c.in_ok-right.right))
    (both_in _ (a_node c.in_ok-left.left) (a_node c.in_ok-right.right) (in_later _ _ (a_node c.in_ok-left.left) c.in_ok-right.ensures.grows c.in_ok-left.ensures.within) c.in_ok-right.ensures.within)
