use Rattle.name_resolution.specs.Found.{found, in_found}
use Rattle.resolved_tree.specs.Parts.{a_word, a_node, both}
use Rattle.name_resolution.proofs.Kept.{grows_trans, later_as, in_later, both_in, alone_in}
use Rattle.name_resolution.proofs.operator.free.Goals as goal

pub tag-requires : goal.tag-requires
tag-requires c = c.declared.ensures.within _ c.requires

pub returns-clause-found : goal.returns-clause-found
returns-clause-found c =
    later_as found _ c.value.result _ _ c.value.ensures.found
    (λ u g.
    let g2 = grows_trans _ _ u c.value.ensures.grows g in
    let g1 = grows_trans _ _ u c.in_ok-object.ensures.grows g2 in
    let e1 = c.in_ok-tag.ensures.word u g1 in
    let e2 = c.in_ok-object.ensures.tree u g2 in
    let e3 = c.declared.ensures.declared u in
    cc)

pub returns-in_err-tag-clause-grows : goal.returns-in_err-tag-clause-grows
returns-in_err-tag-clause-grows c = c.in_err-tag.ensures.grows

pub returns-in_err-object-clause-grows : goal.returns-in_err-object-clause-grows
returns-in_err-object-clause-grows c = grows_trans _ _ _ c.in_ok-tag.ensures.grows c.in_err-object.ensures.grows

pub returns-clause-grows : goal.returns-clause-grows
returns-clause-grows c = grows_trans _ _ _ c.in_ok-tag.ensures.grows (grows_trans _ _ _ c.in_ok-object.ensures.grows c.value.ensures.grows)

pub returns-clause-within : goal.returns-clause-within
returns-clause-within c = c.value.ensures.within

pub tree-requires : goal.tree-requires
tree-requires c =
    in_later _ _ (in_found c.args.a) c.in_ok-tag.ensures.grows c.requires

pub value-requires : goal.value-requires
value-requires c =
    alone_in _ (both (a_word c.in_ok-tag.tag) (a_node c.in_ok-object.object))
    (both_in _ (a_word c.in_ok-tag.tag) (a_node c.in_ok-object.object) (in_later _ _ (a_word c.in_ok-tag.tag) c.in_ok-object.ensures.grows c.in_ok-tag.ensures.within) c.in_ok-object.ensures.within)
