use Rattle.std.proofs.Common.{ap, ◌∙◌, map}
use Rattle.c_semantics.specs.Resolution.{passed}
use Rattle.resolved_tree.specs.Nodes.{expression_at}
use Rattle.resolved_tree.specs.Parts.{a_word, a_node, in_type, both}
use Rattle.name_resolution.specs.Found.{found, listed}
use Rattle.name_resolution.proofs.Kept.{grows_trans, in_later, both_in, later_as}
use Rattle.name_resolution.proofs.names.call.Goals as goal

pub value-requires : goal.value-requires
value-requires c =
    let list = in_later _ _ _ c.in_ok-name.ensures.grows (in_later _ _ _ c.in_ok-declared.ensures.grows c.in_ok-list.ensures.within) in
    both_in _ (both (a_word c.in_ok-name.name) (a_node c.in_ok-list.list)) (in_type c.in_ok-declared.declared)
    (both_in _ (a_word c.in_ok-name.name) (a_node c.in_ok-list.list) c.in_ok-name.ensures.within list)
    (in_later _ _ _ c.in_ok-name.ensures.grows c.in_ok-declared.ensures.within)

pub returns-clause-found : goal.returns-clause-found
returns-clause-found c =
    later_as found _ c.value.result _ _ c.value.ensures.found
    (λ u g.
    let g3 = grows_trans _ _ u c.value.ensures.grows g in
    let g2 = grows_trans _ _ u c.in_ok-name.ensures.grows g3 in
    let g1 = grows_trans _ _ u c.in_ok-declared.ensures.grows g2 in
    let e1 = c.in_ok-list.ensures.tree u g1 ∙ ap (passed (listed (map (expression_at u) c.args.ids.now))) c.parameters.ensures in
    let e2 = c.in_ok-declared.ensures.declared u g2 ∙ c.result_type.ensures in
    let e3 = c.in_ok-name.ensures.word u g3 in
    cc)

pub returns-in_err-list-clause-grows : goal.returns-in_err-list-clause-grows
returns-in_err-list-clause-grows c = c.in_err-list.ensures.grows

pub returns-in_err-declared-clause-grows : goal.returns-in_err-declared-clause-grows
returns-in_err-declared-clause-grows c = grows_trans _ _ _ c.in_ok-list.ensures.grows c.in_err-declared.ensures.grows

pub returns-in_err-name-clause-grows : goal.returns-in_err-name-clause-grows
returns-in_err-name-clause-grows c = grows_trans _ _ _ c.in_ok-list.ensures.grows (grows_trans _ _ _ c.in_ok-declared.ensures.grows c.in_err-name.ensures.grows)

pub returns-clause-grows : goal.returns-clause-grows
returns-clause-grows c = grows_trans _ _ _ c.in_ok-list.ensures.grows (grows_trans _ _ _ c.in_ok-declared.ensures.grows (grows_trans _ _ _ c.in_ok-name.ensures.grows c.value.ensures.grows))

pub returns-clause-within : goal.returns-clause-within
returns-clause-within c = c.value.ensures.within
