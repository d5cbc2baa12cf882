use Rattle.resolved_tree.specs.Parts.{a_node, in_type, both}
use Rattle.name_resolution.specs.Found.{found, in_found}
use Rattle.name_resolution.proofs.Kept.{grows_trans, in_later, both_in, left_in, right_in, later_as}
use Rattle.name_resolution.proofs.operator.choice.Goals as goal

pub converted-requires : goal.converted-requires
converted-requires c =
    let c0 = left_in _ (in_found c.args.c) (both (in_found c.args.a) (in_found c.args.b)) c.requires in
    let ab = right_in _ (in_found c.args.c) (both (in_found c.args.a) (in_found c.args.b)) c.requires in
    let a = left_in _ (in_found c.args.a) (in_found c.args.b) ab in
    let b = right_in _ (in_found c.args.a) (in_found c.args.b) ab in
    let types = both_in _ (in_type c.declared.result) (in_type c.declared-2.result) (c.declared.ensures.within _ a) (c.declared-2.ensures.within _ b) in
    let type = c.common_type-declared.ensures.within _ types in
    in_later _ _ (both (in_type c.common_type-declared.result) (in_found c.args.a)) c.in_ok-condition.ensures.grows
    (both_in _ (in_type c.common_type-declared.result) (in_found c.args.a) type a)

pub converted-requires-2 : goal.converted-requires-2
converted-requires-2 c =
    let c0 = left_in _ (in_found c.args.c) (both (in_found c.args.a) (in_found c.args.b)) c.requires in
    let ab = right_in _ (in_found c.args.c) (both (in_found c.args.a) (in_found c.args.b)) c.requires in
    let a = left_in _ (in_found c.args.a) (in_found c.args.b) ab in
    let b = right_in _ (in_found c.args.a) (in_found c.args.b) ab in
    let types = both_in _ (in_type c.declared.result) (in_type c.declared-2.result) (c.declared.ensures.within _ a) (c.declared-2.ensures.within _ b) in
    let type = c.common_type-declared.ensures.within _ types in
    in_later _ _ (both (in_type c.common_type-declared.result) (in_found c.args.b)) c.in_ok-first.ensures.grows
    (in_later _ _ (both (in_type c.common_type-declared.result) (in_found c.args.b)) c.in_ok-condition.ensures.grows
    (both_in _ (in_type c.common_type-declared.result) (in_found c.args.b) type b))

pub value-requires : goal.value-requires
value-requires c =
    let c0 = left_in _ (in_found c.args.c) (both (in_found c.args.a) (in_found c.args.b)) c.requires in
    let ab = right_in _ (in_found c.args.c) (both (in_found c.args.a) (in_found c.args.b)) c.requires in
    let a = left_in _ (in_found c.args.a) (in_found c.args.b) ab in
    let b = right_in _ (in_found c.args.a) (in_found c.args.b) ab in
    let types = both_in _ (in_type c.declared.result) (in_type c.declared-2.result) (c.declared.ensures.within _ a) (c.declared-2.ensures.within _ b) in
    let type = c.common_type-declared.ensures.within _ types in
    let later = in_later _ _ _ c.in_ok-second.ensures.grows (in_later _ _ _ c.in_ok-first.ensures.grows (in_later _ _ _ c.in_ok-condition.ensures.grows type)) in
    let condition = in_later _ _ _ c.in_ok-second.ensures.grows (in_later _ _ _ c.in_ok-first.ensures.grows c.in_ok-condition.ensures.within) in
    let first = in_later _ _ _ c.in_ok-second.ensures.grows c.in_ok-first.ensures.within in
    both_in _ (both (a_node c.in_ok-condition.condition) (both (a_node c.in_ok-first.first) (a_node c.in_ok-second.second))) (in_type c.common_type-declared.result)
    (both_in _ (a_node c.in_ok-condition.condition) (both (a_node c.in_ok-first.first) (a_node c.in_ok-second.second)) condition
    (both_in _ (a_node c.in_ok-first.first) (a_node c.in_ok-second.second) first c.in_ok-second.ensures.within)) later

pub returns-clause-found : goal.returns-clause-found
returns-clause-found c =
    later_as found _ c.value.result _ _ c.value.ensures.found
    (λ u g.
    let g3 = grows_trans _ _ u c.value.ensures.grows g in
    let g2 = grows_trans _ _ u c.in_ok-second.ensures.grows g3 in
    let g1 = grows_trans _ _ u c.in_ok-first.ensures.grows g2 in
    let e1 = c.in_ok-condition.ensures.tree u g1 in
    let e2 = c.in_ok-first.ensures.tree u g2 in
    let e3 = c.in_ok-second.ensures.tree u g3 in
    let e4 = c.declared.ensures.declared u in
    let e5 = c.declared-2.ensures.declared u in
    let e6 = c.common_type-declared.ensures.declared u in
    cc)

pub returns-in_err-condition-clause-grows : goal.returns-in_err-condition-clause-grows
returns-in_err-condition-clause-grows c = c.in_err-condition.ensures.grows

pub returns-in_err-first-clause-grows : goal.returns-in_err-first-clause-grows
returns-in_err-first-clause-grows c = grows_trans _ _ _ c.in_ok-condition.ensures.grows c.in_err-first.ensures.grows

pub returns-in_err-second-clause-grows : goal.returns-in_err-second-clause-grows
returns-in_err-second-clause-grows c = grows_trans _ _ _ c.in_ok-condition.ensures.grows (grows_trans _ _ _ c.in_ok-first.ensures.grows c.in_err-second.ensures.grows)

pub returns-clause-grows : goal.returns-clause-grows
returns-clause-grows c = grows_trans _ _ _ c.in_ok-condition.ensures.grows (grows_trans _ _ _ c.in_ok-first.ensures.grows (grows_trans _ _ _ c.in_ok-second.ensures.grows c.value.ensures.grows))

pub returns-clause-within : goal.returns-clause-within
returns-clause-within c = c.value.ensures.within

pub tree-requires : goal.tree-requires
tree-requires c =
    left_in _ (in_found c.args.c) (both (in_found c.args.a) (in_found c.args.b)) c.requires
