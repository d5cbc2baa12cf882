use Rattle.resolved_tree.specs.Parts.{in_type, both, a_node}
use Rattle.name_resolution.specs.Found.{found, in_found}
use Rattle.name_resolution.proofs.Kept.{grows_trans, in_later, both_in, left_in, right_in, later_as, alone_in}
use Rattle.name_resolution.proofs.operator.binary.Goals as goal

pub side-requires : goal.side-requires
side-requires c =
    let a = left_in _ (in_found c.args.a) (in_found c.args.b) c.requires in
    let b = right_in _ (in_found c.args.a) (in_found c.args.b) c.requires in
    let types = both_in _ (in_type c.declared.result) (in_type c.declared-2.result) (c.declared.ensures.within _ a) (c.declared-2.ensures.within _ b) in
    both_in _ (in_type c.common_type-compared.result) (in_found c.args.a) (c.common_type-compared.ensures.within _ types) a

pub side-requires-2 : goal.side-requires-2
side-requires-2 c =
    let a = left_in _ (in_found c.args.a) (in_found c.args.b) c.requires in
    let b = right_in _ (in_found c.args.a) (in_found c.args.b) c.requires in
    let types = both_in _ (in_type c.declared.result) (in_type c.declared-2.result) (c.declared.ensures.within _ a) (c.declared-2.ensures.within _ b) in
    in_later _ _ (both (in_type c.common_type-compared.result) (in_found c.args.b)) c.in_ok-left.ensures.grows
    (both_in _ (in_type c.common_type-compared.result) (in_found c.args.b) (c.common_type-compared.ensures.within _ types) b)

pub returns-clause-found : goal.returns-clause-found
returns-clause-found c =
    later_as found _ c.value.result _ _ c.value.ensures.found
    (λ u g.
    let g2 = grows_trans _ _ u c.value.ensures.grows g in
    let g1 = grows_trans _ _ u c.in_ok-right.ensures.grows g2 in
    let e1 = c.in_ok-left.ensures.tree u g1 in
    let e2 = c.in_ok-right.ensures.tree u g2 in
    let e3 = c.declared.ensures.declared u in
    let e4 = c.declared-2.ensures.declared u in
    let e5 = c.declared-3.ensures.declared u in
    let e6 = c.declared-4.ensures.declared u in
    let e7 = c.common_type-compared.ensures.declared u in
    let e8 = c.kind.ensures u in
    let e9 = c.kind-2.ensures u in
    let e10 = c.binary_kind-kind.ensures in
    cc)

pub returns-in_err-left-clause-grows : goal.returns-in_err-left-clause-grows
returns-in_err-left-clause-grows c = c.in_err-left.ensures.grows

pub returns-in_err-right-clause-grows : goal.returns-in_err-right-clause-grows
returns-in_err-right-clause-grows c = grows_trans _ _ _ c.in_ok-left.ensures.grows c.in_err-right.ensures.grows

pub returns-clause-grows : goal.returns-clause-grows
returns-clause-grows c = grows_trans _ _ _ c.in_ok-left.ensures.grows (grows_trans _ _ _ c.in_ok-right.ensures.grows c.value.ensures.grows)

pub returns-clause-within : goal.returns-clause-within
returns-clause-within c = c.value.ensures.within

pub value-requires : goal.value-requires
value-requires c =
    alone_in _ (both (a_node c.in_ok-left.left) (a_node c.in_ok-right.right))
    (both_in _ (a_node c.in_ok-left.left) (a_node c.in_ok-right.right) (in_later _ _ (a_node c.in_ok-left.left) c.in_ok-right.ensures.grows c.in_ok-left.ensures.within) c.in_ok-right.ensures.within)
