use Rattle.name_resolution.specs.Found.{found}
use Rattle.resolved_tree.specs.Parts.{a_node}
use Rattle.name_resolution.proofs.Kept.{grows_trans, later_as, alone_in}
use Rattle.name_resolution.proofs.operator.unary.Goals as goal

pub returns-clause-found : goal.returns-clause-found
returns-clause-found c =
    later_as found _ c.value.result _ _ c.value.ensures.found
    (λ u g.
    let g1 = grows_trans _ _ u c.value.ensures.grows g in
    let e1 = c.in_ok-operand.ensures.tree u g1 in
    let e2 = c.declared.ensures.declared u in
    let e3 = c.kind.ensures u in
    let e4 = c.unary_kind-kind.ensures in
    cc)

pub returns-in_err-operand-clause-grows : goal.returns-in_err-operand-clause-grows
returns-in_err-operand-clause-grows c = c.in_err-operand.ensures.grows

pub returns-clause-grows : goal.returns-clause-grows
returns-clause-grows c = grows_trans _ _ _ c.in_ok-operand.ensures.grows c.value.ensures.grows

pub returns-clause-within : goal.returns-clause-within
returns-clause-within c = c.value.ensures.within

pub value-requires : goal.value-requires
value-requires c =
    alone_in _ (a_node c.in_ok-operand.operand) c.in_ok-operand.ensures.within
