use Rattle.name_resolution.specs.Found.{in_found}
use Rattle.resolved_tree.specs.Parts.{a_node, in_type}
use Rattle.name_resolution.proofs.Kept.{grows_trans, in_later, both_in}
use Rattle.name_resolution.proofs.operator.cast.Goals as goal

pub returns-clause-found : goal.returns-clause-found
returns-clause-found c = λ u g.
    let e1 = c.in_ok-to.ensures.declared u (grows_trans _ _ u c.in_ok-operand.ensures.grows g) in
    let e2 = c.in_ok-operand.ensures.tree u g in
    cc

pub returns-in_err-to-clause-grows : goal.returns-in_err-to-clause-grows
returns-in_err-to-clause-grows c = c.in_err-to.ensures.grows

pub returns-in_err-operand-clause-grows : goal.returns-in_err-operand-clause-grows
returns-in_err-operand-clause-grows c = grows_trans _ _ _ c.in_ok-to.ensures.grows c.in_err-operand.ensures.grows

pub returns-clause-grows : goal.returns-clause-grows
returns-clause-grows c = grows_trans _ _ _ c.in_ok-to.ensures.grows c.in_ok-operand.ensures.grows

pub converted-requires : goal.converted-requires
converted-requires c =
    both_in _ (in_type c.in_ok-to.to) (in_found c.args.a) c.in_ok-to.ensures.within (in_later _ _ (in_found c.args.a) c.in_ok-to.ensures.grows c.requires)

pub returns-clause-within : goal.returns-clause-within
returns-clause-within c =
    both_in _ (a_node c.in_ok-operand.operand) (in_type c.in_ok-to.to) c.in_ok-operand.ensures.within (in_later _ _ (in_type c.in_ok-to.to) c.in_ok-operand.ensures.grows c.in_ok-to.ensures.within)
