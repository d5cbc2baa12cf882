use Rattle.resolved_tree.specs.Parts.{a_word}
use Rattle.name_resolution.proofs.Kept.{grows_trans, alone_in}
use Rattle.name_resolution.proofs.operator.lock.Goals as goal

pub returns-in_err-name-clause-grows : goal.returns-in_err-name-clause-grows
returns-in_err-name-clause-grows c = c.in_err-name.ensures.grows

pub returns-clause-grows : goal.returns-clause-grows
returns-clause-grows c = grows_trans _ _ _ c.in_ok-name.ensures.grows c.value.ensures.grows

pub returns-clause-within : goal.returns-clause-within
returns-clause-within c = c.value.ensures.within

pub value-requires : goal.value-requires
value-requires c =
    alone_in _ (a_word c.in_ok-name.name) c.in_ok-name.ensures.within
