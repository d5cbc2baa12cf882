use Rattle.resolved_tree.specs.Parts.{a_node}
use Rattle.name_resolution.proofs.Kept.{grows_trans, alone_in}
use Rattle.name_resolution.proofs.operator.join.Goals as goal

pub returns-in_err-thread-clause-grows : goal.returns-in_err-thread-clause-grows
returns-in_err-thread-clause-grows c = c.in_err-thread.ensures.grows

pub returns-clause-grows : goal.returns-clause-grows
returns-clause-grows c = grows_trans _ _ _ c.in_ok-thread.ensures.grows c.value.ensures.grows

pub returns-clause-within : goal.returns-clause-within
returns-clause-within c = c.value.ensures.within

pub value-requires : goal.value-requires
value-requires c =
    alone_in _ (a_node c.in_ok-thread.thread) c.in_ok-thread.ensures.within
