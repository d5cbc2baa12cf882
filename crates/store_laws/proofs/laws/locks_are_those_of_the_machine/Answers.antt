use Rattle.store_laws.proofs.Locking.{lock_agrees, unlock_agrees, init_agrees, forget_agrees}
use Rattle.store_laws.proofs.laws.locks_are_those_of_the_machine.Goals as goal

pub returns-clause-locked : goal.returns-clause-locked
returns-clause-locked c = lock_agrees

pub returns-clause-unlocked : goal.returns-clause-unlocked
returns-clause-unlocked c = unlock_agrees

pub returns-clause-initialised : goal.returns-clause-initialised
returns-clause-initialised c = init_agrees

pub returns-clause-forgotten : goal.returns-clause-forgotten
returns-clause-forgotten c = forget_agrees
