use Rattle.admission_laws.proofs.Covered.{recorded_are_prior}
use Rattle.admission_laws.proofs.TransactionFacts.{ahead_is_future, deep_is_inside, known_is_prior}
use Rattle.admission_laws.proofs.laws.transactions_are_in_their_effects.Goals as goal

pub returns-clause-ahead : goal.returns-clause-ahead
returns-clause-ahead c = ahead_is_future

pub returns-clause-inside : goal.returns-clause-inside
returns-clause-inside c = deep_is_inside

pub returns-clause-recorded : goal.returns-clause-recorded
returns-clause-recorded c = known_is_prior

pub returns-clause-rows : goal.returns-clause-rows
returns-clause-rows c = recorded_are_prior c.frames_go_along_skeletons.ensures.along c.least_slot_refuses.ensures
