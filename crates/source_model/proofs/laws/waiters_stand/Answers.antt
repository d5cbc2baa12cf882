use Rattle.source_model.proofs.Waiters.{joins_are_made, locks_wait, waiters_stand}
use Rattle.source_model.proofs.laws.waiters_stand.Goals as goal

pub returns-clause-stand : goal.returns-clause-stand
returns-clause-stand c = waiters_stand

pub returns-clause-locks : goal.returns-clause-locks
returns-clause-locks c = locks_wait

pub returns-clause-joins : goal.returns-clause-joins
returns-clause-joins c = joins_are_made
