use Rattle.typed_journals.proofs.Deadlocks as proofs
use Rattle.typed_journals.proofs.laws.deadlocked_threads_wait.Goals as goal

pub returns : goal.returns
returns c = proofs.deadlocked_threads_wait c.accepted_runs_misuse_nothing.ensures c.threads_of_journals_go_on.ensures
