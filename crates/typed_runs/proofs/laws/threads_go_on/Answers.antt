use Rattle.typed_runs.proofs.Progress as proofs
use Rattle.typed_runs.proofs.laws.threads_go_on.Goals as goal

pub returns : goal.returns
returns c = proofs.threads_go_on
