use Rattle.typed_runs.proofs.AcceptedWorlds as proofs
use Rattle.typed_runs.proofs.laws.moves_keep_types.Goals as goal

pub returns : goal.returns
returns c = proofs.moves_keep_types
