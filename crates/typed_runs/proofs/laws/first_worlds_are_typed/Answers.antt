use Rattle.typed_runs.proofs.AcceptedWorlds as proofs
use Rattle.typed_runs.proofs.laws.first_worlds_are_typed.Goals as goal

pub returns : goal.returns
returns c = proofs.first_world_typed
