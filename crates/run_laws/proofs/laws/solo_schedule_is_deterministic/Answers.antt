use Rattle.run_laws.proofs.Deterministic.{solo_is_deterministic}
use Rattle.run_laws.proofs.laws.solo_schedule_is_deterministic.Goals as goal

pub returns : goal.returns
returns c = solo_is_deterministic
