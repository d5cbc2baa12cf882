use Rattle.world_laws.proofs.Runs.{worlds_hold}
use Rattle.world_laws.proofs.laws.worlds_hold_their_globals.Goals as goal

pub returns : goal.returns
returns c = worlds_hold
