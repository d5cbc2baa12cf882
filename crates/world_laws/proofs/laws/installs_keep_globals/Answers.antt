use Rattle.world_laws.proofs.Cells.{installs_hold}
use Rattle.world_laws.proofs.laws.installs_keep_globals.Goals as goal

pub returns : goal.returns
returns c = installs_hold
