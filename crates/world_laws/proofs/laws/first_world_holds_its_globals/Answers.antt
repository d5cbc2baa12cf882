use Rattle.world_laws.proofs.Cells.{first_world_holds}
use Rattle.world_laws.proofs.laws.first_world_holds_its_globals.Goals as goal

pub returns : goal.returns
returns c = first_world_holds
