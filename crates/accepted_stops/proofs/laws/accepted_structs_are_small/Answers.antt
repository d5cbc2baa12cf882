use Rattle.accepted_stops.proofs.Stops.{accepted_structs_are_small}
use Rattle.accepted_stops.proofs.laws.accepted_structs_are_small.Goals as goal

pub returns : goal.returns
returns c = accepted_structs_are_small
