use Rattle.accepted_stops.proofs.Stops.{accepted_names_are_few}
use Rattle.accepted_stops.proofs.laws.accepted_names_are_few.Goals as goal

pub returns : goal.returns
returns c = accepted_names_are_few
