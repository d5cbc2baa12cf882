use Rattle.accepted_stops.proofs.Stops.{accepted_code_fits}
use Rattle.accepted_stops.proofs.laws.accepted_code_fits.Goals as goal

pub returns : goal.returns
returns c = accepted_code_fits c.accepted_functions_have_fine_code.ensures
