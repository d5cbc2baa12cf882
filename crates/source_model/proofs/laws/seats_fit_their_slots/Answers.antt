use Rattle.source_model.proofs.Seats.{seats_always_fit}
use Rattle.source_model.proofs.laws.seats_fit_their_slots.Goals as goal

pub returns : goal.returns
returns c = seats_always_fit
