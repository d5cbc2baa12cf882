use Rattle.offer_decision.proofs.Refusals.{refusals_stay}
use Rattle.offer_decision.proofs.laws.refusals_stay.Goals as goal

pub returns : goal.returns
returns c = refusals_stay
