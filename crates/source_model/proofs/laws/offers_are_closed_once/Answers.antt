use Rattle.source_model.proofs.Offers.{closed_once}
use Rattle.source_model.proofs.laws.offers_are_closed_once.Goals as goal

pub returns : goal.returns
returns c = closed_once
