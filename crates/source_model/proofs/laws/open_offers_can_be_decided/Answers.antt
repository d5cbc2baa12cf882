use Rattle.source_model.proofs.Offers.{open_can_be_decided}
use Rattle.source_model.proofs.laws.open_offers_can_be_decided.Goals as goal

pub returns : goal.returns
returns c = open_can_be_decided
