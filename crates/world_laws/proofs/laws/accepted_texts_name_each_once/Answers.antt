use Rattle.world_laws.proofs.Accepted.{named_once}
use Rattle.world_laws.proofs.laws.accepted_texts_name_each_once.Goals as goal

pub returns : goal.returns
returns c = named_once
