use Rattle.source_model.proofs.Lawful.{two_parts}
use Rattle.source_model.proofs.laws.moves_in_two_parts.Goals as goal

pub returns : goal.returns
returns c = two_parts
