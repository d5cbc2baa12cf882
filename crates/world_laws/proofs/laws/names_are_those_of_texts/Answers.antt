use Rattle.world_laws.proofs.Runs.{names_are_of_texts}
use Rattle.world_laws.proofs.laws.names_are_those_of_texts.Goals as goal

pub returns : goal.returns
returns c = names_are_of_texts
