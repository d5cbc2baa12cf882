use Rattle.definition_laws.proofs.ChangedNames.{added_exactly}
use Rattle.definition_laws.proofs.laws.added_names_are_the_new_ones.Goals as goal

pub returns : goal.returns
returns c = added_exactly
