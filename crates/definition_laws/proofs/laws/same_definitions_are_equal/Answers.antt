use Rattle.definition_laws.proofs.SameDefinitions.{definitions_are_equal}
use Rattle.definition_laws.proofs.laws.same_definitions_are_equal.Goals as goal

pub returns : goal.returns
returns c = definitions_are_equal
