use Rattle.definition_laws.proofs.SameDefinitions.{interfaces_are_equal}
use Rattle.definition_laws.proofs.laws.same_interfaces_are_equal.Goals as goal

pub returns : goal.returns
returns c = interfaces_are_equal
