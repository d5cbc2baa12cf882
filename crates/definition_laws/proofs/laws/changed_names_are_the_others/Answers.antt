use Rattle.definition_laws.proofs.ChangedNames.{changed_exactly, interface_exactly}
use Rattle.definition_laws.proofs.laws.changed_names_are_the_others.Goals as goal

pub returns-clause-definitions : goal.returns-clause-definitions
returns-clause-definitions c = changed_exactly

pub returns-clause-interfaces : goal.returns-clause-interfaces
returns-clause-interfaces c = interface_exactly
