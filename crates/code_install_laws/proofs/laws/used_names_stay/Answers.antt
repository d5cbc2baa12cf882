use Rattle.code_install_laws.proofs.UsedNames.{fields_stay, used_names_stay}
use Rattle.code_install_laws.proofs.laws.used_names_stay.Goals as goal

pub returns-clause-names : goal.returns-clause-names
returns-clause-names c = used_names_stay c.code_moves_as_the_source_machine.ensures.waits

pub returns-clause-fields : goal.returns-clause-fields
returns-clause-fields c = fields_stay (used_names_stay c.code_moves_as_the_source_machine.ensures.waits)
