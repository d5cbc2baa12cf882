use Rattle.definition_laws.proofs.ChangedNames.{texts_agree, texts_agree_on_interfaces}
use Rattle.definition_laws.proofs.laws.texts_agree_where_equal.Goals as goal

pub returns-clause-definitions : goal.returns-clause-definitions
returns-clause-definitions c = texts_agree

pub returns-clause-interfaces : goal.returns-clause-interfaces
returns-clause-interfaces c = texts_agree_on_interfaces
