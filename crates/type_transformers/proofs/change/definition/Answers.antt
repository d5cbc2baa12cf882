use Rattle.type_transformers.proofs.Defined.{definition_found}
use Rattle.type_transformers.proofs.change.definition.Goals as goal

pub returns : goal.returns
returns c = definition_found c.args.known.now c.args.name.now c.declared.result c.declared.ensures
