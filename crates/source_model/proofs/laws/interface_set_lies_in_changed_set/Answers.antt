use Rattle.source_model.proofs.Sets.{interface_in_changed}
use Rattle.source_model.proofs.laws.interface_set_lies_in_changed_set.Goals as goal

pub returns : goal.returns
returns c = interface_in_changed
