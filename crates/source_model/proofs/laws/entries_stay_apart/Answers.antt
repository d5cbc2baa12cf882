use Rattle.source_model.proofs.Lawful.{entries_apart}
use Rattle.source_model.proofs.laws.entries_stay_apart.Goals as goal

pub returns : goal.returns
returns c = entries_apart
