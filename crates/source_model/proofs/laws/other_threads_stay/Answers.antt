use Rattle.source_model.proofs.Lawful.{others_stay}
use Rattle.source_model.proofs.laws.other_threads_stay.Goals as goal

pub returns : goal.returns
returns c = others_stay
