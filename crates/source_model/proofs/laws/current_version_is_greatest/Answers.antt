use Rattle.source_model.proofs.Greatest.{current_is_greatest}
use Rattle.source_model.proofs.laws.current_version_is_greatest.Goals as goal

pub returns : goal.returns
returns c = current_is_greatest
