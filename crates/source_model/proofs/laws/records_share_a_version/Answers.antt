use Rattle.source_model.proofs.Consistent.{shared_is_consistent}
use Rattle.source_model.proofs.laws.records_share_a_version.Goals as goal

pub returns : goal.returns
returns c = shared_is_consistent
