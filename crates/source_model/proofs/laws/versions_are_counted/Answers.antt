use Rattle.source_model.proofs.Counted.{versions_are_counted}
use Rattle.source_model.proofs.laws.versions_are_counted.Goals as goal

pub returns : goal.returns
returns c = versions_are_counted
