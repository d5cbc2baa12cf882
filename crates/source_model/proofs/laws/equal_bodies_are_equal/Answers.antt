use Rattle.source_model.proofs.Same.{same_decides}
use Rattle.source_model.proofs.laws.equal_bodies_are_equal.Goals as goal

pub returns : goal.returns
returns c = same_decides
