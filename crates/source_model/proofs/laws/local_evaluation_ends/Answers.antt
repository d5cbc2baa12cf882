use Rattle.source_model.proofs.Pieces.{always_ends}
use Rattle.source_model.proofs.laws.local_evaluation_ends.Goals as goal

pub returns-clause-ends : goal.returns-clause-ends
returns-clause-ends c = always_ends
