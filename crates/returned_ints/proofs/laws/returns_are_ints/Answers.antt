use Rattle.returned_ints.proofs.Coming as proofs
use Rattle.returned_ints.proofs.laws.returns_are_ints.Goals as goal

pub returns : goal.returns
returns c = proofs.returns_are_ints
