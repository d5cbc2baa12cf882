use Rattle.name_sets.proofs.RowLemmas.{IsRow-empty}
use Rattle.name_sets.proofs.set.NameSet.empty.Goals as goal

pub invariant_of-result : goal.invariant_of-result
invariant_of-result c = IsRow-empty
