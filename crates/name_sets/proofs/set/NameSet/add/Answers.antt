use Rattle.name_sets.proofs.RowSetLemmas.{IsRow-add, members-add, HasIds-row, with_id}
use Rattle.name_sets.proofs.set.NameSet.add.Goals as goal

pub invariant_of-self : goal.invariant_of-self
invariant_of-self c = IsRow-add c.self.invariant c.index-index.result c.index-index.ensures.bound

pub returns-clause-members : goal.returns-clause-members
returns-clause-members c = rw (← c.self.view_is, ← c.index-index.ensures.value) (members-add c.self.invariant c.index-index.result c.index-index.ensures.bound)

pub returns-clause-ids : goal.returns-clause-ids
returns-clause-ids c = HasIds-row (with_id c.self.inside.words c.index-index.result) (IsRow-add c.self.invariant c.index-index.result c.index-index.ensures.bound)
