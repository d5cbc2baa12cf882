use Rattle.name_sets.proofs.RowSetLemmas.{answer-holds, HasIds-row}
use Rattle.name_sets.proofs.set.NameSet.holds.Goals as goal

pub returns-clause-answer : goal.returns-clause-answer
returns-clause-answer c = rw (← c.self.view_is, ← c.index-index.ensures.value) (answer-holds c.self.inside.words c.self.invariant c.index-index.result)

pub returns-clause-ids : goal.returns-clause-ids
returns-clause-ids c = rw (← c.self.view_is) (HasIds-row c.self.inside.words c.self.invariant)
