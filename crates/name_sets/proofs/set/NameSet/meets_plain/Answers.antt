use Rattle.name_sets.proofs.RowSetLemmas.{answer-common}
use Rattle.name_sets.proofs.set.NameSet.meets_plain.Goals as goal

pub returns : goal.returns
returns c = rw (← c.self.view_is, ← c.other.view_is) (answer-common c.self.invariant c.other.invariant c.meet_plain.result c.meet_plain.ensures)
