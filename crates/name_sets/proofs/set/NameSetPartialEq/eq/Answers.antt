use Rattle.std.proofs.Common.{◌∙◌}
use Rattle.name_sets.proofs.RowSetLemmas.{answer-eq}
use Rattle.name_sets.proofs.set.NameSetPartialEq.eq.Goals as goal

pub returns : goal.returns
returns c = rw (← c.self.view_is, ← c.other.view_is) (c.eq.ensures ∙ answer-eq c.self.inside.words c.other.inside.words c.self.invariant c.other.invariant)
