use Rattle.name_sets.specs.RowBack.{row_back}
use Rattle.name_sets.proofs.set.NameSetHash.hash.Goals as goal

pub returns : goal.returns
returns g c = rw (← c.self.view_is, row_back c.self.inside.words c.self.invariant) c.hash.ensures
