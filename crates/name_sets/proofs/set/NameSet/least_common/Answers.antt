use Rattle.std.proofs.Common.{length}
use Rattle.name_sets.proofs.RowSetLemmas.{common_known, tells_common}
use Rattle.name_sets.proofs.set.NameSet.least_common.Goals as goal

pub least_of_rows-requires : goal.least_of_rows-requires
least_of_rows-requires c =
    common_known c.self.invariant c.other.invariant (length c.args.names.now) (rw (c.self.view_is, c.other.view_is) c.requires)

pub returns : goal.returns
returns c = rw (← c.self.view_is, ← c.other.view_is)
    (tells_common c.self.invariant c.other.invariant c.args.names.now c.least_of_rows.result c.least_of_rows.ensures)
