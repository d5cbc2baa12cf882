use Rattle.std.proofs.Common.{subst}
use Rattle.checkin_rows.specs.Steps.{IsStarted}
use Rattle.checkin_rows.proofs.RowsOfMarks.{adds_sets}
use Rattle.checkin_rows.proofs.gathering.add_entry.Goals as goal

pub returns-in_default-new : goal.returns-in_default-new
returns-in_default-new c =
    adds_sets c.args.sets.now c.args.entry.now c.args.row.now _ c.prior.result c.future.result c.concrete.result
    c.prior.ensures c.future.ensures c.concrete.ensures c.union_with.ensures.members c.union_with-2.ensures.members c.union_with-3.ensures.members
    (λ id s. c.in_default-new.ensures (subst (λ m. IsStarted m id) c.in-Start.is s).1)
