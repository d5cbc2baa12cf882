use Rattle.std.proofs.Common.{true, sym, subst}
use Rattle.recorded_runs.specs.RecordedRuns.{AreClosed, IsOpen}
use Rattle.recorded_runs.specs.MoveRecords.{closed_by}
use Rattle.recorded_runs.proofs.KeptRecords.{closed_more}
use Rattle.recorded_runs.proofs.records.close.Goals as goal

pub returns-in_ok-push-in-Some : goal.returns-in_ok-push-in-Some
returns-in_ok-push-in-Some c = λ table uses own is are.
    subst (λ items. AreClosed table items (closed_by true c.args.slot uses own)) (sym c.in_ok-push-in-Some.ensures.items)
    (closed_more table c.args.closed.now.items own c.args.slot c.in-Some.kept uses (subst (λ o. IsOpen table o uses) c.in-Some.is is) are)
