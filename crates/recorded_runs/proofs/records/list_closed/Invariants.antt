use Rattle.std.proofs.Common.{◌≡◌, ◌++◌, List, map, drop}
use Rattle.source_model.specs.Spans.{span}
use Rattle.source_model.specs.Versions.{Table, current}
use Rattle.source_model.specs.Worlds.{Closed}
use Rattle.version_spans.specs.Kept.{span_of}
use Rattle.recorded_runs.specs.RecordedRuns.{AreClosed}
use Rattle.recorded_runs.proofs.records.list_closed.Given as goal

abbrev pub invariant-loop-closed : goal.invariant-loop-closed
invariant-loop-closed l =
    (table : Table) (own : List Closed) → l.newest ≡ current table → AreClosed table l.records own
    → map span_of l.spans.items ++ map (λ c. span table c.slot c.uses) (drop l.closed-index own)
    ≡ map span_of l.fn.spans.items ++ map (λ c. span table c.slot c.uses) own
