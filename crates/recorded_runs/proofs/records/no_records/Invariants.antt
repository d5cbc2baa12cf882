use Rattle.std.proofs.Common.{◌≡◌, None, replicate}
use Rattle.recorded_runs.proofs.records.no_records.Given as goal

abbrev pub invariant-loop : goal.invariant-loop
invariant-loop l = l.none.items ≡ replicate l.counter None
