use Rattle.std.proofs.Common.{◌≡◌, ◌≤◌, ℕ, ◌++◌, List, None, map, drop, length, slice_index_or}
use Rattle.source_model.specs.Runs.{open_of}
use Rattle.source_model.specs.Spans.{spans_from}
use Rattle.source_model.specs.Versions.{Table, current}
use Rattle.source_model.specs.Worlds.{Slot, Free}
use Rattle.version_spans.specs.Kept.{span_of}
use Rattle.recorded_runs.specs.RecordedRuns.{IsOpen}
use Rattle.recorded_runs.proofs.records.list_open.Given as goal

abbrev pub invariant-loop-place : goal.invariant-loop-place
invariant-loop-place l =
    (table : Table) (slots : List Slot) → l.newest ≡ current table → length l.records ≤ 256 → length l.records ≡ length slots
    → ((k : ℕ) → IsOpen table (slice_index_or l.records k None) (open_of (slice_index_or slots k Free)))
    → map span_of l.spans.items ++ spans_from table l.place (drop l.place slots)
    ≡ map span_of l.fn.spans.items ++ spans_from table 0 slots
