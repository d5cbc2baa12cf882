use Rattle.std.proofs.Common.{◌≡◌, ℕ, ◌<◌, ◌≤◌, List, [], ◌∷◌, ◌++◌, length, Option, None, slice_index_or}
use Rattle.c_tree.specs.BareDef.{BareDef}
use Rattle.c_semantics.specs.Threads.{Record}
use Rattle.source_model.specs.JournalLaws.{HasMain}
use Rattle.source_model.specs.Versions.{Table, current, next_table}
use Rattle.version_laws.specs.Histories.{last_text}
use Rattle.version_spans.specs.Beginnings.{IsTableOf}
use Rattle.version_spans.specs.Kept.{AreBeginnings}
use Rattle.recorded_runs.specs.RecordedRuns.{IsOpen}
use Rattle.recorded_runs.proofs.records.follow_open.Given as goal

abbrev pub invariant-loop-place : goal.invariant-loop-place
invariant-loop-place l =
    (length l.records ≡ length l.fn.records)
    × ((k : ℕ) → l.place ≤ k → slice_index_or l.records k None ≡ slice_index_or l.fn.records k None)
    × ((texts : List (List BareDef)) (q : List BareDef) (table : Table) (slots : ℕ → Option Record)
    → IsTableOf texts table → HasMain q → AreBeginnings (texts ++ q ∷ []) l.began
    → ((k : ℕ) → IsOpen table (slice_index_or l.fn.records k None) (slots k))
    → (k : ℕ) → k < l.place → IsOpen (next_table (current table) (last_text texts) q table) (slice_index_or l.records k None) (slots k))
