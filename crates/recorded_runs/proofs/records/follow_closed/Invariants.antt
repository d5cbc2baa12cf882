use Rattle.std.proofs.Common.{◌≡◌, List, [], ◌∷◌, ◌++◌, length}
use Rattle.c_tree.specs.BareDef.{BareDef}
use Rattle.source_model.specs.JournalLaws.{HasMain}
use Rattle.source_model.specs.Versions.{Table, current, next_table}
use Rattle.source_model.specs.Worlds.{Closed}
use Rattle.version_laws.specs.Histories.{last_text}
use Rattle.version_spans.specs.Beginnings.{IsTableOf}
use Rattle.version_spans.specs.Kept.{AreBeginnings}
use Rattle.recorded_runs.specs.RecordedRuns.{AreClosed}
use Rattle.recorded_runs.proofs.KeptRecords.{Between}
use Rattle.recorded_runs.proofs.records.follow_closed.Given as goal

abbrev pub invariant-loop-place : goal.invariant-loop-place
invariant-loop-place l =
    (length l.records ≡ length l.fn.records)
    × ((texts : List (List BareDef)) (q : List BareDef) (table : Table) (own : List Closed)
    → IsTableOf texts table → HasMain q → AreBeginnings (texts ++ q ∷ []) l.began → AreClosed table l.fn.records own
    → Between l.place table (next_table (current table) (last_text texts) q table) l.records own)
