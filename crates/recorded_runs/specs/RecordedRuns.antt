-- When a run is recorded: of each record of its world is kept what its span needs.
use Rattle.std.specs.Prelude.{◌≡◌, ◌≤◌, ◌==◌, ℕ, Bool, true, false, List, [], ◌∷◌, ◌++◌, Option, Some, None, Result, IfOk, length, slice_get, slice_index_or, if◌then◌else◌}
use Rattle.std.specs.declared.alloc.AllocError.{AllocError}
use Rattle.c_tree.specs.BareDef.{BareDef}
use Rattle.c_semantics.specs.Threads.{Record}
use Rattle.source_model.specs.Versions.{Table}
use Rattle.source_model.specs.Worlds.{World, Slot, Closed, Limits, in_slot}
use Rattle.source_model.specs.Guards.{in_transaction}
use Rattle.source_model.specs.Runs.{SourceMove, is_live, open_of}
use Rattle.version_laws.specs.Histories.{last_text, versions_by}
use Rattle.source_runner.specs.declared.run.SourceMove.{SourceMove as Code}
use Rattle.source_runner.specs.declared.run.Stepped.{Stepped}
use Rattle.source_runner.specs.declared.run.Stepped.TheVariants.{Done, CannotMove}
use Rattle.source_runner.specs.SourceRuns.{IsRun, move_of, world_after}
use Rattle.version_spans.specs.declared.record.Record.{Record as Kept}
use Rattle.version_spans.specs.Kept.{AreBeginnings, IsKept}
use Rattle.recorded_runs.specs.declared.records.ClosedRecord.{ClosedRecord}
use Rattle.recorded_runs.specs.declared.records.Records.{Records}
use Rattle.recorded_runs.specs.declared.records.Stand.{Stand}
use Rattle.recorded_runs.specs.declared.records.Stand.TheVariants.{Inside, Outside, Gone}
use Rattle.recorded_runs.specs.declared.run.RecordedRun.{RecordedRun}

-- a record is kept exactly where one is open
abbrev pub IsOpen : Table → Option Kept → Option Record → Type 0
IsOpen table None None = Unit {0}
IsOpen table (Some kept) (Some uses) = IsKept table uses kept
IsOpen table (Some kept) None = ⊥
IsOpen table None (Some uses) = ⊥

-- the record of a transaction that was closed, with the slot of its thread
abbrev pub IsClosed : Table → ClosedRecord → Closed → Type 0
IsClosed table c own = (own.slot ≡ c.slot) × IsKept table own.uses c.kept

-- those of all that were closed, in their order
abbrev pub AreClosed : Table → List ClosedRecord → List Closed → Type 0
AreClosed table [] [] = Unit {0}
AreClosed table (c ∷ more) (own ∷ others) = IsClosed table c own × AreClosed table more others
AreClosed table (c ∷ more) [] = ⊥
AreClosed table [] (own ∷ others) = ⊥

-- what is kept is that of the open records of slots and of closed ones
pub record AreKept (table : Table) (slots : ℕ → Option Record) (closed : List Closed) (r : Records) : Type 0 where
  pub of_slots : (k : ℕ) → IsOpen table (slice_index_or r.of_slots.items k None) (slots k)
  pub closed_ones : AreClosed table r.closed.items closed

-- the open record of each slot of a world
abbrev pub open_in : World → ℕ → Option Record
open_in w k = open_of (in_slot w k)

-- the records of a world are kept
pub record AreRecords (w : World) (r : Records) : Type 0 where
  pub count : length r.of_slots.items ≡ length w.slots
  pub kept : AreKept w.table (open_in w) w.closed r

-- the records of slots with another one for slot t
abbrev pub changed_at : ℕ → Option Record → (ℕ → Option Record) → ℕ → Option Record
changed_at t changed slots k = if k == t then changed else slots k

-- where a thread is after its move: in a transaction, in none, or gone
abbrev pub stand_in : Slot → Stand
stand_in s = if in_transaction s then Inside else (if is_live s then Outside else Gone)

-- whether it is in a transaction
abbrev pub is_inside : Stand → Bool
is_inside Inside = true
is_inside _ = false

-- whether it goes on in none, so that a record it had is closed
abbrev pub has_left : Stand → Bool
has_left Outside = true
has_left _ = false

-- a recorded run is that of some texts within limits after moves, with its records; it has the number of the text in force
pub record IsRecorded (texts : List (List BareDef)) (limits : Limits) (moves : List SourceMove) (r : RecordedRun) : Type 0 where
  pub run : IsRun texts limits moves r.run
  pub records : AreRecords run.world r.records
  pub small : length r.records.of_slots.items ≤ 256
  pub began : AreBeginnings (versions_by texts moves) r.began
  pub text : slice_get texts r.text ≡ Some (last_text (versions_by texts moves))

-- what a move or an install came to: it was made, or it can't be made and the run is what it was
abbrev pub CameBy : List (List BareDef) → Limits → List SourceMove → SourceMove → RecordedRun → Stepped → Type 0
CameBy texts limits moves m new Done = IsRecorded texts limits (moves ++ m ∷ []) new
CameBy texts limits moves m new CannotMove =
    IsRecorded texts limits moves new × (world_after texts limits (moves ++ m ∷ []) ≡ None)

-- the same of an answer, which may also be that memory ran out
pub record Steps (texts : List (List BareDef)) (limits : Limits) (moves : List SourceMove) (m : Code) (new : RecordedRun) (r : Result Stepped AllocError) : Type 0 where
  pub came : IfOk r (CameBy texts limits moves (move_of m) new)
