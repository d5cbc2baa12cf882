-- Laws of what the threads of runs do.
use Rattle.std.specs.Prelude.{◌≡◌, ℕ, false, List, Some}
use Rattle.std.specs.Option.{option_and_then}
use Rattle.c_semantics.specs.SourceTexts.{Text}
use Rattle.c_semantics.specs.Threads.{Thread}
use Rattle.source_model.specs.Worlds.{World, Limits, Live, in_slot, is_over}
use Rattle.source_model.specs.Moves.{move}
use Rattle.source_model.specs.Waits.{Waiting, waits_for}
use Rattle.source_model.specs.Runs.{SourceMove, run, start}
use Rattle.version_laws.specs.Histories.{versions_by}
use Rattle.frame_bodies.specs.AcceptedTexts.{AreAccepted, definitions_of}
use Rattle.typed_runs.specs.TypedRunLaws.{FitAfter, tree_at}
use Rattle.progress_laws.specs.Depths.{DepthsAddUp}

-- in each world that a run of accepted texts comes to, each thread is in as many transactions as its frames together
abbrev pub RunsAddUp : Type 0
RunsAddUp =
    (texts : List Text) (limits : Limits) (ms : List SourceMove) (w : World)
    → AreAccepted texts → option_and_then (run (definitions_of texts) ms) (start (definitions_of texts) limits) ≡ Some w
    → DepthsAddUp (versions_by (definitions_of texts) ms) w

-- a thread makes its next move, which may be a trap; or it waits, for a mutex that another thread holds or for a thread that it
-- joins
pub data GoesOn (w : World) (t : ℕ) : Type 0 where
  moves : (after : World) → move w t ≡ Some after → GoesOn w t
  waits : (what : Waiting) → waits_for w t ≡ Some what → GoesOn w t

-- in each world that a run of accepted texts comes to and that isn't over, each thread that lives does, where the transformers of
-- what is installed have no fault
abbrev pub ThreadsOfRunsGoOn : Type 0
ThreadsOfRunsGoOn =
    (texts : List Text) (limits : Limits) (ms : List SourceMove) (w : World) (t : ℕ) (th : Thread)
    → AreAccepted texts → FitAfter texts (tree_at texts 0) ms
    → option_and_then (run (definitions_of texts) ms) (start (definitions_of texts) limits) ≡ Some w
    → is_over w ≡ false → in_slot w t ≡ Live th → GoesOn w t
