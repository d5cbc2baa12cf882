-- What compiled code needs of the run over some moves, so that a machine that makes the last of them is that run.
use Rattle.std.specs.Prelude.{◌≡◌, ℕ, false, List, Some}
use Rattle.c_tree.specs.BareDef.{BareDef}
use Rattle.c_semantics.specs.SourceTexts.{Text}
use Rattle.c_semantics.specs.Threads.{Thread}
use Rattle.source_model.specs.Worlds.{World, Limits, Live, in_slot, is_over}
use Rattle.source_model.specs.Runs.{SourceMove}
use Rattle.version_laws.specs.Histories.{versions_by}
use Rattle.frame_bodies.specs.AcceptedTexts.{AreAccepted, definitions_of}
use Rattle.typed_runs.specs.TypedRunLaws.{IsWorldOf}
use Rattle.typed_runs.specs.TypedWorlds.{WorldTyped}
use Rattle.progress_laws.specs.ProgressLaws.{GoesOn}
use Rattle.source_runner.specs.SourceRuns.{world_after}

-- as long as a world isn't over, each thread that lives makes its next move or waits
abbrev pub ThreadsGoOn : World → Type 0
ThreadsGoOn w = is_over w ≡ false → (t : ℕ) (th : Thread) → in_slot w t ≡ Live th → GoesOn w t

-- the versions are accepted texts, and the world that the moves come to is typed by them; no move misused a definition
pub record NeedsOf (texts : List (List BareDef)) (limits : Limits) (moves : List SourceMove) : Type 0 where
  pub versions : List Text
  pub are : versions_by texts moves ≡ definitions_of versions
  pub accepted : AreAccepted versions
  pub world : World
  pub ran : world_after texts limits moves ≡ Some world
  pub of : IsWorldOf versions world
  pub typed : WorldTyped (definitions_of versions) world
  pub used_well : world.misused ≡ false
  pub goes_on : ThreadsGoOn world
