-- What a run by workers hands back.
use Rattle.std.specs.Prelude.{◌≡◌, ℕ, ◌+◌, ◌≤◌, List, ◌++◌, Option}
use Rattle.run_types.specs.declared.run.Event.{Event}
use Rattle.source_model.specs.Guards.{Guard, Setup}
use Rattle.source_model.specs.Schedules.{move_count}
use Rattle.dsu_runs.specs.declared.live.Live.{Live}
use Rattle.dsu_runs.specs.declared.ran.Ran.{Ran}
use Rattle.threaded_vm.specs.Locked.{EndsBy}

-- the history is the earlier one with further events. It is legal and prompt, and the run has ended by the cause: at the guard to
-- which the events come, with what was printed up to there
pub record RanByWorkers {E : Type 0} (is_at : Setup → Guard → E → Type 0) (told : E → Option (List ℕ)) (faults : E → ℕ)
    (setup : Setup) (first : Guard) (live : Live E) (ran : Ran E) : Type 0 where
  pub more : List Event
  pub history : ran.history.items ≡ live.history.items ++ more
  pub most : move_count more ≤ live.left
  pub later : faults live.engine ≤ faults ran.engine
  pub stopped : EndsBy is_at told faults setup first ran.history.items (faults live.engine) (told live.engine)
      (move_count live.history.items + live.left) ran.engine ran.cause
