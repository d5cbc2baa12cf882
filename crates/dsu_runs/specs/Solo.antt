-- What the solo schedule hands back.
use Rattle.std.specs.Prelude.{◌≡◌, ℕ, ◌≤◌, List, ◌∷◌, ◌++◌, reverse, Option, Some, None}
use Rattle.run_types.specs.declared.run.Event.{Event}
use Rattle.run_types.specs.declared.run.Ending.{Ending}
use Rattle.source_model.specs.Guards.{Guard, Rules, Setup}
use Rattle.source_model.specs.Journals.{guard_after}
use Rattle.source_model.specs.Schedules.{Solo, move_count}
use Rattle.source_model.specs.Endings.{ending, int_ending, run_ending}
use Rattle.effects.specs.Rows.{AreRows}
use Rattle.dsu_runs.specs.Ran.{FailedAt, Printed}
use Rattle.dsu_runs.specs.declared.ran.Ran.{Ran}
use Rattle.dsu_runs.specs.declared.ran.StopCause.{StopCause}
use Rattle.dsu_runs.specs.declared.ran.StopCause.TheVariants.{Ended, SinkFailed, CannotHappen, Memory, Misused, UndefinedName}

-- each event was made where the run, which may make so many moves, hadn't ended
abbrev pub EachBeforeTheEnd : Setup → ℕ → List Event → Type 0
EachBeforeTheEnd setup moves history =
    (rules : Rules) (events later : List Event) (e : Event) (before : Guard)
    → AreRows rules.row → history ≡ events ++ e ∷ later → guard_after rules setup events ≡ Some before
    → run_ending setup moves events before ≡ None

-- a run that may make so many moves has ended: here, and so
pub record EndedSolo {E : Type 0} (setup : Setup) (is_at : Guard → E → Type 0) (told : E → Option (List ℕ)) (moves : ℕ)
    (g : Guard) (end : Ending) (engine : E) (ran : Ran E) : Type 0 where
  pub ends : run_ending setup moves ran.history.items g ≡ Some (ending g)
  pub ending : end ≡ int_ending (ending g)
  pub there : is_at g ran.engine
  pub printed : Printed (told engine) (told ran.engine) g

-- by why it made no further event. The schedule's next event can happen, or it is a decision that can't be made, or isn't, and
-- the offer is withdrawn
abbrev pub StoppedSolo : {E : Type 0} (setup : Setup) (is_at : Guard → E → Type 0) (told : E → Option (List ℕ)) (faults : E → ℕ)
    → E → ℕ → Ran E → Guard → StopCause → Type 0
StoppedSolo setup is_at told faults engine moves ran g (Ended e) = EndedSolo setup is_at told moves g e engine ran
StoppedSolo setup is_at told faults engine moves ran g SinkFailed =
    FailedAt setup ran.history.items g (told engine) (told ran.engine) (faults engine) (faults ran.engine)
StoppedSolo setup is_at told faults engine moves ran g (CannotHappen line) = ⊥
StoppedSolo setup is_at told faults engine moves ran g Memory = Printed (told engine) (told ran.engine) g
StoppedSolo setup is_at told faults engine moves ran g (Misused line) = ⊥
StoppedSolo setup is_at told faults engine moves ran g (UndefinedName line) = ⊥

-- the run of an engine by the solo schedule, with so many moves at most
pub record RanSolo {E : Type 0} (setup : Setup) (is_at : Guard → E → Type 0) (told : E → Option (List ℕ)) (faults : E → ℕ)
    (engine : E) (moves : ℕ) (ran : Ran E) : Type 0 where
  -- the guard after the events that were made, and the slot that acted last
  pub guard : Guard
  pub last : Option ℕ
  pub legal : (rules : Rules) → AreRows rules.row → guard_after rules setup ran.history.items ≡ Some guard
  -- each event is the one that the solo schedule had next, or withdraws the offer that it would have decided
  pub solo : (rules : Rules) → AreRows rules.row → Solo rules setup (reverse ran.history.items) guard last
  pub most : move_count ran.history.items ≤ moves
  pub begun : EachBeforeTheEnd setup moves ran.history.items
  pub later : faults engine ≤ faults ran.engine
  pub stopped : StoppedSolo setup is_at told faults engine moves ran guard ran.cause
