-- What the solo schedule makes of a run on its way. From the start of a run it is what `Solo` has.
use Rattle.std.specs.Prelude.{◌≡◌, ℕ, ◌+◌, ◌≤◌, ◌<◌, true, List, [], ◌∷◌, ◌++◌, length, reverse, take, Option, Some, None}
use Rattle.std.specs.Option.{option_or}
use Rattle.dsu_io.specs.Causes.{Rose}
use Rattle.run_types.specs.declared.run.Event.{Event}
use Rattle.run_types.specs.declared.run.Ending.{Ending}
use Rattle.source_model.specs.Guards.{Guard, Rules, Setup}
use Rattle.source_model.specs.Journals.{guard_after, happens}
use Rattle.source_model.specs.Schedules.{MayStand, acted_by, makes_move, move_count, solo_next}
use Rattle.source_model.specs.Endings.{ending, int_ending, run_ending}
use Rattle.effects.specs.Rows.{AreRows}
use Rattle.dsu_runs.specs.Engines.{Grew}
use Rattle.dsu_runs.specs.declared.live.Live.{Live}
use Rattle.dsu_runs.specs.declared.ran.Ran.{Ran}
use Rattle.dsu_runs.specs.declared.ran.StopCause.{StopCause}
use Rattle.dsu_runs.specs.declared.ran.StopCause.TheVariants.{Ended, SinkFailed, CannotHappen, Memory, Misused, UndefinedName}

-- a run on its way: its events so far are legal, and its engine is at the guard that they come to
pub record IsLive {E : Type 0} (setup : Setup) (is_at : Guard → E → Type 0) (start : Guard) (live : Live E) : Type 0 where
  pub there : is_at start live.engine
  pub legal : (rules : Rules) → AreRows rules.row → guard_after rules setup live.history.items ≡ Some start

-- the moves that the whole run may have
abbrev pub moves_of : {E : Type 0} → Live E → ℕ
moves_of live = move_count live.history.items + live.left

-- further events, the newest first, each of which may be made for the one that the solo schedule has next; with the guard before
-- them and the slot that acted last then, and those after them
abbrev pub SoloFrom : Rules → Setup → Guard → Option ℕ → List Event → Guard → Option ℕ → Type 0
SoloFrom rules setup start from [] g last = (g ≡ start) × (last ≡ from)
SoloFrom rules setup start from (e ∷ es) g last =
    (before : Guard) × (before_last : Option ℕ) × (next : Event) × SoloFrom rules setup start from es before before_last
    × (solo_next setup before before_last ≡ Some next) × MayStand next e × (happens rules setup e before ≡ Some g)
    × (last ≡ option_or (acted_by e) before_last)

-- each further event was made where the run hadn't ended
abbrev pub EachBeforeItsEnd : Setup → ℕ → List Event → List Event → Type 0
EachBeforeItsEnd setup moves earlier more =
    (rules : Rules) (events later : List Event) (e : Event) (before : Guard)
    → AreRows rules.row → more ≡ events ++ e ∷ later → guard_after rules setup (earlier ++ events) ≡ Some before
    → run_ending setup moves (earlier ++ events) before ≡ None

-- the run has ended: here, and so; what was printed meanwhile was written
pub record EndedLive {E : Type 0} (setup : Setup) (is_at : Guard → E → Type 0) (told : E → Option (List ℕ)) (start : Guard)
    (live : Live E) (g : Guard) (end : Ending) (ran : Ran E) : Type 0 where
  pub ends : run_ending setup (moves_of live) ran.history.items g ≡ Some (ending g)
  pub ending : end ≡ int_ending (ending g)
  pub there : is_at g ran.engine
  pub printed : Grew start g (told live.engine) (told ran.engine)

-- the last of some events is a move that printed something, and not all of it could be written: what was written is at least
-- all that was printed before the move, and less than all that was printed with it
pub record FailedFrom (setup : Setup) (start : Guard) (history : List Event) (g : Guard) (told now : Option (List ℕ))
    (counted count : ℕ) : Type 0 where
  pub earlier : List Event
  pub event : Event
  pub before : Guard
  pub split : history ≡ earlier ++ event ∷ []
  pub moves : makes_move event ≡ true
  pub legal : (rules : Rules) → AreRows rules.row → guard_after rules setup earlier ≡ Some before
  pub grew : length before.world.output < length g.world.output
  pub written : (bytes : List ℕ) → told ≡ Some (bytes ++ start.world.output)
      → (n : ℕ) × (length before.world.output ≤ n) × (n < length g.world.output)
      × (now ≡ Some (bytes ++ take n g.world.output))
  pub rose : Rose counted count

-- by why it made no further event
abbrev pub StoppedLive : {E : Type 0} (setup : Setup) (is_at : Guard → E → Type 0) (told : E → Option (List ℕ)) (faults : E → ℕ)
    → Guard → Live E → Ran E → Guard → StopCause → Type 0
StoppedLive setup is_at told faults start live ran g (Ended e) = EndedLive setup is_at told start live g e ran
StoppedLive setup is_at told faults start live ran g SinkFailed =
    FailedFrom setup start ran.history.items g (told live.engine) (told ran.engine) (faults live.engine) (faults ran.engine)
StoppedLive setup is_at told faults start live ran g (CannotHappen line) = ⊥
StoppedLive setup is_at told faults start live ran g Memory = Grew start g (told live.engine) (told ran.engine)
StoppedLive setup is_at told faults start live ran g (Misused line) = ⊥
StoppedLive setup is_at told faults start live ran g (UndefinedName line) = ⊥

-- the solo schedule went on with a run from a guard on
pub record Finishes {E : Type 0} (setup : Setup) (is_at : Guard → E → Type 0) (told : E → Option (List ℕ)) (faults : E → ℕ)
    (start : Guard) (live : Live E) (ran : Ran E) : Type 0 where
  -- the guard after the events that were made, the slot that acted last, and the further events
  pub guard : Guard
  pub last : Option ℕ
  pub more : List Event
  pub grown : ran.history.items ≡ live.history.items ++ more
  pub legal : (rules : Rules) → AreRows rules.row → guard_after rules setup ran.history.items ≡ Some guard
  pub solo : (rules : Rules) → AreRows rules.row → SoloFrom rules setup start live.last (reverse more) guard last
  pub most : move_count more ≤ live.left
  pub begun : EachBeforeItsEnd setup (moves_of live) live.history.items more
  pub later : faults live.engine ≤ faults ran.engine
  pub stopped : StoppedLive setup is_at told faults start live ran guard ran.cause
