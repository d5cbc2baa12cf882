-- What the value under the lock is, and what its type keeps.
use Rattle.std.specs.Prelude.{◌≡◌, ℕ, ◌+◌, ◌≤◌, ◌<◌, List, [], ◌∷◌, ◌++◌, All, map, filter_map, length, take, Option, Some, None}
use Rattle.dsu_io.specs.Causes.{Rose}
use Rattle.run_types.specs.declared.run.Event.{Event}
use Rattle.run_types.specs.declared.run.Event.TheVariants.{Move, CheckIn, Offer, Decide, Withdraw}
use Rattle.run_types.specs.declared.run.Ending.{Ending}
use Rattle.pass_lock.specs.declared.notes.Entry.{Entry}
use Rattle.pass_lock.specs.Histories.{entry}
use Rattle.source_model.specs.Guards.{Guard, Rules, Setup}
use Rattle.source_model.specs.Journals.{guard_after}
use Rattle.source_model.specs.Schedules.{move_count}
use Rattle.source_model.specs.Endings.{ending, int_ending, run_ending}
use Rattle.effects.specs.Rows.{AreRows}
use Rattle.dsu_runs.specs.Engines.{Grew}
use Rattle.dsu_runs.specs.declared.ran.StopCause.{StopCause}
use Rattle.dsu_runs.specs.declared.ran.StopCause.TheVariants.{Ended, SinkFailed, CannotHappen, Memory, Misused, UndefinedName}
use Rattle.threaded_vm.specs.declared.notes.Note.{Note}
use Rattle.threaded_vm.specs.declared.notes.Note.TheVariants as note
use Rattle.threaded_vm.specs.declared.notes.Noted.{Noted}
use Rattle.threaded_vm.specs.declared.notes.Course.{Course}
use Rattle.threaded_vm.specs.declared.notes.Course.TheVariants.{Going, Failing, Over}
use Rattle.threaded_vm.specs.Opened.{Comes, GoesOn, HasRoom, IsARun, Opened}

-- the value: the engine, the events since the workers began, how many moves are left, and whether the run is over
pub record Locked (E : Type 0) : Type 0 where
  pub engine : E
  pub noted : List Noted
  pub left : ℕ
  pub course : Course

abbrev pub event : Noted → Event
event n = n.event

abbrev pub events : List Noted → List Event
events noted = map event noted

-- the value's history: an entry for each event, with the pass that made it, and one for the end of the run
abbrev pub noted_entry : Noted → Entry Note
noted_entry n = entry n.pass (note.Made n.event)

abbrev pub log_by : List Noted → Course → List (Entry Note)
log_by noted Going = map noted_entry noted
log_by noted Failing = map noted_entry noted
log_by noted (Over pass cause) = map noted_entry noted ++ entry pass (note.Over cause) ∷ []

abbrev pub log_of : {E : Type 0} → Locked E → List (Entry Note)
log_of s = log_by s.noted s.course

-- the events of a history
abbrev pub made_event : Note → Option Event
made_event (note.Made e) = Some e
made_event (note.Over cause) = None

abbrev pub event_in : Entry Note → Option Event
event_in e = made_event e.what

abbrev pub events_in : List (Entry Note) → List Event
events_in log = filter_map event_in log

-- a slot's event is made by the pass with the slot's number
abbrev pub IsMadeBy : ℕ → Event → Type 0
IsMadeBy pass (Move slot) = pass ≡ slot
IsMadeBy pass (CheckIn slot) = pass ≡ slot
IsMadeBy pass (Offer k) = Unit {0}
IsMadeBy pass (Decide k) = Unit {0}
IsMadeBy pass (Withdraw k) = Unit {0}

abbrev pub NamesItsPass : Noted → Type 0
NamesItsPass n = IsMadeBy n.pass n.event

-- what a sink shows grew by what was printed from the first guard to another, but for the end of what the last move printed
abbrev pub GrewInPart : Guard → Guard → Guard → Option (List ℕ) → Option (List ℕ) → Type 0
GrewInPart first before after told now =
    (base : List ℕ) → told ≡ Some (base ++ first.world.output)
    → (n : ℕ) × (length before.world.output ≤ n) × (n < length after.world.output) × (now ≡ Some (base ++ take n after.world.output))

-- the last of some events is a move that printed something, and not all of it could be written
pub record FailedSince (setup : Setup) (first : Guard) (history : List Event) (after : Guard) (told now : Option (List ℕ)) (counted count : ℕ) : Type 0 where
  pub earlier : List Event
  pub slot : ℕ
  pub before : Guard
  pub split : history ≡ earlier ++ Move slot ∷ []
  pub legal : (rules : Rules) → AreRows rules.row → guard_after rules setup earlier ≡ Some before
  pub longer : length before.world.output < length after.world.output
  pub grew : GrewInPart first before after told now
  pub rose : Rose counted count

module _ {E : Type 0} (is_at : Setup → Guard → E → Type 0) (told : E → Option (List ℕ)) (faults : E → ℕ) (setup : Setup) (first : Guard) (history : List Event) where
  module _ (counted : ℕ) (shown : Option (List ℕ)) (moves : ℕ) (engine : E) where
    -- the run goes on at a guard
    pub record Stands : Type 0 where
      pub after : Guard
      pub goes : GoesOn is_at setup after history engine
      pub grew : Grew first after shown (told engine)

    -- the run has ended so, here
    pub record EndsHere (end : Ending) : Type 0 where
      pub after : Guard
      pub goes : GoesOn is_at setup after history engine
      pub grew : Grew first after shown (told engine)
      pub so : end ≡ int_ending (ending after)
      pub ends : run_ending setup moves history after ≡ Some (ending after)

    -- the sink failed in the last move
    pub record Breaks : Type 0 where
      pub after : Guard
      pub comes : Comes setup history after
      pub failed : FailedSince setup first history after shown (told engine) counted (faults engine)

    -- out of memory: the events came to a guard, but nothing is known of the engine
    pub record Lacks : Type 0 where
      pub after : Guard
      pub comes : Comes setup history after
      pub grew : Grew first after shown (told engine)

    -- by why no further event is made
    abbrev pub EndsBy : StopCause → Type 0
    EndsBy (Ended end) = EndsHere end
    EndsBy SinkFailed = Breaks
    EndsBy (CannotHappen line) = ⊥
    EndsBy Memory = Lacks
    EndsBy (Misused line) = ⊥
    EndsBy (UndefinedName line) = ⊥

    abbrev pub InCourse : Course → Type 0
    InCourse Going = Stands
    InCourse Failing = Breaks
    InCourse (Over pass cause) = EndsBy cause

module _ {E : Type 0} (is_at : Setup → Guard → E → Type 0) (told : E → Option (List ℕ)) (faults : E → ℕ) (o : Opened) where
  abbrev pub IsInCourse : Locked E → Course → Type 0
  IsInCourse s course =
      (setup : Setup) (first : Guard) → o.at setup first
      → InCourse is_at told faults setup first (o.history ++ events s.noted) o.faults o.told (move_count o.history + o.left) s.engine course

  -- what the value's type keeps
  pub record Kept (s : Locked E) : Type 0 where
    pub run : IsARun o
    pub begun : (setup : Setup) (first : Guard) → o.at setup first → HasRoom o setup first
    pub course : IsInCourse s s.course
    pub named : All NamesItsPass s.noted
    pub moves : move_count (events s.noted) + s.left ≡ o.left
    pub later : o.faults ≤ faults s.engine
    pub few : length s.noted ≤ o.room

-- the run is over
abbrev pub IsOverBy : {E : Type 0} → Locked E → Type 0
IsOverBy s = (pass : ℕ) × (cause : StopCause) × (s.course ≡ Over pass cause)
