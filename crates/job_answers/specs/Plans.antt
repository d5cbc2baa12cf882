-- In which order the events of a run are made: by the solo schedule, or those of a journal.
use Rattle.std.specs.Prelude.{◌≡◌, ℕ, ◌≤◌, IsTrue, List, length, reverse, slice_get, take, Option, Some, None}
use Rattle.run_types.specs.declared.run.Event.{Event}
use Rattle.source_model.specs.Guards.{Guard, Rules, Setup}
use Rattle.source_model.specs.Journals.{happens}
use Rattle.source_model.specs.Schedules.{Solo, is_prompt, move_count}
use Rattle.source_model.specs.Endings.{ending, run_ending}
use Rattle.effects.specs.Rows.{AreRows}
use Rattle.dsu_runs.specs.Replays.{events_of}
use Rattle.dsu_runs.specs.Solo.{EachBeforeTheEnd}

pub data Plan : Type 0 where
  -- by the solo schedule, with so many moves at most
  BySchedule : ℕ → Plan
  -- the events of a journal, each with its line
  ByJournal : List (ℕ × Event) → Plan

-- the events so far are those of the solo schedule, where an open offer may be withdrawn in place of its decision, and each
-- was made where the run hadn't ended; so no move was made while an offer was due
pub record FollowsSchedule (setup : Setup) (moves : ℕ) (history : List Event) (g : Guard) : Type 0 where
  pub last : Option ℕ
  pub solo : (rules : Rules) → AreRows rules.row → Solo rules setup (reverse history) g last
  pub prompt : (rules : Rules) → AreRows rules.row → IsTrue (is_prompt rules setup history)
  pub most : move_count history ≤ moves
  pub begun : EachBeforeTheEnd setup moves history

-- the events so far are those of the plan
abbrev pub Follows : Plan → Setup → List Event → Guard → Type 0
Follows (BySchedule moves) setup history g = FollowsSchedule setup moves history g
Follows (ByJournal lines) setup history g = history ≡ take (length history) (events_of lines)

-- the plan has no further event: the run has ended as a run with so many moves does, or the journal's events are used up
abbrev pub Ends : Plan → Setup → List Event → Guard → Type 0
Ends (BySchedule moves) setup history g = run_ending setup moves history g ≡ Some (ending g)
Ends (ByJournal lines) setup history g = history ≡ events_of lines

-- the plan's next event is that of a line of a journal, and it can't happen
pub record CannotGoOn (setup : Setup) (lines : List (ℕ × Event)) (history : List Event) (g : Guard) (line : ℕ) : Type 0 where
  pub event : Event
  pub next : slice_get lines (length history) ≡ Some (line, event)
  pub never : (rules : Rules) → AreRows rules.row → happens rules setup event g ≡ None

-- the solo schedule has no event that can't happen
abbrev pub Impossible : Plan → Setup → List Event → Guard → ℕ → Type 0
Impossible (BySchedule moves) setup history g line = ⊥
Impossible (ByJournal lines) setup history g line = CannotGoOn setup lines history g line
