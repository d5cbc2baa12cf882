-- What workers begin with, and where a run stands that goes on.
use Rattle.std.specs.Prelude.{◌≡◌, ℕ, ◌+◌, ◌*◌, ◌≤◌, IsTrue, List, length, Option, Some}
use Rattle.run_types.specs.declared.run.Event.{Event}
use Rattle.source_model.specs.Guards.{Guard, Rules, Setup}
use Rattle.source_model.specs.Journals.{guard_after}
use Rattle.source_model.specs.Schedules.{is_prompt}
use Rattle.effects.specs.Rows.{AreRows}

-- what workers begin with: the events that were made before; whether the run of a setup was at a guard then; what the sink
-- showed, and how many faults it had counted; how many moves may still be made, and for how many events there is room
pub record Opened : Type 1 where
  pub history : List Event
  pub at : Setup → Guard → Type 0
  pub told : Option (List ℕ)
  pub faults : ℕ
  pub left : ℕ
  pub room : ℕ

-- it is the run of some setup
abbrev pub IsARun : Opened → Type 0
IsARun o = (setup : Setup) × (first : Guard) × o.at setup first

-- the events are legal and prompt, and come to a guard
pub record Comes (setup : Setup) (history : List Event) (g : Guard) : Type 0 where
  pub legal : (rules : Rules) → AreRows rules.row → guard_after rules setup history ≡ Some g
  pub prompt : (rules : Rules) → AreRows rules.row → IsTrue (is_prompt rules setup history)

-- a run goes on: its events came to a guard, and the engine is at it
pub record GoesOn {E : Type 0} (is_at : Setup → Guard → E → Type 0) (setup : Setup) (g : Guard) (history : List Event) (engine : E) : Type 0 where
  pub comes : Comes setup history g
  pub there : is_at setup g engine

-- the events before came to a guard, and there is room for all further ones: a check-in comes after a move that led to it, but for
-- those at which the threads were, and an offer is opened and closed once; one may be open
pub record HasRoom (o : Opened) (setup : Setup) (first : Guard) : Type 0 where
  pub comes : Comes setup o.history first
  pub room : 2 * o.left + length first.seats + 2 * length setup.offers + 1 ≤ o.room
