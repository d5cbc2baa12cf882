-- What a schedule hands back: what was printed, and the move at which the sink failed.
use Rattle.std.specs.Prelude.{◌≡◌, ℕ, ◌≤◌, ◌<◌, true, List, [], ◌∷◌, ◌++◌, length, take, Option, Some}
use Rattle.std.specs.Io.KnownBytes.{Appends}
use Rattle.dsu_io.specs.Causes.{Rose}
use Rattle.run_types.specs.declared.run.Event.{Event}
use Rattle.source_model.specs.Guards.{Guard, Rules, Setup}
use Rattle.source_model.specs.Journals.{guard_after}
use Rattle.source_model.specs.Schedules.{makes_move}
use Rattle.effects.specs.Rows.{AreRows}

-- what a sink shows grew by all that was printed up to a guard
abbrev pub Printed : Option (List ℕ) → Option (List ℕ) → Guard → Type 0
Printed told now g = Appends told now g.world.output

-- the last of some events is a move that printed something, and not all of it could be written: what was written is at least
-- all that was printed before the move, and less than all that was printed with it
pub record FailedAt (setup : Setup) (history : List Event) (g : Guard) (told now : Option (List ℕ)) (counted count : ℕ) : Type 0 where
  pub earlier : List Event
  pub event : Event
  pub before : Guard
  pub split : history ≡ earlier ++ event ∷ []
  pub moves : makes_move event ≡ true
  pub legal : (rules : Rules) → AreRows rules.row → guard_after rules setup earlier ≡ Some before
  pub grew : length before.world.output < length g.world.output
  pub written : ℕ
  pub least : length before.world.output ≤ written
  pub most : written < length g.world.output
  pub printed : Appends told now (take written g.world.output)
  pub rose : Rose counted count
