-- What an engine says of a run, by the guard that it is at.
use Rattle.std.specs.Prelude.{◌≡◌, ℕ, ◌+◌, ◌≤◌, ◌<◌, nat_lt, Bool, false, List, ◌++◌, length, take, Option, Some, None, if◌then◌else◌}
use Rattle.run_types.specs.declared.run.Event.{Event}
use Rattle.run_types.specs.declared.run.Event.TheVariants.{Move, CheckIn}
use Rattle.run_types.specs.declared.run.Ending.{Ending}
use Rattle.run_types.specs.declared.run.Ending.TheVariants.{Trap, Finished}
use Rattle.source_model.specs.Worlds.{Finish, World, is_over}
use Rattle.source_model.specs.Worlds as world
use Rattle.source_model.specs.Waits.{ForMutex, ForThread, waits_for}
use Rattle.source_model.specs.Waits as waits
use Rattle.source_model.specs.Runs.{lives}
use Rattle.source_model.specs.Guards.{Guard, Rules, Setup, has_ended, seat_of}
use Rattle.source_model.specs.Journals as journal
use Rattle.source_model.specs.Endings.{int_ending}
use Rattle.effects.specs.Rows.{AreRows}
use Rattle.dsu_runs.specs.declared.engine.Made.{Made}
use Rattle.dsu_runs.specs.declared.engine.Made.TheVariants.{Done, CannotHappen, SinkFailed}
use Rattle.dsu_runs.specs.declared.engine.Stands.{Stands}
use Rattle.dsu_runs.specs.declared.engine.Stands.TheVariants.{NoThread, AtCheckIn, Going}
use Rattle.dsu_runs.specs.declared.engine.Turn.{Turn}
use Rattle.dsu_runs.specs.declared.engine.Turn.TheVariants as turn
use Rattle.dsu_runs.specs.declared.engine.Waiting.{Waiting}
use Rattle.dsu_runs.specs.declared.engine.Waiting.TheVariants.{Mutex, Thread}

-- the ending of a run that has finished or trapped
abbrev pub finish_of : Option Finish → Option Ending
finish_of None = None
finish_of (Some (world.Finished r)) = Some (int_ending (Finished r))
finish_of (Some (world.Trapped kind t)) = Some (Trap kind t)

-- how the thread in a slot stands, by whether its seat is at a check-in and whether it lives
abbrev pub standing_by : Bool → Bool → Stands
standing_by at_check_in alive = if at_check_in then AtCheckIn else (if alive then Going else NoThread)

abbrev pub standing_of : Guard → ℕ → Stands
standing_of g t = standing_by (seat_of g t).at_check_in (lives g.world t)

-- of so many slots the first in turn after the one that acted last; none acts that isn't there
abbrev pub first_after : ℕ → Option ℕ → ℕ
first_after count None = 0
first_after count (Some slot) = if nat_lt slot count then slot + 1 else 0

-- what is reported of a thread that waits, as the definitions have it
abbrev pub waiting_of : Waiting → waits.Waiting
waiting_of (Mutex name holder) = ForMutex name.now holder
waiting_of (Thread slot) = ForThread slot

-- what the thread in a slot waits for; in a run that is over none waits
abbrev pub waits_in : World → ℕ → Option waits.Waiting
waits_in w slot = if is_over w then None else waits_for w slot

-- what a sink shows grew by what was printed from one guard to another; it says so by what was printed in all, so that
-- two such steps in a row are one
abbrev pub Grew : Guard → Guard → Option (List ℕ) → Option (List ℕ) → Type 0
Grew g after told now = (before : List ℕ) → told ≡ Some (before ++ g.world.output) → now ≡ Some (before ++ after.world.output)

-- it grew by a prefix of what was printed from one guard to another, and not by all of it
abbrev pub GrewPartly : Guard → Guard → Option (List ℕ) → Option (List ℕ) → Type 0
GrewPartly g after told now =
    (before : List ℕ) → told ≡ Some (before ++ g.world.output)
    → (n : ℕ) × (length g.world.output ≤ n) × (n < length after.world.output) × (now ≡ Some (before ++ take n after.world.output))

-- an event was made: the guard after it, at which the engine is
pub record Makes (at : Guard → Type 0) (setup : Setup) (e : Event) (g : Guard) (told now : Option (List ℕ)) : Type 0 where
  pub after : Guard
  pub happens : (rules : Rules) → AreRows rules.row → journal.happens rules setup e g ≡ Some after
  pub there : at after
  pub grew : Grew g after told now

-- an event can't happen, and the engine stays
pub record Refuses (at : Guard → Type 0) (setup : Setup) (e : Event) (g : Guard) (told now : Option (List ℕ)) : Type 0 where
  pub never : (rules : Rules) → AreRows rules.row → journal.happens rules setup e g ≡ None
  pub stays : at g
  pub silent : now ≡ told

-- an event was made that printed something, and not all of it could be written
pub record Fails (setup : Setup) (e : Event) (g : Guard) (told now : Option (List ℕ)) : Type 0 where
  pub after : Guard
  pub happens : (rules : Rules) → AreRows rules.row → journal.happens rules setup e g ≡ Some after
  pub longer : length g.world.output < length after.world.output
  pub grew : GrewPartly g after told now

-- what came of an event at a guard
abbrev pub MakesAt : (at : Guard → Type 0) → Setup → Event → Guard → Option (List ℕ) → Option (List ℕ) → Made → Type 0
MakesAt at setup e g told now Done = Makes at setup e g told now
MakesAt at setup e g told now CannotHappen = Refuses at setup e g told now
MakesAt at setup e g told now SinkFailed = Fails setup e g told now

-- an engine is at a guard of a run that goes on, with a seat for each slot, and no offer is open
pub record GoesAt {E : Type 0} (is_at : Guard → E → Type 0) (g : Guard) (engine : E) : Type 0 where
  pub there : is_at g engine
  pub going : has_ended g ≡ false
  pub fits : length g.seats ≡ length g.world.slots
  pub none_open : g.open_offer ≡ None

-- a move was made that printed nothing, and the run goes on
pub record MovesOn (at : Guard → Type 0) (setup : Setup) (slot : ℕ) (g : Guard) (told now : Option (List ℕ)) : Type 0 where
  pub makes : Makes at setup (Move slot) g told now
  pub going : has_ended makes.after ≡ false
  pub silent : makes.after.world.output ≡ g.world.output

-- none acts, and the engine stays
pub record Rests (at : Guard → Type 0) (g : Guard) (told now : Option (List ℕ)) : Type 0 where
  pub stays : at g
  pub silent : now ≡ told

-- what came of a turn in which a thread's event is next, or none
abbrev pub TurnsTo : (at : Guard → Type 0) → Setup → Option Event → Guard → Option (List ℕ) → Option (List ℕ) → Turn → Type 0
TurnsTo at setup next g told now (turn.Moved slot) = (next ≡ Some (Move slot)) × MovesOn at setup slot g told now
TurnsTo at setup next g told now (turn.CheckedIn slot) = (next ≡ Some (CheckIn slot)) × Makes at setup (CheckIn slot) g told now
TurnsTo at setup next g told now (turn.Changed slot) = (next ≡ Some (Move slot)) × Makes at setup (Move slot) g told now
TurnsTo at setup next g told now (turn.SinkFailed slot) = (next ≡ Some (Move slot)) × Fails setup (Move slot) g told now
TurnsTo at setup next g told now turn.NoneActs = (next ≡ None) × Rests at g told now
