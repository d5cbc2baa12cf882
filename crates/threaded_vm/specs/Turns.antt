-- What a turn answers, which entry it adds, and what is known where it answers so.
use Rattle.std.specs.Prelude.{◌≡◌, ◌⊎◌, ℕ, List, [], ◌∷◌, ◌++◌, Some, None}
use Rattle.run_types.specs.declared.run.Event.{Event}
use Rattle.run_types.specs.declared.run.Event.TheVariants.{Move, CheckIn}
use Rattle.pass_lock.specs.declared.notes.Entry.{Entry}
use Rattle.pass_lock.specs.Histories.{Adds, entry}
use Rattle.source_model.specs.Guards.{Guard, Rules, Setup}
use Rattle.source_model.specs.Journals.{happens}
use Rattle.source_model.specs.Schedules.{due}
use Rattle.effects.specs.Rows.{AreRows}
use Rattle.dsu_runs.specs.Engines.{standing_of}
use Rattle.dsu_runs.specs.declared.engine.Stands.TheVariants.{NoThread, AtCheckIn}
use Rattle.dsu_runs.specs.declared.ran.StopCause.{StopCause}
use Rattle.threaded_vm.specs.declared.notes.Note.{Note}
use Rattle.threaded_vm.specs.declared.notes.Note.TheVariants.{Made, Over}
use Rattle.threaded_vm.specs.declared.notes.Look.{Look}
use Rattle.threaded_vm.specs.declared.notes.Look.TheVariants.{Moved, CheckedIn, Held, Waits, Idle, Closing, Due, Ended}
use Rattle.threaded_vm.specs.Opened.{Comes, Opened}
use Rattle.threaded_vm.specs.Locked.{events_in}

-- what the pass of a slot adds to the history with an answer
abbrev pub Answered : ℕ → Look → List Note → Type 0
Answered slot Moved added = added ≡ Made (Move slot) ∷ []
Answered slot CheckedIn added = added ≡ Made (CheckIn slot) ∷ []
Answered slot Ended added = (added ≡ []) ⊎ ((cause : StopCause) × (added ≡ Over cause ∷ []))
Answered slot Held added = added ≡ []
Answered slot Waits added = added ≡ []
Answered slot Idle added = added ≡ []
Answered slot Closing added = added ≡ []
Answered slot (Due k) added = added ≡ []

-- a turn of a pass adds to the history what its answer says
abbrev pub Enters : ℕ → Look → List (Entry Note) → List (Entry Note) → Type 0
Enters slot look before after = (added : List Note) × Adds slot before added after × Answered slot look added

-- the end of the run stands in the history
abbrev pub IsOver : List (Entry Note) → Type 0
IsOver log = (earlier : List (Entry Note)) × (pass : ℕ) × (cause : StopCause) × (log ≡ earlier ++ entry pass (Over cause) ∷ [])

-- some events come to a guard, of which this holds
pub record Found (setup : Setup) (history : List Event) (P : Setup → Guard → Type 0) : Type 0 where
  pub after : Guard
  pub comes : Comes setup history after
  pub says : P setup after

abbrev pub Finds : Opened → List Event → (Setup → Guard → Type 0) → Type 0
Finds o events P = (setup : Setup) (first : Guard) → o.at setup first → Found setup (o.history ++ events) P

-- this holds of each guard to which the events come
abbrev pub Surely : Opened → List Event → (Setup → Guard → Type 0) → Type 0
Surely o events P =
    (setup : Setup) (first after : Guard) → o.at setup first → Comes setup (o.history ++ events) after → P setup after

abbrev pub Never : Event → Setup → Guard → Type 0
Never e setup g = (rules : Rules) → AreRows rules.row → happens rules setup e g ≡ None

-- what is known of the run where a turn of a slot's pass answers so
abbrev pub SaysOf : Opened → ℕ → List Event → Type 0 → Look → Type 0
SaysOf o slot events over Moved = Unit {0}
SaysOf o slot events over CheckedIn = Unit {0}
SaysOf o slot events over Held = Finds o events (λ setup g. (standing_of g slot ≡ AtCheckIn) × Never (CheckIn slot) setup g)
SaysOf o slot events over Waits = Finds o events (Never (Move slot))
SaysOf o slot events over Idle = Finds o events (λ setup g. standing_of g slot ≡ NoThread)
SaysOf o slot events over Closing = Finds o events (λ setup g. (k : ℕ) × (g.open_offer ≡ Some k))
SaysOf o slot events over (Due k) = Finds o events (λ setup g. due setup g ≡ Some k)
SaysOf o slot events over Ended = over

abbrev pub Says : Opened → ℕ → List (Entry Note) → Look → Type 0
Says o slot log look = SaysOf o slot (events_in log) (IsOver log) look
