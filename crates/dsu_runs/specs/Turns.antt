-- What comes of one event, and of one turn of the solo schedule.
use Rattle.std.specs.Prelude.{◌≡◌, ℕ, ◌+◌, ◌<◌, ◌≤◌, ◌==◌, ◌&&◌, ◌||◌, not, List, [], ◌∷◌, ◌++◌, length, true, false, Option, Some, None, option_map, Result, Ok, Err, if◌then◌else◌}
use Rattle.std.specs.Option.{option_or}
use Rattle.std.specs.Vec.{vec_capacity}
use Rattle.dsu_io.specs.Causes.{Rose}
use Rattle.run_types.specs.declared.run.Event.{Event}
use Rattle.run_types.specs.declared.run.Event.TheVariants.{Decide, Offer}
use Rattle.source_model.specs.Guards.{Guard, Setup, has_ended}
use Rattle.source_model.specs.Schedules.{MayStand, acted_by, due, first_act, makes_move, move_count, slots_after}
use Rattle.source_model.specs.Endings.{is_stuck}
use Rattle.dsu_runs.specs.Engines.{Fails, Makes, Refuses}
use Rattle.dsu_runs.specs.declared.engine.Made.{Made}
use Rattle.dsu_runs.specs.declared.engine.Made.TheVariants as made
use Rattle.dsu_runs.specs.declared.engine.Undecided.{Undecided}
use Rattle.dsu_runs.specs.declared.engine.Undecided.TheVariants as why
use Rattle.dsu_runs.specs.declared.ran.Ran.{Ran}
use Rattle.dsu_runs.specs.declared.ran.StopCause.{StopCause}
use Rattle.dsu_runs.specs.declared.running.Running.{Running}
use Rattle.dsu_runs.specs.declared.running.Step.{Step}
use Rattle.dsu_runs.specs.declared.running.Step.TheVariants.{Done, CannotHappen, SinkFailed, Memory, Misused, UndefinedName}
use Rattle.dsu_runs.specs.declared.solo_run.SoloRun.{SoloRun}
use Rattle.dsu_runs.specs.UndefinedNames.{UsesUndefined}

-- what a schedule hands back of a run that it stops
abbrev pub ran_of : {E : Type 0} → Running E → StopCause → Ran E
ran_of running cause = record { engine = running.engine; history = running.history; cause = cause }

-- what came of an event, with why it wasn't made
abbrev pub step_by : Result Made Undecided → Step
step_by (Ok made.Done) = Done
step_by (Ok made.CannotHappen) = CannotHappen
step_by (Ok made.SinkFailed) = SinkFailed
step_by (Err why.Memory) = Memory
step_by (Err why.Misused) = Misused
step_by (Err why.UndefinedName) = UndefinedName

-- the events so far, with one that was made
abbrev pub history_after : Event → List Event → Step → List Event
history_after e es Done = es ++ e ∷ []
history_after e es CannotHappen = es
history_after e es SinkFailed = es ++ e ∷ []
history_after e es Memory = es
history_after e es Misused = es
history_after e es UndefinedName = es

-- an offer isn't decided, for a reason: nothing changed
pub record Withholds (at : Guard → Type 0) (e : Event) (g : Guard) (reason : ℕ → Type 0) (told now : Option (List ℕ)) : Type 0 where
  pub offer : ℕ
  pub decides : e ≡ Decide offer
  pub because : reason offer
  pub stays : at g
  pub silent : now ≡ told

-- what came of an event at a guard; out of memory nothing was printed. An offer isn't decided where a definition was misused in
-- what the run came to, or where its text uses a name that it doesn't define
abbrev pub Steps : (at : Guard → Type 0) → Setup → Event → Guard → Option (List ℕ) → Option (List ℕ) → Step → Type 0
Steps at setup e g told now Done = Makes at setup e g told now
Steps at setup e g told now CannotHappen = Refuses at setup e g told now
Steps at setup e g told now SinkFailed = Fails setup e g told now
Steps at setup e g told now Memory = now ≡ told
Steps at setup e g told now Misused = Withholds at e g (λ k. g.world.misused ≡ true) told now
Steps at setup e g told now UndefinedName = Withholds at e g (UsesUndefined setup) told now

-- what the solo schedule has next where no offer is open and so many moves are left
abbrev pub offer_or_act : Setup → Guard → Option ℕ → ℕ → Option Event
offer_or_act setup g last left =
    option_or (option_map Offer (due setup g)) (if left == 0 then None else first_act g (slots_after (length g.seats) last))

-- what it has next in a run with so many moves left; a run without one goes on only where it is stuck
abbrev pub next_within : Setup → Guard → Option ℕ → ℕ → Option Event
next_within setup g last left =
    if has_ended g || (left == 0 && not (is_stuck g))
    then None
    else option_or (option_map Decide g.open_offer) (offer_or_act setup g last left)

-- only a thread's event can be next: the run goes on, no offer is open or due, and a move is left
pub record IsQuiet (setup : Setup) (g : Guard) (left : ℕ) : Type 0 where
  pub going : has_ended g ≡ false
  pub none_open : g.open_offer ≡ None
  pub none_due : due setup g ≡ None
  pub some_left : 0 < left

-- the event that was next was made, or one that may stand for it
pub record Acts {E : Type 0} (is_at : Guard → E → Type 0) (told : E → Option (List ℕ)) (setup : Setup) (g : Guard)
    (next : Option Event) (old new : SoloRun E) : Type 0 where
  pub wanted : Event
  pub event : Event
  pub due : next ≡ Some wanted
  pub stands : MayStand wanted event
  pub makes : Makes (λ x. is_at x new.running.engine) setup event g (told old.running.engine) (told new.running.engine)
  pub history : new.running.history.items ≡ old.running.history.items ++ event ∷ []
  pub last : new.last ≡ option_or (acted_by event) old.last
  pub left : new.left + move_count (event ∷ []) ≡ old.left
  pub quiet : new.quiet ≡ true → IsQuiet setup makes.after new.left

-- none was next
pub record Waits {E : Type 0} (is_at : Guard → E → Type 0) (told : E → Option (List ℕ)) (g : Guard)
    (next : Option Event) (old new : SoloRun E) : Type 0 where
  pub none : next ≡ None
  pub stays : is_at g new.running.engine
  pub silent : told new.running.engine ≡ told old.running.engine

-- the move that was next was made, and not all that it printed could be written
pub record Breaks {E : Type 0} (told : E → Option (List ℕ)) (setup : Setup) (g : Guard) (next : Option Event)
    (old new : SoloRun E) : Type 0 where
  pub event : Event
  pub due : next ≡ Some event
  pub fails : Fails setup event g (told old.running.engine) (told new.running.engine)
  pub moves : makes_move event ≡ true
  pub history : new.running.history.items ≡ old.running.history.items ++ event ∷ []
  pub left : new.left + move_count (event ∷ []) ≡ old.left

-- out of memory: nothing was made
pub record Lacks {E : Type 0} (told : E → Option (List ℕ)) (old new : SoloRun E) : Type 0 where
  pub silent : told new.running.engine ≡ told old.running.engine
  pub history : new.running.history.items ≡ old.running.history.items

-- what came of a turn in which an event is next, or none; an offer is withdrawn where its decision is kept back
abbrev pub Turned : {E : Type 0} (is_at : Guard → E → Type 0) (told : E → Option (List ℕ)) → Setup → Guard → Option Event
    → SoloRun E → SoloRun E → Step → Type 0
Turned is_at told setup g next old new Done = Acts is_at told setup g next old new
Turned is_at told setup g next old new CannotHappen = Waits is_at told g next old new
Turned is_at told setup g next old new SinkFailed = Breaks told setup g next old new
Turned is_at told setup g next old new Memory = Lacks told old new
Turned is_at told setup g next old new Misused = ⊥
Turned is_at told setup g next old new UndefinedName = ⊥

-- nothing but the engine changed
pub record SameBut {E : Type 0} (old new : SoloRun E) : Type 0 where
  pub history : new.running.history.items ≡ old.running.history.items
  pub last : new.last ≡ old.last
  pub left : new.left ≡ old.left

-- what holds of each turn
pub record Keeps {E : Type 0} (faults : E → ℕ) (old new : SoloRun E) (step : Step) : Type 0 where
  pub room : vec_capacity old.running.history ≤ vec_capacity new.running.history
  pub later : faults old.running.engine ≤ faults new.running.engine
  pub rose : step ≡ SinkFailed → Rose (faults old.running.engine) (faults new.running.engine)
  pub still : step ≡ CannotHappen → SameBut old new
  pub longer : step ≡ Done → length new.running.history.items ≡ length old.running.history.items + 1
