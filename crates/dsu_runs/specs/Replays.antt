-- What a replay hands back.
use Rattle.std.specs.Prelude.{◌≡◌, ℕ, ◌≤◌, true, List, length, map, slice_get, take, Option, Some, None}
use Rattle.run_types.specs.declared.run.Event.{Event}
use Rattle.run_types.specs.declared.run.Event.TheVariants.{Decide}
use Rattle.run_types.specs.declared.run.Ending.{Ending}
use Rattle.source_model.specs.Guards.{Guard, Rules, Setup}
use Rattle.source_model.specs.Journals.{guard_after, happens}
use Rattle.source_model.specs.Endings.{ending, int_ending}
use Rattle.effects.specs.Rows.{AreRows}
use Rattle.dsu_runs.specs.Ran.{FailedAt, Printed}
use Rattle.dsu_runs.specs.UndefinedNames.{UsesUndefined}
use Rattle.dsu_runs.specs.declared.ran.Ran.{Ran}
use Rattle.dsu_runs.specs.declared.ran.StopCause.{StopCause}
use Rattle.dsu_runs.specs.declared.ran.StopCause.TheVariants.{Ended, SinkFailed, CannotHappen, Memory, Misused, UndefinedName}

-- a journal's events, each without its line
abbrev pub events_of : List (ℕ × Event) → List Event
events_of lines = map (λ line. line.1) lines

-- all events of the journal were made
pub record EndedReplay {E : Type 0} (is_at : Guard → E → Type 0) (told : E → Option (List ℕ)) (lines : List (ℕ × Event))
    (g : Guard) (end : Ending) (engine : E) (ran : Ran E) : Type 0 where
  pub all : ran.history.items ≡ events_of lines
  pub ending : end ≡ int_ending (ending g)
  pub there : is_at g ran.engine
  pub printed : Printed (told engine) (told ran.engine) g

-- the event of a line can't happen: it is the one after those that were made
pub record Refused {E : Type 0} (setup : Setup) (is_at : Guard → E → Type 0) (told : E → Option (List ℕ)) (lines : List (ℕ × Event))
    (g : Guard) (line : ℕ) (engine : E) (ran : Ran E) : Type 0 where
  pub event : Event
  pub next : slice_get lines (length ran.history.items) ≡ Some (line, event)
  pub never : (rules : Rules) → AreRows rules.row → happens rules setup event g ≡ None
  pub there : is_at g ran.engine
  pub printed : Printed (told engine) (told ran.engine) g

-- the decision of a line isn't made, since a definition was misused in what those that were made come to
pub record MisusedReplay {E : Type 0} (is_at : Guard → E → Type 0) (told : E → Option (List ℕ)) (lines : List (ℕ × Event))
    (g : Guard) (line : ℕ) (engine : E) (ran : Ran E) : Type 0 where
  pub offer : ℕ
  pub next : slice_get lines (length ran.history.items) ≡ Some (line, Decide offer)
  pub misused : g.world.misused ≡ true
  pub there : is_at g ran.engine
  pub printed : Printed (told engine) (told ran.engine) g

-- the decision of a line isn't made, since the text of its offer uses a name that it doesn't define
pub record UndefinedReplay {E : Type 0} (setup : Setup) (is_at : Guard → E → Type 0) (told : E → Option (List ℕ))
    (lines : List (ℕ × Event)) (g : Guard) (line : ℕ) (engine : E) (ran : Ran E) : Type 0 where
  pub offer : ℕ
  pub next : slice_get lines (length ran.history.items) ≡ Some (line, Decide offer)
  pub undefined : UsesUndefined setup offer
  pub there : is_at g ran.engine
  pub printed : Printed (told engine) (told ran.engine) g

-- by why no further event was made
abbrev pub StoppedReplay : {E : Type 0} (setup : Setup) (is_at : Guard → E → Type 0) (told : E → Option (List ℕ)) (faults : E → ℕ)
    → E → List (ℕ × Event) → Ran E → Guard → StopCause → Type 0
StoppedReplay setup is_at told faults engine lines ran g (Ended e) = EndedReplay is_at told lines g e engine ran
StoppedReplay setup is_at told faults engine lines ran g SinkFailed =
    FailedAt setup ran.history.items g (told engine) (told ran.engine) (faults engine) (faults ran.engine)
StoppedReplay setup is_at told faults engine lines ran g (CannotHappen line) =
    Refused setup is_at told lines g line engine ran
StoppedReplay setup is_at told faults engine lines ran g Memory = Printed (told engine) (told ran.engine) g
StoppedReplay setup is_at told faults engine lines ran g (Misused line) = MisusedReplay is_at told lines g line engine ran
StoppedReplay setup is_at told faults engine lines ran g (UndefinedName line) =
    UndefinedReplay setup is_at told lines g line engine ran

-- the replay of a journal by an engine: a prefix of its events was made
pub record Replayed {E : Type 0} (setup : Setup) (is_at : Guard → E → Type 0) (told : E → Option (List ℕ)) (faults : E → ℕ)
    (engine : E) (lines : List (ℕ × Event)) (ran : Ran E) : Type 0 where
  -- the guard after the events that were made
  pub guard : Guard
  pub legal : (rules : Rules) → AreRows rules.row → guard_after rules setup ran.history.items ≡ Some guard
  pub made : ran.history.items ≡ take (length ran.history.items) (events_of lines)
  pub later : faults engine ≤ faults ran.engine
  pub stopped : StoppedReplay setup is_at told faults engine lines ran guard ran.cause
