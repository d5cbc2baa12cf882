-- Laws of the solo schedule, and of how runs end.
use Rattle.std.specs.Prelude.{◌≡◌, ℕ, ◌||◌, ◌&&◌, Bool, true, false, IsTrue, List, reverse, Option, Some, None}
use Rattle.run_types.specs.declared.run.Event.{Event}
use Rattle.source_model.specs.Runs.{State, Finished, Trapped, Stuck, Going, state}
use Rattle.source_model.specs.Guards.{Guard, Setup, Rules, has_ended}
use Rattle.source_model.specs.Journals.{guard_after}
use Rattle.source_model.specs.JournalLaws.{CanHappen}
use Rattle.source_model.specs.Schedules.{Solo, solo_next, is_prompt}
use Rattle.source_model.specs.Endings.{is_stuck, no_offer_waits, seats_wait}

-- what the solo schedule has next can happen, as long as no definition was misused
abbrev pub NextCanHappen : Type 0
NextCanHappen =
    (rules : Rules) (setup : Setup) (events : List Event) (g : Guard) (last : Option ℕ) (e : Event)
    → guard_after rules setup events ≡ Some g → g.world.misused ≡ false → solo_next setup g last ≡ Some e
    → CanHappen rules setup e g

-- a journal of the solo schedule is legal and comes to its guard
abbrev pub SoloIsLegal : Type 0
SoloIsLegal =
    (rules : Rules) (setup : Setup) (events : List Event) (g : Guard) (last : Option ℕ)
    → Solo rules setup events g last → guard_after rules setup (reverse events) ≡ Some g

-- and it is prompt
abbrev pub SoloIsPrompt : Type 0
SoloIsPrompt =
    (rules : Rules) (setup : Setup) (events : List Event) (g : Guard) (last : Option ℕ)
    → Solo rules setup events g last → IsTrue (is_prompt rules setup (reverse events))

-- a run is stuck exactly where no thread of its world can move, though one lives, and none is at a check-in
abbrev pub is_stuck_state : State → Bool
is_stuck_state (Finished r) = false
is_stuck_state (Trapped kind t) = false
is_stuck_state Stuck = true
is_stuck_state Going = false

abbrev pub StuckByState : Type 0
StuckByState =
    (rules : Rules) (setup : Setup) (events : List Event) (g : Guard)
    → guard_after rules setup events ≡ Some g → is_stuck g ≡ (is_stuck_state (state g.world) && seats_wait g.seats)

-- where the solo schedule has nothing next, the run has finished or trapped, or it is stuck with no offer open or due
abbrev pub NothingNext : Type 0
NothingNext =
    (rules : Rules) (setup : Setup) (events : List Event) (g : Guard) (last : Option ℕ)
    → guard_after rules setup events ≡ Some g → solo_next setup g last ≡ None
    → IsTrue (has_ended g || (is_stuck g && no_offer_waits setup g))
