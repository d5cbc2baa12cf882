-- Main's thread has its slot as long as the run goes on; so a run is stuck where its state is.
use Rattle.std.proofs.Common.{◌≡◌, Bool, true, false, List, [], ◌∷◌, Option, Some, None, refl, ap}
use Rattle.std.specs.Prelude.{◌&&◌, ◌||◌, not, slice_index_or, if◌then◌else◌}
use Rattle.std.specs.Option.{is_some}
use Rattle.std.specs.List.{list_any}
use Rattle.run_types.specs.declared.run.Event.{Event}
use Rattle.source_model.specs.Worlds.{Slot, Free, Finish, Finished, Trapped, in_slot}
use Rattle.source_model.specs.Moves.{move}
use Rattle.source_model.specs.Runs.{is_live, some_can_move, some_lives, state, state_by}
use Rattle.source_model.specs.Runs as source
use Rattle.source_model.specs.Guards.{Guard, Setup, Rules}
use Rattle.source_model.specs.Endings.{seats_wait}
use Rattle.source_model.specs.ScheduleLaws.{StuckByState, is_stuck_state}
use Rattle.source_model.proofs.Moved.{Keeps, move_keeps}
use Rattle.source_model.proofs.Moved as moved
use Rattle.source_model.proofs.Events.{Handles, in_each_guard}

pub record MainLives (g : Guard) : Type 0 where
  pub main : is_live (in_slot g.world 0) ≡ true

handles : (rules : Rules) (setup : Setup) (e : Event) (g : Guard) → MainLives g → Handles rules setup e g MainLives
handles rules setup e g h = record {
  moves = λ none t w made.
      record { main = (moved.of_outcome (Keeps t g.world) (move g.world t) w made (move_keeps g.world t)).main h.main };
  checks = λ none t test. record { main = h.main };
  opens = λ none k more reached. record { main = h.main };
  ends = λ k closing a is. record { main = h.main };
  installs = λ k closing o names is at. record { main = h.main };
}

not_so : false ≡ true → ⊥
not_so e = cc

pub first_lives : (slots : List Slot) → is_live (slice_index_or slots 0 Free) ≡ true → list_any is_live slots ≡ true
first_lives [] h = absurd (not_so h)
first_lives (s ∷ slots) h = ap (λ b. b || list_any is_live slots) h

-- by how the run has ended
by_finish : (lives can wait : Bool) → lives ≡ true
    → (wait && not can) ≡ (is_stuck_state (if lives && not can then source.Stuck else source.Going) && wait)
by_finish true true true e = refl
by_finish true true false e = refl
by_finish true false true e = refl
by_finish true false false e = refl
by_finish false can wait e = absurd (not_so e)

pub stuck_is : (g : Guard) (o : Option Finish) → some_lives g.world ≡ true
    → (not (is_some o) && (seats_wait g.seats && not (some_can_move g.world))) ≡ (is_stuck_state (state_by g.world o) && seats_wait g.seats)
stuck_is g None lives = by_finish (some_lives g.world) (some_can_move g.world) (seats_wait g.seats) lives
stuck_is g (Some (Finished r)) lives = refl
stuck_is g (Some (Trapped kind t)) lives = refl

pub stuck_by_state : StuckByState
stuck_by_state rules setup events g legal =
    stuck_is g g.world.finish
    (first_lives g.world.slots
    (in_each_guard rules setup MainLives (record { main = refl }) (handles rules setup) events g legal).main)
