-- How runs end, and when.
use Rattle.std.specs.Prelude.{ℕ, ◌==◌, Bool, not, ◌&&◌, ◌||◌, List, [], ◌∷◌, Option, Some, None, if◌then◌else◌}
use Rattle.std.specs.Option.{is_none}
use Rattle.std.specs.List.{list_any}
use Rattle.c_ints.specs.declared.kind.Kind.TheVariants.{I32}
use Rattle.c_ints.specs.Number.{reduced}
use Rattle.run_types.specs.declared.run.Event.{Event}
use Rattle.run_types.specs.declared.run.Ending.{Ending}
use Rattle.run_types.specs.declared.run.Ending.TheVariants.{Finished, Trap, Deadlock, Cut}
use Rattle.source_model.specs.Worlds.{Finish}
use Rattle.source_model.specs.Worlds as world
use Rattle.source_model.specs.Runs.{some_can_move}
use Rattle.source_model.specs.Guards.{Guard, Seat, Setup, has_ended}
use Rattle.source_model.specs.Schedules.{due, move_count}

-- no live thread is at a check-in
abbrev pub seats_wait : List Seat → Bool
seats_wait seats = not (list_any (λ s. s.at_check_in) seats)

-- a run is stuck: it hasn't finished or trapped, and no live thread is at a check-in or can move. Offers may still be
-- opened and closed
abbrev pub is_stuck : Guard → Bool
is_stuck g = not (has_ended g) && (seats_wait g.seats && not (some_can_move g.world))

-- how a run ends that ends here
abbrev pub ending_by : Bool → Option Finish → Ending
ending_by stuck (Some (world.Finished r)) = Finished r
ending_by stuck (Some (world.Trapped kind t)) = Trap kind t
ending_by stuck None = if stuck then Deadlock else Cut

abbrev pub ending : Guard → Ending
ending g = ending_by (is_stuck g) g.world.finish

-- no offer is open or due
abbrev pub no_offer_waits : Setup → Guard → Bool
no_offer_waits setup g = is_none g.open_offer && is_none (due setup g)

-- whether a run that may make n moves ends after these events: it has finished or trapped; it is stuck, and no offer is
-- open or due; or it isn't stuck, and the n moves were made
abbrev pub ends : Setup → ℕ → List Event → Guard → Bool
ends setup n events g =
    has_ended g || (if is_stuck g then no_offer_waits setup g else move_count events == n)

abbrev pub run_ending : Setup → ℕ → List Event → Guard → Option Ending
run_ending setup n events g = if ends setup n events g then Some (ending g) else None

-- a replay ends where no event is left of its journal
abbrev pub replay_ending : List Event → Guard → Option Ending
replay_ending [] g = Some (ending g)
replay_ending (e ∷ left) g = None

-- an ending whose number is an int; what main returns is one, and stays as it is
abbrev pub int_ending : Ending → Ending
int_ending (Finished r) = Finished (reduced I32 r)
int_ending (Trap kind slot) = Trap kind slot
int_ending Deadlock = Deadlock
int_ending Cut = Cut
