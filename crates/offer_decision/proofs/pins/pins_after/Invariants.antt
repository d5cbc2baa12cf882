use Rattle.std.proofs.Common.{◌≡◌, Some}
use Rattle.std.specs.Prelude.{slice_get}
use Rattle.con_freeness.specs.declared.row.Row.{Row}
use Rattle.offer_decision.specs.declared.seat.Seat.{Seat}
use Rattle.offer_decision.specs.Steps.{IsPin}
use Rattle.offer_decision.proofs.Filled.{AreFilled}
use Rattle.offer_decision.proofs.pins.pins_after.Given as goal

abbrev pub invariant-loop-slot : goal.invariant-loop-slot
invariant-loop-slot l =
    AreFilled (λ n pin. (row : Row) (seat : Seat) → slice_get l.in_force n ≡ Some row → slice_get l.seats n ≡ Some seat
    → IsPin l.changed row seat pin) l.slot l.pins
