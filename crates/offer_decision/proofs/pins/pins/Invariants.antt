use Rattle.std.proofs.Common.{◌≡◌, Some}
use Rattle.std.specs.Prelude.{slice_get}
use Rattle.offer_decision.specs.declared.seat.Seat.{Seat}
use Rattle.offer_decision.proofs.Filled.{AreFilled}
use Rattle.offer_decision.proofs.pins.pins.Given as goal

abbrev pub invariant-loop-slot : goal.invariant-loop-slot
invariant-loop-slot l = AreFilled (λ n pin. (seat : Seat) → slice_get l.seats n ≡ Some seat → pin ≡ seat.pinned) l.slot l.pins
