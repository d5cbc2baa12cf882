use Rattle.std.proofs.Common.{◌≡◌, ◌<◌, Some, get_or, refl, subst, arith}
use Rattle.std.specs.Prelude.{slice_get}
use Rattle.std.proofs.lemmas.Option.{slice_get_within, get_or_from_slice_get}
use Rattle.con_freeness.specs.declared.row.Row.{Row}
use Rattle.offer_decision.specs.declared.seat.Seat.{Seat}
use Rattle.offer_decision.specs.Steps.{IsPin}
use Rattle.offer_decision.proofs.Filled.{one_more}
use Rattle.offer_decision.proofs.pins.pins_after.Goals as goal

pub loop-slot-preserved : goal.loop-slot-preserved
loop-slot-preserved c =
    let changed = c.args.changed.now in
    let rows = c.args.in_force.now in
    let seats = c.args.seats.now in
    let k = c.loop-slot.slot in
    one_more (λ n pin. (row : Row) (seat : Seat) → slice_get rows n ≡ Some row → slice_get seats n ≡ Some seat → IsPin changed row seat pin)
    c.loop-slot.pins _ k c.pin_after.result refl
    (λ row seat at_row at_seat.
    subst (λ s. IsPin changed row s c.pin_after.result) (get_or_from_slice_get seats k seat c.index-seats-slot.result at_seat)
    (subst (λ r. IsPin changed r (get_or seats k c.index-seats-slot.result) c.pin_after.result)
    (get_or_from_slice_get rows k row c.index-in_force-slot.result at_row) c.pin_after.ensures))
    c.loop-slot.invariant

pub returns : goal.returns
returns c = λ n row seat pin at_row at_seat at_pin.
    let l = slice_get_within c.args.seats.now n seat at_seat in
    let here : n < c.loop-slot.slot = omega (arith, l, c.type_inv.seats, c.loop-slot-test.false) in
    c.loop-slot.invariant n pin here at_pin row seat at_row at_seat
