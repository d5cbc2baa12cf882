use Rattle.std.proofs.Common.{◌≡◌, ◌<◌, Some, refl, subst, arith}
use Rattle.std.specs.Prelude.{slice_get}
use Rattle.std.proofs.lemmas.Option.{slice_get_within, get_or_from_slice_get}
use Rattle.offer_decision.specs.declared.seat.Seat.{Seat}
use Rattle.offer_decision.specs.Steps.{HasRow}
use Rattle.offer_decision.proofs.Filled.{one_more}
use Rattle.offer_decision.proofs.in_force.rows_of_seats.Goals as goal

pub loop-slot-preserved : goal.loop-slot-preserved
loop-slot-preserved c = λ names all store are.
    let seats = c.args.seats.now in
    let k = c.loop-slot.slot in
    let row = c.row_in_force.result in
    one_more (λ n row. (seat : Seat) → slice_get seats n ≡ Some seat → HasRow names all seat.origin row) c.loop-slot.in_force _ k row refl
    (λ seat at. subst (λ s. HasRow names all s.origin row)
    (get_or_from_slice_get seats k seat c.index-seats-slot.result at) (c.row_in_force.ensures names all store are))
    (c.loop-slot.invariant names all store are)

pub returns : goal.returns
returns c = λ names all store are n seat row at_seat at_row.
    let l = slice_get_within c.args.seats.now n seat at_seat in
    let here : n < c.loop-slot.slot = omega (arith, l, c.type_inv.seats, c.loop-slot-test.false) in
    c.loop-slot.invariant names all store are n row here at_row seat at_seat
