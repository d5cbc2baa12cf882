use Rattle.std.proofs.Common.{◌≡◌, List, Some}
use Rattle.std.specs.Prelude.{slice_get}
use Rattle.c_tree.specs.BareExpr.{Bytes}
use Rattle.c_semantics.specs.Store.{Body}
use Rattle.code_store.specs.Stored.{IsStoreOf}
use Rattle.checkin_rows.specs.Rows.{AreRowsOf}
use Rattle.offer_decision.specs.declared.seat.Seat.{Seat}
use Rattle.offer_decision.specs.Steps.{HasRow}
use Rattle.offer_decision.proofs.Filled.{AreFilled}
use Rattle.offer_decision.proofs.in_force.rows_of_seats.Given as goal

abbrev pub invariant-loop-slot : goal.invariant-loop-slot
invariant-loop-slot l =
    (names : List Bytes) (all : List Body) → IsStoreOf names all l.bodies → AreRowsOf names all l.rows
    → AreFilled (λ n row. (seat : Seat) → slice_get l.seats n ≡ Some seat → HasRow names all seat.origin row) l.slot l.in_force
