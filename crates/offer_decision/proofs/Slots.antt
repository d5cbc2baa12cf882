-- The slots as the test of the rows sees them.
use Rattle.std.proofs.Common.{◌≡◌, ℕ, zero, suc, ◌<◌, Bool, false, List, [], ◌∷◌, Some, None, length, map, get_or, refl, sym, ap, subst, ◌∙◌, arith}
use Rattle.std.specs.Prelude.{slice_get}
use Rattle.std.proofs.lemmas.List.{length-map}
use Rattle.std.proofs.lemmas.Option.{slice_get-get_or, slice_get_within}
use Rattle.c_tree.specs.BareExpr.{Bytes}
use Rattle.c_semantics.specs.Store.{Body}
use Rattle.con_freeness.specs.declared.row.Row.{Row as RowOfIds}
use Rattle.con_freeness.specs.Decisions.{AreSlotsOf, IsRowOf}
use Rattle.source_model.specs.Guards.{Rules, in_force, row_in_force}
use Rattle.source_model.specs.Guards as kept
use Rattle.effects.specs.Rows.{AreRows}
use Rattle.offer_decision.specs.declared.seat.Seat.{Seat}
use Rattle.offer_decision.specs.Seats.{AreSeats}
use Rattle.offer_decision.specs.Steps.{HaveRows, ArePinsBefore}
use Rattle.offer_decision.proofs.NamesOfIds.{row_is}

pub map_at : {A B : Type 0} (f : A → B) (xs : List A) (n : ℕ) (y : B) → slice_get (map f xs) n ≡ Some y
    → (x : A) × (slice_get xs n ≡ Some x) × (f x ≡ y)
map_at f [] n y e = cc
map_at f (x ∷ xs) zero y e = (x, refl, cc)
map_at f (x ∷ xs) (suc n) y e = map_at f xs n y e

-- the seat at a place
pub seat_at : (seats : List Seat) (n : ℕ) → n < length seats → (s : Seat) × (slice_get seats n ≡ Some s)
seat_at seats n l =
    let d : Seat = record { origin = None; pinned = false; in_transaction = false } in
    (get_or seats n d, slice_get-get_or seats n d l)

pub slots_are : (rules : Rules) (names : List Bytes) (bodies : List Body) (seats : List Seat) (slots : List kept.Seat)
    (rows : List RowOfIds) (pins : List Bool)
    → AreRows rules.row → length seats ≡ 16 → length rows ≡ 16
    → AreSeats names bodies seats slots → HaveRows names bodies seats rows → ArePinsBefore seats pins
    → AreSlotsOf names rows pins (map (in_force rules bodies) slots)
slots_are rules names bodies seats slots rows pins are many as_many own have before = record {
  many = length-map slots (in_force rules bodies) ∙ own.many ∙ sym as_many;
  rows = λ n row slot at_row at_slot.
      let x = map_at (in_force rules bodies) slots n slot at_slot in
      let l = slice_get_within slots n x.0 x.1 in
      let s = seat_at seats n (let k : n < length seats = omega (arith, l, own.many, many) in k) in
      let is = own.each n s.0 x.0 s.1 x.1 in
      subst (λ f. IsRowOf names row f.row) x.2
      (row_is rules names bodies s.0.origin x.0.mark row are is.mark is.known (have n s.0 row s.1 at_row));
  pins = λ n pin slot at_pin at_slot.
      let x = map_at (in_force rules bodies) slots n slot at_slot in
      let l = slice_get_within slots n x.0 x.1 in
      let s = seat_at seats n (let k : n < length seats = omega (arith, l, own.many, many) in k) in
      let is = own.each n s.0 x.0 s.1 x.1 in
      ap (λ f. f.pinned) (sym x.2) ∙ is.pinned ∙ sym (before n s.0 pin s.1 at_pin);
}
