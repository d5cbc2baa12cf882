-- The pins that an install sets.
use Rattle.std.proofs.Common.{◌≡◌, ℕ, zero, suc, ◌+◌, ◌<◌, ◌↔◌, ◌⊎◌, inl, inr, Bool, true, false, ◌&&◌, ◌||◌, List, [], ◌∷◌, Some, length, map, refl, sym, ap, subst, ◌∙◌, arith}
use Rattle.std.specs.Prelude.{IsTrue, slice_get}
use Rattle.std.proofs.lemmas.Option.{slice_get_within}
use Rattle.name_sets.specs.IdSet.{IsCommon}
use Rattle.name_sets.specs.Texts.{IsTable}
use Rattle.c_tree.specs.BareExpr.{Bytes}
use Rattle.c_semantics.specs.Store.{Body}
use Rattle.con_freeness.specs.declared.row.Row.{Row as RowOfIds}
use Rattle.con_freeness.specs.Decisions.{IsListOf}
use Rattle.con_freeness.specs.Rows.{Names, meets}
use Rattle.source_model.specs.Worlds.{World, alive_in}
use Rattle.source_model.specs.Guards.{Rules, row_in_force, in_transaction, pinned_from}
use Rattle.source_model.specs.Guards as kept
use Rattle.effects.specs.Rows.{AreRows}
use Rattle.offer_decision.specs.declared.seat.Seat.{Seat}
use Rattle.offer_decision.specs.Seats.{AreSeats, AreInTransactions}
use Rattle.offer_decision.specs.Steps.{HaveRows, ArePinsAfter}
use Rattle.offer_decision.proofs.NamesOfIds.{row_is, meets_is}
use Rattle.offer_decision.proofs.Slots.{seat_at}

-- the pin of a slot after an install
abbrev pub pin_of : Rules → List Body → Names → World → ℕ → kept.Seat → Bool
pin_of rules bodies changed w n own =
    own.pinned || (in_transaction (alive_in w n) && meets changed (row_in_force rules bodies own.mark).prior)

untrue : (pin : Bool) → (IsTrue pin → ⊥) → false ≡ pin
untrue true none = absurd (none refl)
untrue false none = refl

pin_is : (a b c pin : Bool) (X : Type 0) → (IsTrue pin ↔ (IsTrue a ⊎ (IsTrue b × X))) → (IsTrue c ↔ X) → (a || (b && c)) ≡ pin
pin_is true b c pin X h is = sym (h.1 (inl refl))
pin_is false true true pin X h is = sym (h.1 (inr (refl, is.0 refl)))
pin_is false true false pin X h is = untrue pin (λ e. by (h.0 e))
  where
    by : IsTrue false ⊎ (IsTrue true × X) → ⊥
    by (inl e) = cc
    by (inr p) = let e = is.1 p.1 in cc
pin_is false false c pin X h is = untrue pin (λ e. by (h.0 e))
  where
    by : IsTrue false ⊎ (IsTrue false × X) → ⊥
    by (inl e) = cc
    by (inr p) = let e = p.0 in cc

-- lists whose items at each place are the pins of the slots
pins_from : (rules : Rules) (bodies : List Body) (changed : Names) (w : World) (k : ℕ) (slots : List kept.Seat) (pins : List Bool)
    → length slots ≡ length pins
    → ((n m : ℕ) (own : kept.Seat) (pin : Bool) → m ≡ k + n → slice_get slots n ≡ Some own → slice_get pins n ≡ Some pin
    → pin_of rules bodies changed w m own ≡ pin)
    → map (λ s. s.pinned) (pinned_from rules bodies changed w k slots) ≡ pins
pins_from rules bodies changed w k [] [] many each = refl
pins_from rules bodies changed w k [] (pin ∷ pins) many each = absurd (omega (arith, many))
pins_from rules bodies changed w k (s ∷ ss) [] many each = absurd (omega (arith, many))
pins_from rules bodies changed w k (s ∷ ss) (pin ∷ pins) many each =
    let first : pin_of rules bodies changed w k s ≡ pin = each zero k s pin (omega arith) refl refl in
    let rest : map (λ s. s.pinned) (pinned_from rules bodies changed w (suc k) ss) ≡ pins =
    pins_from rules bodies changed w (suc k) ss pins (omega (arith, many))
    (λ n m own pin e at_slot at_pin. each (suc n) m own pin (let f : m ≡ k + suc n = omega (arith, e) in f) at_slot at_pin) in
    ap (λ p. p ∷ map (λ s. s.pinned) (pinned_from rules bodies changed w (suc k) ss)) first ∙ ap (λ ps. pin ∷ ps) rest

row_at : (rows : List RowOfIds) (n : ℕ) → n < length rows → (row : RowOfIds) × (slice_get rows n ≡ Some row)
row_at [] n l = absurd (omega (arith, l))
row_at (r ∷ rs) zero l = (r, refl)
row_at (r ∷ rs) (suc n) l = row_at rs n (omega (arith, l))

pub pins_are : (rules : Rules) (names : List Bytes) (bodies : List Body) (seats : List Seat) (slots : List kept.Seat)
    (rows : List RowOfIds) (set : ℕ) (changed : Names) (pins : List Bool) (w : World)
    → AreRows rules.row → IsTable names → length seats ≡ 16 → length rows ≡ 16 → length pins ≡ 16
    → AreSeats names bodies seats slots → HaveRows names bodies seats rows → IsListOf names set changed
    → ((row : RowOfIds) (id : ℕ) → IsCommon set row.prior id → id < length names)
    → ArePinsAfter set rows seats pins → AreInTransactions w seats
    → map (λ s. s.pinned) (pinned_from rules bodies changed w 0 slots) ≡ pins
pins_are rules names bodies seats slots rows set changed pins w are table many as_many so_many own have is known after within =
    pins_from rules bodies changed w 0 slots pins (own.many ∙ sym so_many)
    (λ n m slot pin e at_slot at_pin. subst (λ m. pin_of rules bodies changed w m slot ≡ pin) (let f : n ≡ m = omega (arith, e) in f)
    (at n slot pin at_slot at_pin))
  where
    at : (n : ℕ) (slot : kept.Seat) (pin : Bool) → slice_get slots n ≡ Some slot → slice_get pins n ≡ Some pin
        → pin_of rules bodies changed w n slot ≡ pin
    at n slot pin at_slot at_pin =
        let l = slice_get_within slots n slot at_slot in
        let here : n < 16 = omega (arith, own.many, l) in
        let s = seat_at seats n (let k : n < length seats = omega (arith, many, here) in k) in
        let r = row_at rows n (let k : n < length rows = omega (arith, as_many, here) in k) in
        let seat = own.each n s.0 slot s.1 at_slot in
        let row = row_is rules names bodies s.0.origin slot.mark r.0 are seat.mark seat.known (have n s.0 r.0 s.1 r.1) in
        let c = meets changed (row_in_force rules bodies slot.mark).prior in
        let meet = meets_is names set r.0.prior changed (row_in_force rules bodies slot.mark).prior table is row.prior (known r.0) in
        ap (λ a. a || (in_transaction (alive_in w n) && c)) seat.pinned
        ∙ ap (λ b. s.0.pinned || (b && c)) (within n s.0 s.1)
        ∙ pin_is s.0.pinned s.0.in_transaction c pin ((id : ℕ) × IsCommon set r.0.prior id) (after n r.0 s.0 pin r.1 s.1 at_pin) meet
