-- The seat of a slot after an event.
use Rattle.std.proofs.Common.{◌≡◌, ℕ, zero, suc, ◌+◌, ◌<◌, ◌≤◌, Bool, true, false, ◌&&◌, ◌||◌, ◌==◌, List, [], ◌∷◌, length, refl, sym, ap, subst, ◌∙◌, arith, zero-le, if◌then◌else◌}
use Rattle.std.specs.Prelude.{slice_index_or}
use Rattle.std.proofs.lemmas.Bool.{false≢true}
use Rattle.std.proofs.lemmas.List.{get_or_past}
use Rattle.c_semantics.specs.Store.{Body}
use Rattle.con_freeness.specs.Rows.{Names, meets}
use Rattle.source_model.specs.Worlds.{World, Slot, Free, Live, Over, in_slot, alive_in, is_finished}
use Rattle.source_model.specs.Runs.{is_live}
use Rattle.source_model.specs.Guards.{Guard, Seat, Rules, empty_seat, seat_of, move_leads, seat_after, seats_from, moved, pinned_from, in_transaction, row_in_force}

dead_seat : (b leads : Bool) (x y : Slot) (s : Seat) → is_live y ≡ false → seat_after b leads x y s ≡ empty_seat
dead_seat b leads x (Live th) s h = absurd (false≢true (sym h))
dead_seat b leads x Free s h = refl
dead_seat b leads x (Over n v) s h = refl

from_zero : (n : ℕ) → n ≡ n + 0
from_zero n = omega arith

one_further : (n i : ℕ) → suc n + i ≡ n + suc i
one_further n i = omega arith

less_long : (n i : ℕ) → n ≤ i → suc n ≤ suc i
less_long n i h = omega (arith, h)

seat_at : (n t : ℕ) (leads : Bool) (before after : World) (ss : List Seat) (i : ℕ)
    → (length ss ≤ i → is_live (alive_in after (n + i)) ≡ false)
    → slice_index_or (seats_from n t leads before after ss) i empty_seat
    ≡ seat_after (n + i == t) leads (alive_in before (n + i)) (alive_in after (n + i)) (slice_index_or ss i empty_seat)
seat_at n t leads before after [] i none =
    sym (dead_seat (n + i == t) leads (alive_in before (n + i)) (alive_in after (n + i)) empty_seat (none zero-le))
seat_at n t leads before after (s ∷ ss) zero none =
    ap (λ k. seat_after (k == t) leads (alive_in before k) (alive_in after k) s) (from_zero n)
seat_at n t leads before after (s ∷ ss) (suc i) none =
    seat_at (suc n) t leads before after ss i
    (λ h. subst (λ k. is_live (alive_in after k) ≡ false) (sym (one_further n i)) (none (less_long (length ss) i h)))
    ∙ ap (λ k. seat_after (k == t) leads (alive_in before k) (alive_in after k) (slice_index_or ss i empty_seat)) (one_further n i)

none_alive : (b : Bool) (x : Slot) → x ≡ Free → is_live (if b then Free else x) ≡ false
none_alive true x e = refl
none_alive false x e = ap is_live e

zeroth : (k : ℕ) → 0 + k ≡ k
zeroth k = omega arith

-- after a move
pub seat_moved : (g : Guard) (t k : ℕ) (w : World) → length g.seats ≡ length w.slots
    → seat_of (moved g t w) k ≡ seat_after (k == t) (move_leads (in_slot g.world t)) (alive_in g.world k) (alive_in w k) (seat_of g k)
seat_moved g t k w count =
    seat_at 0 t (move_leads (in_slot g.world t)) g.world w g.seats k
    (λ h. none_alive (is_finished w.finish) (in_slot w (0 + k))
    (get_or_past w.slots (0 + k) Free (subst (λ n. n ≤ 0 + k) count (subst (λ m. length g.seats ≤ m) (sym (zeroth k)) h))))
    ∙ ap (λ n. seat_after (n == t) (move_leads (in_slot g.world t)) (alive_in g.world n) (alive_in w n) (seat_of g k)) (zeroth k)

pub length_moved : (n t : ℕ) (leads : Bool) (w after : World) (ss : List Seat) → length (seats_from n t leads w after ss) ≡ length ss
length_moved n t leads w after [] = refl
length_moved n t leads w after (s ∷ ss) = ap suc (length_moved (suc n) t leads w after ss)

-- after an install, which changes pins alone
pub mark_kept : (rules : Rules) (bodies : List Body) (names : Names) (w : World) (n : ℕ) (ss : List Seat) (i : ℕ)
    → (slice_index_or (pinned_from rules bodies names w n ss) i empty_seat).mark ≡ (slice_index_or ss i empty_seat).mark
mark_kept rules bodies names w n [] i = refl
mark_kept rules bodies names w n (s ∷ ss) zero = refl
mark_kept rules bodies names w n (s ∷ ss) (suc i) = mark_kept rules bodies names w (suc n) ss i

pub check_in_kept : (rules : Rules) (bodies : List Body) (names : Names) (w : World) (n : ℕ) (ss : List Seat) (i : ℕ)
    → (slice_index_or (pinned_from rules bodies names w n ss) i empty_seat).at_check_in ≡ (slice_index_or ss i empty_seat).at_check_in
check_in_kept rules bodies names w n [] i = refl
check_in_kept rules bodies names w n (s ∷ ss) zero = refl
check_in_kept rules bodies names w n (s ∷ ss) (suc i) = check_in_kept rules bodies names w (suc n) ss i

from_empty : (i : ℕ) → i < 0 → ⊥
from_empty i h = omega (arith, h)

less_by_one : (i n : ℕ) → suc i < suc n → i < n
less_by_one i n h = omega (arith, h)

-- the pin is set of a thread in a transaction whose prior set meets the names
pub pin_set : (rules : Rules) (bodies : List Body) (names : Names) (w : World) (n : ℕ) (ss : List Seat) (i : ℕ) → i < length ss
    → (slice_index_or (pinned_from rules bodies names w n ss) i empty_seat).pinned
    ≡ ((slice_index_or ss i empty_seat).pinned
    || (in_transaction (alive_in w (n + i)) && meets names (row_in_force rules bodies (slice_index_or ss i empty_seat).mark).prior))
pin_set rules bodies names w n [] i inside = absurd (from_empty i inside)
pin_set rules bodies names w n (s ∷ ss) zero inside =
    ap (λ k. s.pinned || (in_transaction (alive_in w k) && meets names (row_in_force rules bodies s.mark).prior)) (from_zero n)
pin_set rules bodies names w n (s ∷ ss) (suc i) inside =
    pin_set rules bodies names w (suc n) ss i (less_by_one i (length ss) inside)
    ∙ ap (λ k. (slice_index_or ss i empty_seat).pinned
    || (in_transaction (alive_in w k) && meets names (row_in_force rules bodies (slice_index_or ss i empty_seat).mark).prior)) (one_further n i)

pub length_pinned : (rules : Rules) (bodies : List Body) (names : Names) (w : World) (n : ℕ) (ss : List Seat)
    → length (pinned_from rules bodies names w n ss) ≡ length ss
length_pinned rules bodies names w n [] = refl
length_pinned rules bodies names w n (s ∷ ss) = ap suc (length_pinned rules bodies names w (suc n) ss)
