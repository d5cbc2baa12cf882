-- How a run stands: whether it is stuck, and how it ends.
use Rattle.std.proofs.Common.{◌≡◌, ℕ, zero, suc, ◌+◌, ◌<◌, ◌≤◌, Bool, true, false, List, [], ◌∷◌, slice_index_or, Option, Some, None, refl, sym, ◌∙◌, ap, arith}
use Rattle.std.specs.Prelude.{◌&&◌, ◌||◌, not, length, nat_lt, if◌then◌else◌}
use Rattle.std.specs.Option.{is_some, option_or}
use Rattle.std.specs.List.{list_any, range_with_len}
use Rattle.std.proofs.lemmas.Bool.{true≢false, false≢true}
use Rattle.std.proofs.lemmas.Bool.Decides.{nat_tests}
use Rattle.std.proofs.lemmas.Option.{none-some}
use Rattle.run_types.specs.declared.run.Event.{Event}
use Rattle.run_types.specs.declared.run.Event.TheVariants.{Move, CheckIn}
use Rattle.run_types.specs.declared.run.Ending.{Ending}
use Rattle.source_model.specs.Worlds.{Finish, World}
use Rattle.source_model.specs.Worlds as world
use Rattle.source_model.specs.Runs.{can_move, some_can_move}
use Rattle.source_model.specs.Guards.{Guard, Seat, empty_seat, has_ended, seat_of}
use Rattle.source_model.specs.Schedules.{act_of, first_act}
use Rattle.source_model.specs.Endings.{is_stuck, seats_wait}
use Rattle.dsu_runs.specs.Engines.{finish_of}
use Rattle.dsu_runs.proofs.Slots.{act_going, cannot_beyond, none_acts, one_acts}

-- whether the thread in a slot is at a check-in or can move
abbrev pub acts_in : Guard → ℕ → Bool
acts_in g t = (seat_of g t).at_check_in || can_move g.world t

-- seats and slots of which one is at a check-in or can move, and none
at_one : (ss : List Seat) (t : ℕ) → (slice_index_or ss t empty_seat).at_check_in ≡ true → list_any (λ s. s.at_check_in) ss ≡ true
at_one [] t at = absurd (false≢true at)
at_one (s ∷ ss) zero at = ap (λ b. b || list_any (λ x. x.at_check_in) ss) at
at_one (s ∷ ss) (suc t) at = or_true s.at_check_in (list_any (λ x. x.at_check_in) ss) (at_one ss t at)
  where
    or_true : (a b : Bool) → b ≡ true → (a || b) ≡ true
    or_true true b e = refl
    or_true false b e = e

at_none : (ss : List Seat) → ((k : ℕ) → k < length ss → (slice_index_or ss k empty_seat).at_check_in ≡ false)
    → list_any (λ s. s.at_check_in) ss ≡ false
at_none [] h = refl
at_none (s ∷ ss) h =
    ap (λ b. b || list_any (λ x. x.at_check_in) ss) (h 0 (positive (length ss)))
    ∙ at_none ss (λ k below. h (suc k) (one_more k (length ss) below))
  where
    positive : (n : ℕ) → 0 < suc n
    positive n = omega arith

    one_more : (a b : ℕ) → a < b → suc a < suc b
    one_more a b lt = omega (arith, lt)

moves_none : (w : World) (a n : ℕ) → ((k : ℕ) → k < n → can_move w (a + k) ≡ false) → list_any (can_move w) (range_with_len a n) ≡ false
moves_none w a zero h = refl
moves_none w a (suc n) h =
    ap (λ b. b || list_any (can_move w) (range_with_len (a + 1) n)) (ap (can_move w) (sym (no_more a)) ∙ h 0 (positive n))
    ∙ moves_none w (a + 1) n (λ k below. ap (can_move w) (sym (further a k)) ∙ h (suc k) (one_more k n below))
  where
    no_more : (m : ℕ) → m + 0 ≡ m
    no_more m = omega arith

    positive : (m : ℕ) → 0 < suc m
    positive m = omega arith

    further : (m i : ℕ) → m + suc i ≡ (m + 1) + i
    further m i = omega arith

    one_more : (i m : ℕ) → i < m → suc i < suc m
    one_more i m lt = omega (arith, lt)

or_right : (a b : Bool) → b ≡ true → (a || b) ≡ true
or_right true b e = refl
or_right false b e = e

moves_one : (w : World) (a n k : ℕ) → k < n → can_move w (a + k) ≡ true → list_any (can_move w) (range_with_len a n) ≡ true
moves_one w a zero k below can = absurd (omega (arith, below))
moves_one w a (suc n) zero below can =
    ap (λ b. b || list_any (can_move w) (range_with_len (a + 1) n)) (ap (can_move w) (no_more a) ∙ can)
  where
    no_more : (m : ℕ) → m ≡ m + 0
    no_more m = omega arith
moves_one w a (suc n) (suc k) below can =
    or_right (can_move w a) (list_any (can_move w) (range_with_len (a + 1) n))
    (moves_one w (a + 1) n k (omega (arith, below)) (ap (can_move w) (further a k) ∙ can))
  where
    further : (m i : ℕ) → (m + 1) + i ≡ m + suc i
    further m i = omega arith

neither : (a b : Bool) → (a || b) ≡ false → (a ≡ false) × (b ≡ false)
neither false false e = (refl, refl)
neither false true e = absurd (true≢false e)
neither true b e = absurd (true≢false e)

from_first : (k : ℕ) → 0 + k ≡ k
from_first k = omega arith

-- a run is stuck where no slot acts
pub stuck : (g : Guard) → length g.seats ≡ length g.world.slots → ((k : ℕ) → k < length g.seats → acts_in g k ≡ false)
    → true ≡ (seats_wait g.seats && not (some_can_move g.world))
stuck g same none =
    sym (both (list_any (λ s. s.at_check_in) g.seats) (some_can_move g.world)
    (at_none g.seats (λ k below. (neither (seat_of g k).at_check_in (can_move g.world k) (none k below)).0))
    (ap (λ n. list_any (can_move g.world) (range_with_len 0 n)) (sym same)
    ∙ moves_none g.world 0 (length g.seats) (λ k below.
    ap (can_move g.world) (from_first k) ∙ (neither (seat_of g k).at_check_in (can_move g.world k) (none k below)).1)))
  where
    both : (a b : Bool) → a ≡ false → b ≡ false → (not a && not b) ≡ true
    both false false e f = refl
    both true b e f = absurd (true≢false e)
    both false true e f = absurd (true≢false f)

-- and it isn't where one does
pub not_stuck : (g : Guard) (t : ℕ) → length g.seats ≡ length g.world.slots → t < length g.seats → acts_in g t ≡ true
    → false ≡ (seats_wait g.seats && not (some_can_move g.world))
not_stuck g t same below acts = by (seat_of g t).at_check_in refl acts
  where
    at : list_any (λ s. s.at_check_in) g.seats ≡ true → false ≡ (seats_wait g.seats && not (some_can_move g.world))
    at e = sym (ap (λ b. not b && not (some_can_move g.world)) e)

    no : (a : Bool) → false ≡ (not a && not true)
    no true = refl
    no false = refl

    can : some_can_move g.world ≡ true → false ≡ (seats_wait g.seats && not (some_can_move g.world))
    can e = no (list_any (λ s. s.at_check_in) g.seats) ∙ sym (ap (λ b. seats_wait g.seats && not b) e)

    by : (b : Bool) → (seat_of g t).at_check_in ≡ b → (b || can_move g.world t) ≡ true
        → false ≡ (seats_wait g.seats && not (some_can_move g.world))
    by true is e = at (at_one g.seats t is)
    by false is e =
        can (ap (λ n. list_any (can_move g.world) (range_with_len 0 n)) (sym same)
        ∙ moves_one g.world 0 (length g.seats) t below (ap (can_move g.world) (from_first t) ∙ e))

-- whether a slot acts, by what its thread can do
acts_none : (g : Guard) (t : ℕ) → act_of g t ≡ None → acts_in g t ≡ false
acts_none g t none = by (seat_of g t).at_check_in (can_move g.world t) none
  where
    by : (a b : Bool) → (if a then Some (CheckIn t) else (if b then Some (Move t) else None)) ≡ None → (a || b) ≡ false
    by false false e = refl
    by false true e = absurd (none-some (Move t) (sym e))
    by true b e = absurd (none-some (CheckIn t) (sym e))

acts_some : (g : Guard) (t : ℕ) (e : Event) → act_of g t ≡ Some e → acts_in g t ≡ true
acts_some g t event acts = by (seat_of g t).at_check_in (can_move g.world t) acts
  where
    by : (a b : Bool) → (if a then Some (CheckIn t) else (if b then Some (Move t) else None)) ≡ Some event → (a || b) ≡ true
    by true b e = refl
    by false true e = refl
    by false false e = absurd (none-some event e)

-- a run is stuck where no slot acts in turn
pub stuck_in_turn : (g : Guard) (act : Option Event) → length g.seats ≡ length g.world.slots
    → act ≡ first_act g (range_with_len 0 (length g.seats)) → not (is_some act) ≡ (seats_wait g.seats && not (some_can_move g.world))
stuck_in_turn g None same is =
    stuck g same (λ k below.
    acts_none g k (ap (act_of g) (sym (from_first k)) ∙ none_acts g 0 (length g.seats) (sym is) k below))
stuck_in_turn g (Some event) same is =
    let one = one_acts g 0 (length g.seats) event (sym is) in
    not_stuck g one.0 same one.1 (acts_some g one.0 event (ap (act_of g) (sym (from_first one.0)) ∙ one.2))

-- a run goes on whose engine has no ending for it
pub still_going : (g : Guard) (o : Option Ending) → o ≡ finish_of g.world.finish → is_some o ≡ false → has_ended g ≡ false
still_going g o is none = by g.world.finish (sym (ap is_some is) ∙ none)
  where
    by : (f : Option Finish) → is_some (finish_of f) ≡ false → is_some f ≡ false
    by None e = refl
    by (Some (world.Finished r)) e = e
    by (Some (world.Trapped kind t)) e = e

-- no thread of a stuck run acts
cannot_move : (w : World) → some_can_move w ≡ false → (t : ℕ) → can_move w t ≡ false
cannot_move w none t = by (nat_lt t (length w.slots)) (can_move w t) refl refl
  where
    less : (a b : ℕ) → nat_lt a b ≡ true → a < b
    less a b e = grind (arith, nat_tests, e)

    not_less : (a b : ℕ) → nat_lt a b ≡ false → b ≤ a
    not_less a b e = grind (arith, nat_tests, e)

    by : (a b : Bool) → nat_lt t (length w.slots) ≡ a → can_move w t ≡ b → can_move w t ≡ false
    by false b past is = cannot_beyond w t (not_less t (length w.slots) past)
    by true false within is = is
    by true true within is =
        absurd
        (true≢false (sym (moves_one w 0 (length w.slots) t (less t (length w.slots) within) (ap (can_move w) (from_first t) ∙ is)) ∙ none))

at_no_check_in : (ss : List Seat) → list_any (λ s. s.at_check_in) ss ≡ false → (t : ℕ) → (slice_index_or ss t empty_seat).at_check_in ≡ false
at_no_check_in ss none t = by (slice_index_or ss t empty_seat).at_check_in refl
  where
    by : (b : Bool) → (slice_index_or ss t empty_seat).at_check_in ≡ b → (slice_index_or ss t empty_seat).at_check_in ≡ false
    by false is = is
    by true is = absurd (true≢false (sym (at_one ss t is) ∙ none))

all_of : (a b c : Bool) → (not a && (not b && not c)) ≡ true → (b ≡ false) × (c ≡ false)
all_of false false false e = (refl, refl)
all_of true b c e = absurd (false≢true e)
all_of false true c e = absurd (false≢true e)
all_of false false true e = absurd (false≢true e)

pub stuck_acts_none : (g : Guard) → is_stuck g ≡ true → (slots : List ℕ) → first_act g slots ≡ None
stuck_acts_none g is [] = refl
stuck_acts_none g is (t ∷ slots) =
    let none = all_of (has_ended g) (list_any (λ s. s.at_check_in) g.seats) (some_can_move g.world) is in
    ap (λ o. option_or o (first_act g slots)) (act_going g t false (at_no_check_in g.seats none.0 t) (cannot_move g.world none.1 t))
    ∙ stuck_acts_none g is slots
