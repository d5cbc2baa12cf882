-- How many seats are at a check-in, after a move and after a check-in.
use Rattle.std.proofs.Common.{◌≡◌, ℕ, zero, suc, ◌+◌, ◌<◌, ◌≤◌, ◌==◌, Bool, true, false, List, [], ◌∷◌, slice_index_or, slice_set, refl, ap, arith}
use Rattle.std.specs.Prelude.{cond, count_by, length}
use Rattle.std.proofs.lemmas.Bool.{false≢true}
use Rattle.std.proofs.lemmas.Bool.Decides.{nat_tests}
use Rattle.std.proofs.lemmas.List.Sums.{count_by-le-length, sum_by-append}
use Rattle.source_model.specs.Worlds.{World, Slot, Free, Live, Over, alive_in}
use Rattle.source_model.specs.Guards.{Seat, empty_seat, seat_after, seats_from, started_seat}

abbrev pub check_ins : List Seat → ℕ
check_ins seats = count_by (λ s. s.at_check_in) seats

abbrev pub one : Seat → ℕ
one s = cond s.at_check_in 1 0

at_most_one : (b : Bool) → cond b 1 0 ≤ 1
at_most_one true = omega arith
at_most_one false = omega arith

no_less : (b : Bool) → cond false 1 0 ≤ cond b 1 0
no_less true = omega arith
no_less false = omega arith

same : (n : ℕ) → n ≤ n
same n = omega arith

-- the seat of a slot that doesn't move comes to no check-in
other : (leads : Bool) (before after : Slot) (s : Seat) → one (seat_after false leads before after s) ≤ one s
other leads (Live a) (Live b) s = same (one s)
other leads Free (Live b) s = no_less s.at_check_in
other leads (Over n v) (Live b) s = no_less s.at_check_in
other leads before Free s = no_less s.at_check_in
other leads before (Over n v) s = no_less s.at_check_in

same_number : (k t : ℕ) → (k == t) ≡ true → k ≡ t
same_number k t e = grind (arith, nat_tests, e)

-- one seat more
pub more : (s : Seat) (ss : List Seat) → check_ins (s ∷ ss) ≡ one s + check_ins ss
more s ss = omega (arith, sum_by-append (λ x. cond x.at_check_in 1 0) (s ∷ []) ss)

-- one seat after another, where the rest has no more than before
later_by : (k t : ℕ) (leads : Bool) (before after : Slot) (s : Seat) (old new : ℕ) → t < k → new ≤ old → (b : Bool) → (k == t) ≡ b
    → one (seat_after b leads before after s) + new ≤ one s + old
later_by k t leads before after s old new less rest true is = let eq = same_number k t is in absurd (omega (arith, less, eq))
later_by k t leads before after s old new less rest false is = let head = other leads before after s in omega (arith, head, rest)

later : (k t : ℕ) (leads : Bool) (before after : World) (ss : List Seat) → t < k
    → check_ins (seats_from k t leads before after ss) ≤ check_ins ss
later k t leads before after [] less = same 0
later k t leads before after (s ∷ ss) less =
    let rest = later (suc k) t leads before after ss (omega (arith, less)) in
    let all =
    later_by k t leads (alive_in before k) (alive_in after k) s (check_ins ss) (check_ins (seats_from (suc k) t leads before after ss))
    less rest (k == t) refl in
    omega (
      arith,
      all,
      more s ss,
      more (seat_after (k == t) leads (alive_in before k) (alive_in after k) s) (seats_from (suc k) t leads before after ss),
    )

move_by : (k t : ℕ) (leads : Bool) (before after : Slot) (s : Seat) (old new : ℕ) → (t < suc k → new ≤ old) → new ≤ old + 1
    → (b : Bool) → (k == t) ≡ b → one (seat_after b leads before after s) + new ≤ one s + old + 1
move_by k t leads before after s old new past any true is =
    let eq = same_number k t is in
    let rest = past (omega (arith, eq)) in
    let head = at_most_one (seat_after true leads before after s).at_check_in in
    omega (arith, head, rest)
move_by k t leads before after s old new past any false is = let head = other leads before after s in omega (arith, head, any)

-- a move leads one thread to a check-in at most
pub after_move : (k t : ℕ) (leads : Bool) (before after : World) (ss : List Seat)
    → check_ins (seats_from k t leads before after ss) ≤ check_ins ss + 1
after_move k t leads before after [] = omega arith
after_move k t leads before after (s ∷ ss) =
    let rest = after_move (suc k) t leads before after ss in
    let all =
    move_by k t leads (alive_in before k) (alive_in after k) s (check_ins ss) (check_ins (seats_from (suc k) t leads before after ss))
    (later (suc k) t leads before after ss) rest (k == t) refl in
    omega (
      arith,
      all,
      more s ss,
      more (seat_after (k == t) leads (alive_in before k) (alive_in after k) s) (seats_from (suc k) t leads before after ss),
    )

-- a check-in that is passed is one fewer
pub after_check_in : (ss : List Seat) (t : ℕ) (s : Seat) → (slice_index_or ss t empty_seat).at_check_in ≡ true → s.at_check_in ≡ false
    → check_ins (slice_set ss t s) + 1 ≡ check_ins ss
after_check_in [] t s at passed = absurd (false≢true at)
after_check_in (x ∷ ss) zero s at passed =
    let was : one x ≡ 1 = ap (λ b. cond b 1 0) at in
    let is : one s ≡ 0 = ap (λ b. cond b 1 0) passed in
    omega (arith, was, is, more x ss, more s ss)
after_check_in (x ∷ ss) (suc t) s at passed =
    let rest = after_check_in ss t s at passed in
    omega (arith, rest, more x ss, more x (slice_set ss t s))

-- at most as many as there are seats
pub few_check_ins : (ss : List Seat) → check_ins ss ≤ length ss
few_check_ins ss = count_by-le-length (λ s. s.at_check_in) ss
