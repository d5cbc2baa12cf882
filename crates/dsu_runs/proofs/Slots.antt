-- The slots in cyclic order, and the first of them that acts.
use Rattle.std.proofs.Common.{◌≡◌, ℕ, zero, suc, ◌+◌, ◌-◌, ◌<◌, ◌≤◌, Bool, true, false, List, [], ◌∷◌, ◌++◌, slice_index_or, Option, Some, None, refl, sym, ◌∙◌, ap, subst, arith}
use Rattle.std.specs.Prelude.{◌||◌, length, nat_lt, if◌then◌else◌}
use Rattle.std.specs.Option.{is_some, option_or}
use Rattle.std.specs.List.{range_with_len}
use Rattle.std.proofs.lemmas.Bool.{true≢false}
use Rattle.std.proofs.lemmas.Bool.Decides.{nat_tests}
use Rattle.std.proofs.lemmas.Option.{none-some}
use Rattle.run_types.specs.declared.run.Event.{Event}
use Rattle.run_types.specs.declared.run.Event.TheVariants.{Move, CheckIn}
use Rattle.source_model.specs.Worlds.{Free, Live, Over, Slot, World, in_slot, is_over}
use Rattle.source_model.specs.Runs.{can_move, is_live}
use Rattle.source_model.specs.Moves.{move_of}
use Rattle.source_model.specs.Waits.{must_wait}
use Rattle.source_model.specs.Guards.{Guard, Seat, empty_seat, seat_of}
use Rattle.source_model.specs.Schedules.{act_of, first_act, slots_after}
use Rattle.dsu_runs.specs.Engines.{first_after}

-- what a thread can do that is at a check-in, and one that is at none
pub act_at_check_in : (g : Guard) (t : ℕ) → (seat_of g t).at_check_in ≡ true → act_of g t ≡ Some (CheckIn t)
act_at_check_in g t at = ap (λ x. if x then Some (CheckIn t) else (if can_move g.world t then Some (Move t) else None)) at

pub act_going : (g : Guard) (t : ℕ) (b : Bool) → (seat_of g t).at_check_in ≡ false → can_move g.world t ≡ b
    → act_of g t ≡ (if b then Some (Move t) else None)
act_going g t b at can =
    ap (λ x. if x then Some (CheckIn t) else (if can_move g.world t then Some (Move t) else None)) at
    ∙ ap (λ x. if x then Some (Move t) else None) can

-- a slot that isn't there
seat_beyond : (seats : List Seat) (t : ℕ) → length seats ≤ t → (slice_index_or seats t empty_seat).at_check_in ≡ false
seat_beyond [] t past = refl
seat_beyond (s ∷ seats) zero past = absurd (none (length seats) past)
  where
    none : (n : ℕ) → suc n ≤ 0 → ⊥
    none n le = omega (arith, le)
seat_beyond (s ∷ seats) (suc t) past = seat_beyond seats t (omega (arith, past))

beyond : (slots : List Slot) (t : ℕ) → length slots ≤ t → slice_index_or slots t Free ≡ Free
beyond [] t past = refl
beyond (s ∷ slots) zero past = absurd (none (length slots) past)
  where
    none : (n : ℕ) → suc n ≤ 0 → ⊥
    none n le = omega (arith, le)
beyond (s ∷ slots) (suc t) past = beyond slots t (omega (arith, past))

-- no move is made in a slot in which no thread lives
pub no_thread : (w : World) (t : ℕ) → is_live (in_slot w t) ≡ false → can_move w t ≡ false
no_thread w t none = by (is_over w || must_wait w t) (in_slot w t) none
  where
    by : (b : Bool) (s : Slot) → is_live s ≡ false → is_some (if b then None else move_of w t s) ≡ false
    by true s e = refl
    by false Free e = refl
    by false (Over serial value) e = refl
    by false (Live thread) e = absurd (true≢false e)

pub cannot_beyond : (w : World) (t : ℕ) → length w.slots ≤ t → can_move w t ≡ false
cannot_beyond w t past = no_thread w t (ap is_live (beyond w.slots t past))

none_beyond : (g : Guard) (t : ℕ) → length g.seats ≡ length g.world.slots → length g.seats ≤ t → act_of g t ≡ None
none_beyond g t same past =
    act_going g t false (seat_beyond g.seats t past) (cannot_beyond g.world t (subst (λ n. n ≤ t) same past))

-- some slots and others
first_of_both : (g : Guard) (xs ys : List ℕ) → first_act g (xs ++ ys) ≡ option_or (first_act g xs) (first_act g ys)
first_of_both g [] ys = refl
first_of_both g (x ∷ xs) ys = by (act_of g x) (first_of_both g xs ys)
  where
    by : (a : Option Event) → first_act g (xs ++ ys) ≡ option_or (first_act g xs) (first_act g ys)
        → option_or a (first_act g (xs ++ ys)) ≡ option_or (option_or a (first_act g xs)) (first_act g ys)
    by None e = e
    by (Some event) e = refl

or_none : (a : Option Event) → a ≡ option_or a None
or_none None = refl
or_none (Some event) = refl

no_more : (n : ℕ) → n ≡ n + 0
no_more n = omega arith

no_first : (n : ℕ) → 0 + n ≡ n
no_first n = omega arith

further : (n k : ℕ) → (n + 1) + k ≡ n + suc k
further n k = omega arith

one_out : (m n : ℕ) → suc m + n ≡ suc (m + n)
one_out m n = omega arith

-- slots that can't act, before others
before : (g : Guard) (from m n : ℕ) → ((k : ℕ) → k < m → act_of g (from + k) ≡ None)
    → first_act g (range_with_len from (m + n)) ≡ first_act g (range_with_len (from + m) n)
before g from zero n none =
    ap (λ i. first_act g (range_with_len from i)) (no_first n) ∙ ap (λ k. first_act g (range_with_len k n)) (no_more from)
before g from (suc m) n none =
    ap (λ i. first_act g (range_with_len from i)) (one_out m n)
    ∙ ap (λ o. option_or o (first_act g (range_with_len (from + 1) (m + n)))) (ap (act_of g) (no_more from) ∙ none 0 (positive m))
    ∙ before g (from + 1) m n (λ k below. ap (act_of g) (further from k) ∙ none (suc k) (one_more k below))
    ∙ ap (λ k. first_act g (range_with_len k n)) (further from m)
  where
    positive : (i : ℕ) → 0 < suc i
    positive i = omega arith

    one_more : (i : ℕ) → i < m → suc i < suc m
    one_more i lt = omega (arith, lt)

-- and after others
behind : (g : Guard) (from m n : ℕ) → ((k : ℕ) → from + m ≤ k → act_of g k ≡ None)
    → first_act g (range_with_len from (m + n)) ≡ first_act g (range_with_len from m)
behind g from zero n none =
    ap (λ i. first_act g (range_with_len from i)) (no_first n ∙ no_more n)
    ∙ before g from n 0 (λ k below. none (from + k) (from_on from k))
  where
    from_on : (a k : ℕ) → a + 0 ≤ a + k
    from_on a k = omega arith
behind g from (suc m) n none =
    ap (λ i. first_act g (range_with_len from i)) (one_out m n)
    ∙ ap (option_or (act_of g from)) (behind g (from + 1) m n (λ k past. none k (subst (λ i. i ≤ k) (further from m) past)))

-- none of the slots from one up to another acts
pub none_within : (g : Guard) (from to : ℕ) → ((n : ℕ) → from ≤ n → n < to → act_of g n ≡ None)
    → first_act g (range_with_len from (to - from)) ≡ None
none_within g from to none =
    ap (λ n. first_act g (range_with_len from n)) (no_more (to - from))
    ∙ before g from (to - from) 0 (λ k below. none (from + k) (omega arith) (omega (arith, below)))

-- or none of those up to one between them
pub none_before : (g : Guard) (from slot to : ℕ) → from ≤ slot → slot ≤ to → ((n : ℕ) → from ≤ n → n < slot → act_of g n ≡ None)
    → first_act g (range_with_len from (to - from)) ≡ first_act g (range_with_len slot (to - slot))
none_before g from slot to low high none =
    ap (λ n. first_act g (range_with_len from n)) parts
    ∙ before g from (slot - from) (to - slot) (λ k below. none (from + k) (omega arith) (omega (arith, below)))
    ∙ ap (λ n. first_act g (range_with_len n (to - slot))) there
  where
    parts : to - from ≡ (slot - from) + (to - slot)
    parts = omega (arith, low, high)

    there : from + (slot - from) ≡ slot
    there = omega (arith, low)

-- the slots from one to another: that one, and those after it
turn : (g : Guard) (slot to : ℕ) → slot < to
    → first_act g (range_with_len slot (to - slot))
    ≡ option_or (act_of g slot) (first_act g (range_with_len (slot + 1) (to - (slot + 1))))
turn g slot to below = ap (λ n. first_act g (range_with_len slot n)) count
  where
    count : to - slot ≡ suc (to - (slot + 1))
    count = omega (arith, below)

pub acts_first : (g : Guard) (slot to : ℕ) (e : Event) → slot < to → act_of g slot ≡ Some e
    → first_act g (range_with_len slot (to - slot)) ≡ Some e
acts_first g slot to e below acts =
    turn g slot to below ∙ ap (λ o. option_or o (first_act g (range_with_len (slot + 1) (to - (slot + 1))))) acts

pub none_at : (g : Guard) (slot to : ℕ) → slot < to → act_of g slot ≡ None
    → first_act g (range_with_len slot (to - slot)) ≡ first_act g (range_with_len (slot + 1) (to - (slot + 1)))
none_at g slot to below none =
    turn g slot to below ∙ ap (λ o. option_or o (first_act g (range_with_len (slot + 1) (to - (slot + 1))))) none

-- the slots in turn: those from the first in turn, and then those before it
pub in_turn : (g : Guard) (last : Option ℕ) → length g.seats ≡ length g.world.slots
    → let first = first_after (length g.seats) last in
    first_act g (slots_after (length g.seats) last)
    ≡ option_or (first_act g (range_with_len first (length g.seats - first))) (first_act g (range_with_len 0 (first - 0)))
in_turn g None same =
    or_none (first_act g (range_with_len 0 (length g.seats)))
    ∙ ap (λ n. option_or (first_act g (range_with_len 0 n)) None) (whole (length g.seats))
  where
    whole : (n : ℕ) → n ≡ n - 0
    whole n = omega arith
in_turn g (Some slot) same = by (nat_lt slot (length g.seats)) refl
  where
    count : ℕ
    count = length g.seats

    whole : (n : ℕ) → n ≡ n - 0
    whole n = omega arith

    is_less : nat_lt slot count ≡ true → slot < count
    is_less e = grind (arith, nat_tests, e)

    is_past : nat_lt slot count ≡ false → count ≤ slot
    is_past e = grind (arith, nat_tests, e)

    all : count ≤ slot → first_act g (range_with_len 0 (suc slot)) ≡ first_act g (range_with_len 0 count)
    all past =
        ap (λ n. first_act g (range_with_len 0 n)) (parts past)
        ∙ behind g 0 count (suc slot - count) (λ k from. none_beyond g k same (subst (λ n. n ≤ k) (no_first count) from))
      where
        parts : count ≤ slot → suc slot ≡ count + (suc slot - count)
        parts le = omega (arith, le)

    empty : count ≤ slot → range_with_len (suc slot) (count - suc slot) ≡ []
    empty past = ap (range_with_len (suc slot)) (none past)
      where
        none : count ≤ slot → count - suc slot ≡ 0
        none le = omega (arith, le)

    after : suc slot ≡ slot + 1
    after = omega arith

    by : (b : Bool) → nat_lt slot count ≡ b
        → first_act g (slots_after count (Some slot))
        ≡ option_or (first_act g (range_with_len (if b then slot + 1 else 0) (count - (if b then slot + 1 else 0))))
        (first_act g (range_with_len 0 ((if b then slot + 1 else 0) - 0)))
    by true e =
        first_of_both g (range_with_len (suc slot) (count - suc slot)) (range_with_len 0 (suc slot))
        ∙ ap (λ n. option_or (first_act g (range_with_len (suc slot) (count - suc slot))) (first_act g (range_with_len 0 n))) (whole (suc slot))
        ∙ ap (λ n. option_or (first_act g (range_with_len n (count - n))) (first_act g (range_with_len 0 (n - 0)))) after
    by false e =
        let past = is_past e in
        ap (λ slots. first_act g (slots ++ range_with_len 0 (suc slot))) (empty past)
        ∙ all past
        ∙ or_none (first_act g (range_with_len 0 count))
        ∙ ap (λ n. option_or (first_act g (range_with_len 0 n)) None) (whole count)

-- the one that acts is among the slots
pub first_is : (g : Guard) (slots : List ℕ) (e : Event) → first_act g slots ≡ Some e → (t : ℕ) × (act_of g t ≡ Some e)
first_is g [] e is = absurd (none-some e is)
first_is g (t ∷ slots) e is = by (act_of g t) refl (first_is g slots e) is
  where
    by : (o : Option Event) → act_of g t ≡ o → (first_act g slots ≡ Some e → (n : ℕ) × (act_of g n ≡ Some e))
        → option_or o (first_act g slots) ≡ Some e → (n : ℕ) × (act_of g n ≡ Some e)
    by None at later rest = later rest
    by (Some other) at later same = (t, at ∙ same)

-- and it is one of so many
abbrev One : Guard → ℕ → ℕ → Event → Type 0
One g from n e = (k : ℕ) × (k < n) × (act_of g (from + k) ≡ Some e)

pub one_acts : (g : Guard) (from n : ℕ) (e : Event) → first_act g (range_with_len from n) ≡ Some e
    → (k : ℕ) × (k < n) × (act_of g (from + k) ≡ Some e)
one_acts g from zero e is = absurd (none-some e is)
one_acts g from (suc n) e is = by (act_of g from) refl (one_acts g (from + 1) n e) is
  where
    positive : (i : ℕ) → 0 < suc i
    positive i = omega arith

    one_more : (i m : ℕ) → i < m → suc i < suc m
    one_more i m lt = omega (arith, lt)

    one_later : One g (from + 1) n e → One g from (suc n) e
    one_later (k, below, acts) = (suc k, one_more k n below, ap (act_of g) (sym (further from k)) ∙ acts)

    by : (o : Option Event) → act_of g from ≡ o
        → (first_act g (range_with_len (from + 1) n) ≡ Some e → One g (from + 1) n e)
        → option_or o (first_act g (range_with_len (from + 1) n)) ≡ Some e → One g from (suc n) e
    by None at later rest = one_later (later rest)
    by (Some other) at later same = (0, positive n, ap (act_of g) (sym (no_more from)) ∙ at ∙ same)

pub none_acts : (g : Guard) (from n : ℕ) → first_act g (range_with_len from n) ≡ None → (k : ℕ) → k < n → act_of g (from + k) ≡ None
none_acts g from zero is k below = absurd (omega (arith, below))
none_acts g from (suc n) is k below = by (act_of g from) refl (none_acts g (from + 1) n) is k below
  where
    less : (i m : ℕ) → suc i < suc m → i < m
    less i m lt = omega (arith, lt)

    by : (o : Option Event) → act_of g from ≡ o
        → (first_act g (range_with_len (from + 1) n) ≡ None → (i : ℕ) → i < n → act_of g ((from + 1) + i) ≡ None)
        → option_or o (first_act g (range_with_len (from + 1) n)) ≡ None
        → (i : ℕ) → i < suc n → act_of g (from + i) ≡ None
    by (Some other) at later none i lt = absurd (none-some other (sym none))
    by None at later none zero lt = ap (act_of g) (sym (no_more from)) ∙ at
    by None at later none (suc i) lt = ap (act_of g) (sym (further from i)) ∙ later none i (less i n lt)
