-- The slots in which threads live, and what is kept of them.
use Rattle.std.proofs.Common.{◌≡◌, ℕ, zero, suc, ◌+◌, ◌-◌, ◌<◌, ◌≤◌, ◌==◌, Bool, true, false, List, [], ◌∷◌, slice_get, slice_index_or, slice_set, length, Option, Some, None, refl, sym, ◌∙◌, ap, arith}
use Rattle.std.specs.Prelude.{MatchOption, nat_lt, if◌then◌else◌}
use Rattle.std.specs.Option.{option_or}
use Rattle.std.specs.List.{range_with_len}
use Rattle.std.proofs.lemmas.Bool.{true≢false}
use Rattle.std.proofs.lemmas.Bool.Decides.{nat_tests}
use Rattle.std.proofs.lemmas.List.{get_or_past, get_or-set_other, get_or-set_same, length-set}
use Rattle.std.proofs.lemmas.Option.{none-some, slice_get-get_or}
use Rattle.source_model.specs.Worlds.{in_slot, is_over}
use Rattle.source_model.specs.Guards.{Guard, bodies_of, has_ended, seat_of}
use Rattle.source_model.specs.Schedules.{act_of, first_act, slots_after}
use Rattle.slot_sets.specs.Members.{HasNoneFrom, IsFirstFrom, is_in}
use Rattle.run_types.specs.declared.run.Event.{Event}
use Rattle.run_machine.specs.Machines.{Shown}
use Rattle.dsu_runs.specs.Engines.{first_after}
use Rattle.dsu_runs.proofs.Slots.{act_going, in_turn, no_thread, none_before, none_within}
use Rattle.plain_engine.specs.declared.seat.Seat.{Seat}
use Rattle.plain_engine.specs.Kept.{AreThreads, HasNoThreadFrom, IsFirstThreadFrom, IsSeat, empty, has_thread, is_there}
use Rattle.plain_engine.specs.Plain.{AreSeats}
use Rattle.plain_engine.proofs.Standing.{seat_at}

is_less : (a b : ℕ) → nat_lt a b ≡ true → a < b
is_less a b e = grind (arith, nat_tests, e)

is_not_less : (a b : ℕ) → nat_lt a b ≡ false → b ≤ a
is_not_less a b e = grind (arith, nat_tests, e)

equal : (a b : ℕ) → (a == b) ≡ true → a ≡ b
equal a b e = grind (arith, nat_tests, e)

unequal : (a b : ℕ) → (a == b) ≡ false → a ≡ b → ⊥
unequal a b e is = grind (arith, nat_tests, e, is)

-- nothing is there past the last one alone
pub past_last : {A : Type 0} (xs : List A) (n : ℕ) → slice_get xs n ≡ None → length xs ≤ n
past_last [] n none = omega arith
past_last (x ∷ xs) zero none = absurd (none-some x (sym none))
past_last (x ∷ xs) (suc n) none = let rest = past_last xs n none in omega (arith, rest)

-- no thread lives past the last slot
pub none_past : (seats : List Seat) (n : ℕ) → length seats ≤ n → has_thread seats n ≡ false
none_past seats n past = ap (λ (s : Seat). is_there s.kept) (get_or_past seats n empty past)

-- something else kept of a slot
pub set_thread : (seats : List Seat) (live slot : ℕ) (seat : Seat) (later : ℕ) → AreThreads seats live → slot < 16
    → ((n : ℕ) → is_in later n ≡ (if n == slot then is_there seat.kept else is_in live n)) → AreThreads (slice_set seats slot seat) later
set_thread seats live slot seat later are below is = record {
  many = length-set seats slot seat ∙ are.many;
  each = λ n. is n ∙ by n (n == slot) refl;
}
  where
    here : slot < length seats
    here = let many = are.many in omega (arith, many, below)

    by : (n : ℕ) (b : Bool) → (n == slot) ≡ b
        → (if b then is_there seat.kept else is_in live n) ≡ has_thread (slice_set seats slot seat) n
    by n true e =
        sym (ap (has_thread (slice_set seats slot seat)) (equal n slot e)
        ∙ ap (λ (s : Seat). is_there s.kept) (get_or-set_same seats slot seat empty here))
    by n false e = are.each n ∙ sym (ap (λ (s : Seat). is_there s.kept) (get_or-set_other seats slot n seat empty (unequal n slot e)))

-- the members so far, slot by slot
pub record SoFar (seats : List Seat) (slot live : ℕ) : Type 0 where
  pub each : (n : ℕ) → n < slot → is_in live n ≡ has_thread seats n
  pub none : (n : ℕ) → slot ≤ n → is_in live n ≡ false

pub none_so_far : (seats : List Seat) (live : ℕ) → ((n : ℕ) → is_in live n ≡ false) → SoFar seats 0 live
none_so_far seats live none = record { each = λ n below. absurd (omega (arith, below)); none = λ n past. none n }

pub one_slot_more : (seats : List Seat) (slot live later : ℕ) (seat : Seat) → SoFar seats slot live
    → slice_index_or seats slot empty ≡ seat
    → ((n : ℕ) → is_in later n ≡ (if n == slot then is_there seat.kept else is_in live n)) → SoFar seats (slot + 1) later
one_slot_more seats slot live later seat so_far at is = record {
  each = λ n below. is n ∙ by n (n == slot) refl below;
  none = λ n past. is n ∙ off n (n == slot) refl past;
}
  where
    by : (n : ℕ) (b : Bool) → (n == slot) ≡ b → n < slot + 1
        → (if b then is_there seat.kept else is_in live n) ≡ has_thread seats n
    by n true e below = ap (λ (s : Seat). is_there s.kept) (sym at) ∙ ap (has_thread seats) (sym (equal n slot e))
    by n false e below = so_far.each n (less n below (unequal n slot e))
      where
        less : (i : ℕ) → i < slot + 1 → (i ≡ slot → ⊥) → i < slot
        less i lt other = grind (arith, lt, other)

    off : (n : ℕ) (b : Bool) → (n == slot) ≡ b → slot + 1 ≤ n → (if b then is_there seat.kept else is_in live n) ≡ false
    off n true e past = absurd (no (equal n slot e) past)
      where
        no : n ≡ slot → slot + 1 ≤ n → ⊥
        no same le = omega (arith, same, le)
    off n false e past = so_far.none n (omega (arith, past))

pub all_slots : (seats : List Seat) (slot live : ℕ) → length seats ≡ 16 → 16 ≤ slot → slot ≤ 16 → SoFar seats slot live → AreThreads seats live
all_slots seats slot live many low high so_far = record {
  many = many;
  each = λ n. by n (nat_lt n slot) refl;
}
  where
    by : (n : ℕ) (b : Bool) → nat_lt n slot ≡ b → is_in live n ≡ has_thread seats n
    by n true lt = so_far.each n (is_less n slot lt)
    by n false lt =
        let past = is_not_less n slot lt in
        so_far.none n past ∙ sym (none_past seats n (omega (arith, past, many, low)))

-- the first member is the first slot in which a thread lives
no_thread_from : (seats : List Seat) (live from : ℕ) → AreThreads seats live → HasNoneFrom live from → HasNoThreadFrom seats from
no_thread_from seats live from are none = λ n past. sym (are.each n) ∙ none n past

first_thread_from : (seats : List Seat) (live from slot : ℕ) → AreThreads seats live → IsFirstFrom live from slot
    → IsFirstThreadFrom seats from slot
first_thread_from seats live from slot are first = record {
  past = first.past;
  there = sym (are.each slot) ∙ first.member;
  before = λ n past below. sym (are.each n) ∙ first.before n past below;
}

pub first_thread_is : (seats : List Seat) (live from : ℕ) (first : Option ℕ) → AreThreads seats live
    → MatchOption first (HasNoneFrom live from) (IsFirstFrom live from)
    → MatchOption first (HasNoThreadFrom seats from) (IsFirstThreadFrom seats from)
first_thread_is seats live from None are none = no_thread_from seats live from are none
first_thread_is seats live from (Some slot) are first = first_thread_from seats live from slot are first

-- a slot in which no thread lives can't act
pub idle : (g : Guard) (run : Shown) (seats : List Seat) (n : ℕ) → AreSeats g run seats → has_ended g ≡ false → length seats ≡ 16
    → n < 16 → has_thread seats n ≡ false → act_of g n ≡ None
idle g run seats n are going many below none =
    act_going g n false (seat.at_check_in ∙ at_none kept.at_check_in refl) (no_thread g.world n (sym seat.there ∙ none))
  where
    kept : Seat
    kept = slice_index_or seats n empty

    seat : IsSeat run.words (bodies_of g) (length g.versions) (is_over g.world) (in_slot g.world n) kept (seat_of g n)
    seat =
        are.each going n kept (seat_of g n) (slice_get-get_or seats n empty (omega (arith, many, below))) (seat_at g n are.many below)

    at_none : (b : Bool) → kept.at_check_in ≡ b → kept.at_check_in ≡ false
    at_none false e = e
    at_none true e = absurd (true≢false (sym (seat.lives e) ∙ sym seat.there ∙ none))

-- so the slots without a thread are passed over
pub none_left : (g : Guard) (run : Shown) (seats : List Seat) (from to : ℕ) → AreSeats g run seats → has_ended g ≡ false
    → length seats ≡ 16 → to ≤ 16 → HasNoThreadFrom seats from → first_act g (range_with_len from (to - from)) ≡ None
none_left g run seats from to are going many high none =
    none_within g from to (λ n low below. idle g run seats n are going many (omega (arith, below, high)) (none n low))

pub none_up_to : (g : Guard) (run : Shown) (seats : List Seat) (from slot to : ℕ) → AreSeats g run seats → has_ended g ≡ false
    → length seats ≡ 16 → to ≤ 16 → IsFirstThreadFrom seats from slot → to ≤ slot → first_act g (range_with_len from (to - from)) ≡ None
none_up_to g run seats from slot to are going many high first past =
    none_within g from to (λ n low below.
    idle g run seats n are going many (omega (arith, below, high)) (first.before n low (omega (arith, below, past))))

pub passed_over : (g : Guard) (run : Shown) (seats : List Seat) (from slot to : ℕ) → AreSeats g run seats → has_ended g ≡ false
    → length seats ≡ 16 → to ≤ 16 → IsFirstThreadFrom seats from slot → slot < to
    → first_act g (range_with_len from (to - from)) ≡ first_act g (range_with_len slot (to - slot))
passed_over g run seats from slot to are going many high first below =
    none_before g from slot to first.past (omega (arith, below)) (λ n low lt.
    idle g run seats n are going many (omega (arith, lt, below, high)) (first.before n low lt))

-- what comes first in turn, by what comes first of the slots from the first in turn, and of those before it
pub next_in_turn : (g : Guard) (last : Option ℕ) (first : ℕ) (a b : Option Event) → length g.seats ≡ length g.world.slots
    → length g.seats ≡ 16 → first ≡ first_after 16 last → first_act g (range_with_len first (16 - first)) ≡ a
    → first_act g (range_with_len 0 (first - 0)) ≡ b → option_or a b ≡ first_act g (slots_after (length g.seats) last)
next_in_turn g last first a b same many is at before =
    sym (in_turn g last same
    ∙ ap (λ n. option_or (first_act g (range_with_len (first_after n last) (n - first_after n last)))
    (first_act g (range_with_len 0 (first_after n last - 0)))) many
    ∙ ap (λ f. option_or (first_act g (range_with_len f (16 - f))) (first_act g (range_with_len 0 (f - 0)))) (sym is)
    ∙ ap (λ o. option_or o (first_act g (range_with_len 0 (first - 0)))) at
    ∙ ap (option_or a) before)

pub first_within : (last : Option ℕ) → first_after 16 last ≤ 16
first_within None = omega arith
first_within (Some slot) = by (nat_lt slot 16) refl
  where
    by : (b : Bool) → nat_lt slot 16 ≡ b → (if b then slot + 1 else 0) ≤ 16
    by true lt = let below = is_less slot 16 lt in omega (arith, below)
    by false lt = omega arith
