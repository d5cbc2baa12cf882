-- The bits of a set of slots.
use Rattle.std.proofs.Common.{◌≡◌, ℕ, zero, suc, ◌-◌, ◌*◌, ◌%◌, ◌^◌, ◌<◌, ◌≤◌, ◌==◌, nat_lt, Bool, true, false, refl, sym, ◌∙◌, ap, arith, bit_and, bit_or}
use Rattle.std.specs.Prelude.{min, if◌then◌else◌}
use Rattle.std.specs.Int.{bit_at, trailing_zeros, w32}
use Rattle.std.proofs.lemmas.Bool.Decides.{nat_tests}
use Rattle.std.proofs.lemmas.Nat.Bits.{bit_at_and, bit_at-lt, bit_at-zero, bit_at_above, bit_at_mask_inside, bit_at_mask_below, bit_at-trailing_zeros, bit_at_set_same, bit_at_set_other, bit_at_clear_same, bit_at_clear_other, ones_shl}
use Rattle.std.proofs.lemmas.Nat.{and_le_l}
use Rattle.slot_sets.specs.Members.{HasNoneFrom, IsFirstFrom, is_in}

equal : (a b : ℕ) → (a == b) ≡ true → a ≡ b
equal a b e = grind (arith, nat_tests, e)

unequal : (a b : ℕ) → (a == b) ≡ false → a ≡ b → ⊥
unequal a b e is = grind (arith, nat_tests, e, is)

is_less : (a b : ℕ) → nat_lt a b ≡ true → a < b
is_less a b e = grind (arith, nat_tests, e)

is_not_less : (a b : ℕ) → nat_lt a b ≡ false → b ≤ a
is_not_less a b e = grind (arith, nat_tests, e)

below_too : (a b : ℕ) → b < 2 ^ 32 → a ≤ b → a < 2 ^ 32
below_too a b below le = omega (arith, below, le)

-- none is a member past the last slot
past : (set slot : ℕ) → set < 2 ^ 32 → 32 ≤ slot → is_in set slot ≡ false
past set slot below above = ap (λ b. b == 1) (bit_at_above set 32 slot below above)

pub none_past : (set from : ℕ) → set < 2 ^ 32 → 32 ≤ from → HasNoneFrom set from
none_past set from below above = λ slot more. past set slot below (omega (arith, above, more))

-- a slot put in, and one taken out
pub with_slot : (set slot : ℕ) → slot < 32 → (other : ℕ)
    → is_in (bit_or set (1 * 2 ^ slot % 4294967296)) other ≡ (if other == slot then true else is_in set other)
with_slot set slot below other = by (other == slot) refl
  where
    by : (b : Bool) → (other == slot) ≡ b
        → is_in (bit_or set (1 * 2 ^ slot % 4294967296)) other ≡ (if b then true else is_in set other)
    by true e =
        ap (is_in (bit_or set (1 * 2 ^ slot % 4294967296))) (equal other slot e)
        ∙ ap (λ b. b == 1) (bit_at_set_same w32 set slot below)
    by false e = ap (λ b. b == 1) (bit_at_set_other w32 set slot below other (unequal other slot e))

pub without_slot : (set slot : ℕ) → set < 2 ^ 32 → slot < 32 → (other : ℕ)
    → is_in (bit_and set (4294967295 - 1 * 2 ^ slot % 4294967296)) other ≡ (if other == slot then false else is_in set other)
without_slot set slot fits below other = by (other == slot) refl
  where
    less : ℕ
    less = bit_and set (4294967295 - 1 * 2 ^ slot % 4294967296)

    by : (b : Bool) → (other == slot) ≡ b → is_in less other ≡ (if b then false else is_in set other)
    by true e = ap (is_in less) (equal other slot e) ∙ ap (λ b. b == 1) (bit_at_clear_same w32 set slot below)
    by false e = inside (nat_lt other 32) refl
      where
        inside : (b : Bool) → nat_lt other 32 ≡ b → is_in less other ≡ is_in set other
        inside true lt = ap (λ b. b == 1) (bit_at_clear_other w32 set slot below other (is_less other 32 lt) (unequal other slot e))
        inside false lt =
            past less other (below_too less set fits (and_le_l set (4294967295 - 1 * 2 ^ slot % 4294967296))) (is_not_less other 32 lt)
            ∙ sym (past set other fits (is_not_less other 32 lt))

-- the members from a slot on
abbrev pub mask_from : ℕ → ℕ
mask_from from = 4294967295 * 2 ^ from % 4294967296

abbrev pub rest_from : ℕ → ℕ → ℕ
rest_from set from = bit_and set (mask_from from)

rest_bit : (set from n : ℕ) → from ≤ 32 → bit_at (rest_from set from) n ≡ min (bit_at set n) (bit_at (2 ^ 32 - 2 ^ from) n)
rest_bit set from n within =
    bit_at_and set (mask_from from) n ∙ ap (λ m. min (bit_at set n) (bit_at m n)) (ones_shl 32 from within)

rest_is : (set from n : ℕ) → from ≤ n → n < 32 → bit_at (rest_from set from) n ≡ bit_at set n
rest_is set from n past within =
    rest_bit set from n (omega (arith, past, within)) ∙ ap (min (bit_at set n)) (bit_at_mask_inside from 32 n past within)
    ∙ least (bit_at set n) (bit_at-lt set n)
  where
    least : (a : ℕ) → a < 2 → min a 1 ≡ a
    least zero lt = refl
    least (suc zero) lt = refl
    least (suc (suc a)) lt = absurd (omega (arith, lt))

zero_is : (set n : ℕ) → bit_at set n ≡ 0 → is_in set n ≡ false
zero_is set n e = ap (λ b. b == 1) e

pub none_left : (set from : ℕ) → set < 2 ^ 32 → rest_from set from ≡ 0 → HasNoneFrom set from
none_left set from fits none = λ slot more. by slot more (nat_lt slot 32) refl
  where
    by : (slot : ℕ) → from ≤ slot → (b : Bool) → nat_lt slot 32 ≡ b → is_in set slot ≡ false
    by slot more false lt = past set slot fits (is_not_less slot 32 lt)
    by slot more true lt =
        zero_is set slot (sym (rest_is set from slot more (is_less slot 32 lt)) ∙ ap (λ m. bit_at m slot) none ∙ bit_at-zero slot)

not_before : (set from n : ℕ) → from ≤ 32 → bit_at (rest_from set from) n ≡ 1 → n < from → ⊥
not_before set from n within one before =
    no (bit_at set n) (sym (rest_bit set from n within ∙ ap (min (bit_at set n)) (bit_at_mask_below from 32 n before)) ∙ one)
  where
    no : (a : ℕ) → min a 0 ≡ 1 → ⊥
    no zero e = absurd (omega (arith, e))
    no (suc a) e = absurd (omega (arith, e))

pub first_left : (set from : ℕ) → set < 2 ^ 32 → from < 32 → 0 < rest_from set from → IsFirstFrom set from (trailing_zeros w32 (rest_from set from))
first_left set from fits within some = record {
  past = past_it;
  within = low.0;
  member = ap (λ b. b == 1) (sym (rest_is set from first past_it low.0) ∙ low.1);
  before = λ n more less.
      zero_is set n (sym (rest_is set from n more (omega (arith, less, low.0))) ∙ low.2 n less);
}
  where
    first : ℕ
    first = trailing_zeros w32 (rest_from set from)

    low : (first < 32) × (bit_at (rest_from set from) first ≡ 1) × ((i : ℕ) → i < first → bit_at (rest_from set from) i ≡ 0)
    low = bit_at-trailing_zeros w32 (rest_from set from) some (below_too (rest_from set from) set fits (and_le_l set (mask_from from)))

    past_it : from ≤ first
    past_it = by (nat_lt first from) refl
      where
        by : (b : Bool) → nat_lt first from ≡ b → from ≤ first
        by false lt = is_not_less first from lt
        by true lt = absurd (not_before set from first (omega (arith, within)) low.1 (is_less first from lt))
