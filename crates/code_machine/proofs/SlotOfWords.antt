-- The slot of a thread's word is the place of the word's lowest 1, so the thread of a word lives there or nowhere.
use Rattle.std.proofs.Common.{◌≡◌, ℕ, zero, suc, ◌+◌, ◌*◌, ◌/◌, ◌%◌, ◌<◌, ◌≤◌, ◌==◌, Bool, true, false, List, [], ◌∷◌, cond, length, slice_get, Option, Some, None, refl, sym, ap, subst, ◌∙◌, arith}
use Rattle.std.specs.Prelude.{◌^◌, nat_lt}
use Rattle.std.specs.Int.{bit_at, trailing_zeros, w64}
use Rattle.std.proofs.Math.Nat.{pow-succ'}
use Rattle.std.proofs.lemmas.Bool.Decides.{nat_tests}
use Rattle.std.proofs.lemmas.Nat.Bits.{bit_at_lowest, bit_at-suc, bit_at-trailing_zeros}
use Rattle.source_model.specs.Waits.{Waiting, ForThread}
use Rattle.code_runs.specs.CodeData.{thread_word}
use Rattle.code_runs.specs.CodeThreads.{CodeSlot, Free, Live, Over}
use Rattle.code_runs.specs.CodeWaits.{joined_from, lives_as}

-- ---- the lowest 1

abbrev word : ℕ → ℕ → ℕ
word slot serial = 2 ^ slot * (2 * serial + 1)

twice : (s k : ℕ) → word (suc s) k ≡ 2 * word s k
twice s k = rw (pow-succ' 2 s) (omega arith)

half : (s k : ℕ) → word (suc s) k / 2 ≡ word s k
half s k = omega (arith, twice s k)

odd : (k : ℕ) → word 0 k % 2 ≡ 1
odd k = omega arith

even : (s k : ℕ) → word (suc s) k % 2 ≡ 0
even s k = omega (arith, twice s k)

set_there : (s k : ℕ) → bit_at (word s k) s ≡ 1
set_there zero k = bit_at_lowest (word 0 k) ∙ odd k
set_there (suc s) k = bit_at-suc (word (suc s) k) s ∙ ap (λ n. bit_at n s) (half s k) ∙ set_there s k

none_below : (s k i : ℕ) → i < s → bit_at (word s k) i ≡ 0
none_below zero k i low = absurd (omega (arith, low))
none_below (suc s) k zero low = bit_at_lowest (word (suc s) k) ∙ even s k
none_below (suc s) k (suc i) low =
    let lower : i < s = omega (arith, low) in
    bit_at-suc (word (suc s) k) i ∙ ap (λ n. bit_at n i) (half s k) ∙ none_below s k i lower

positive : (s k : ℕ) → 0 < word s k
positive zero k = omega arith
positive (suc s) k = let lower : 0 < word s k = positive s k in omega (arith, twice s k)

zero_not_one : (a b : ℕ) → a ≡ 0 → b ≡ 1 → a ≡ b → ⊥
zero_not_one a b none one same = omega (arith, none, one, same)

is_less : (a b : ℕ) → nat_lt a b ≡ true → a < b
is_less a b e = grind (arith, nat_tests, e)

is_not_less : (a b : ℕ) → nat_lt a b ≡ false → b ≤ a
is_not_less a b e = grind (arith, nat_tests, e)

same_place : (s t n : ℕ) → bit_at n s ≡ 1 → ((i : ℕ) → i < s → bit_at n i ≡ 0) → bit_at n t ≡ 1 → ((i : ℕ) → i < t → bit_at n i ≡ 0) → t ≡ s
same_place s t n set low one none = by (nat_lt t s) (nat_lt s t) refl refl
  where
    by : (a b : Bool) → nat_lt t s ≡ a → nat_lt s t ≡ b → t ≡ s
    by true b before e = absurd (zero_not_one (bit_at n t) (bit_at n t) (low t (is_less t s before)) one refl)
    by false true e before = absurd (zero_not_one (bit_at n s) (bit_at n s) (none s (is_less s t before)) set refl)
    by false false above below = let a = is_not_less t s above in let b = is_not_less s t below in omega (arith, a, b)

lowest_is : (s k : ℕ) → word s k < 2 ^ 64 → trailing_zeros w64 (word s k) ≡ s
lowest_is s k fits =
    let at = bit_at-trailing_zeros w64 (word s k) (positive s k) fits in
    same_place s (trailing_zeros w64 (word s k)) (word s k) (set_there s k) (none_below s k) at.1 at.2

-- ---- the slot of a word

equal : (a b : ℕ) → (a == b) ≡ true → a ≡ b
equal a b e = grind (arith, nat_tests, e)

module _ (w : ℕ) (fits : w < 2 ^ 64) where
  abbrev pub place_of : ℕ
  place_of = trailing_zeros w64 w

  -- in no other slot
  pub lives_elsewhere : (n : ℕ) (x : CodeSlot) → (n ≡ place_of → ⊥) → lives_as w n x ≡ false
  lives_elsewhere n Free other = refl
  lives_elsewhere n (Over serial v) other = refl
  lives_elsewhere n (Live th) other = by (thread_word (record { slot = n; serial = th.serial }) == w) refl
    where
      by : (b : Bool) → (thread_word (record { slot = n; serial = th.serial }) == w) ≡ b → b ≡ false
      by true e =
          let is : word n th.serial ≡ w = equal (word n th.serial) w e in
          absurd (other (sym (ap (trailing_zeros w64) (sym is) ∙ lowest_is n th.serial (subst (λ m. m < 2 ^ 64) (sym is) fits))))
      by false e = refl

  none_joined : (i : ℕ) (xs : List CodeSlot) → ((n : ℕ) → i ≤ n → n < i + length xs → n ≡ place_of → ⊥) → joined_from w i xs ≡ None
  none_joined i [] off = refl
  none_joined i (x ∷ xs) off =
      let first : i < i + length (x ∷ xs) = omega arith in
      ap (λ (b : Bool). cond b (Some (ForThread i)) (joined_from w (suc i) xs)) (lives_elsewhere i x (off i (omega arith) first))
      ∙ none_joined (suc i) xs (λ n past within. off n (omega (arith, past)) (omega (arith, within)))

  one_joined : (i k : ℕ) (xs : List CodeSlot) (x : CodeSlot) → slice_get xs k ≡ Some x → i + k ≡ place_of
      → joined_from w i xs ≡ cond (lives_as w place_of x) (Some (ForThread place_of)) None
  one_joined i k [] x there at = absurd (no there)
    where
      no : {A : Type 0} {a : A} → None ≡ Some a → ⊥
      no e = cc
  one_joined i zero (y ∷ xs) x there at =
      let here : i ≡ place_of = omega (arith, at) in
      let same : y ≡ x = cc in
      ap (λ (o : Option Waiting). cond (lives_as w i y) (Some (ForThread i)) o)
      (none_joined (suc i) xs (λ n past within is. omega (arith, past, here, is)))
      ∙ ap (λ (n : ℕ). cond (lives_as w n y) (Some (ForThread n)) None) here
      ∙ ap (λ (z : CodeSlot). cond (lives_as w place_of z) (Some (ForThread place_of)) None) same
  one_joined i (suc k) (y ∷ xs) x there at =
      let apart : i ≡ place_of → ⊥ = λ is. omega (arith, at, is) in
      let next : suc i + k ≡ place_of = omega (arith, at) in
      ap (λ (b : Bool). cond b (Some (ForThread i)) (joined_from w (suc i) xs)) (lives_elsewhere i y apart)
      ∙ one_joined (suc i) k xs x there next

  -- of some slots, by what is in that of the word, if it is there
  pub joined_none : (xs : List CodeSlot) → length xs ≤ place_of → joined_from w 0 xs ≡ None
  joined_none xs past = none_joined 0 xs (λ n low within is. omega (arith, past, within, is))

  pub joined_there : (xs : List CodeSlot) (x : CodeSlot) (b : Bool) → slice_get xs place_of ≡ Some x → lives_as w place_of x ≡ b
      → joined_from w 0 xs ≡ cond b (Some (ForThread place_of)) None
  joined_there xs x b there is =
      let at : 0 + place_of ≡ place_of = omega arith in
      one_joined 0 place_of xs x there at ∙ ap (λ (c : Bool). cond c (Some (ForThread place_of)) None) is
