-- The words of a row and the bits of the number that they are.
use Rattle.std.proofs.Common.{◌≡◌, ◌≢◌, ℕ, zero, suc, ◌+◌, ◌-◌, ◌*◌, ◌/◌, ◌%◌, ◌^◌, ◌<◌, ◌≤◌, ◌⊎◌, inl, inr, List, [], ◌∷◌, length, get_or, not, eqb, replicate, bit_or, bit_xor, refl, sym, ap, ◌∙◌, arith}
use Rattle.std.specs.Int.{bit_at}
use Rattle.std.proofs.lemmas.Nat.Bits.{same_from_bits, bit_at_xor, bit_at-lt, bit_at_cat_low, bit_at_cat_high, bit_at-zero}
use Rattle.std.proofs.lemmas.Bool.{cases_eq, false_from_ne_true}
use Rattle.std.proofs.lemmas.Bool.Decides.{Decides-eqb}
use Rattle.std.specs.Bool.{MatchBool}
use Rattle.std.specs.Int.Bits.{or_add_and}
use Rattle.std.proofs.lemmas.Nat.{and_le_l, and_le_r}
use lib.Lanes.{fold_l, chunk, zip2}
use Rattle.std.proofs.lemmas.Simd.{length-chunk, get_or-chunk, get_or-zip2}
use Rattle.name_sets.specs.Row.{joined, IsRow}

-- a bit of the row is a bit of one of its words
pub bit_joined : (words : List ℕ) → ((k : ℕ) → get_or words k 0 < 2 ^ 64) → (i k : ℕ) → k < 64 → bit_at (joined words) (i * 64 + k) ≡ bit_at (get_or words i 0) k
bit_joined [] fit i k small = bit_at-zero (i * 64 + k) ∙ sym (bit_at-zero k)
bit_joined (word ∷ words) fit zero k small =
    let place : 0 * 64 + k ≡ k = omega arith in
    ap (bit_at (joined words * 2 ^ 64 + word)) place ∙ bit_at_cat_low (joined words) 64 word k small
bit_joined (word ∷ words) fit (suc i) k small =
    let high = bit_at_cat_high (joined words) 64 word (suc i * 64 + k) (fit 0) (omega arith) in
    let place : suc i * 64 + k - 64 ≡ i * 64 + k = omega arith in
    high ∙ ap (bit_at (joined words)) place ∙ bit_joined words (λ j. fit (suc j)) i k small

pub bit_of_word : (words : List ℕ) → ((k : ℕ) → get_or words k 0 < 2 ^ 64) → (id : ℕ) → bit_at (joined words) id ≡ bit_at (get_or words (id / 64) 0) (id % 64)
bit_of_word words fit id =
    let place : id ≡ id / 64 * 64 + id % 64 = omega arith in
    ap (bit_at (joined words)) place ∙ bit_joined words fit (id / 64) (id % 64) (omega arith)

zero_word : (n k : ℕ) → get_or (replicate {A = ℕ} n 0) k 0 ≡ 0
zero_word zero k = refl
zero_word (suc n) zero = refl
zero_word (suc n) (suc k) = zero_word n k

-- 32 words of 0
pub IsRow-empty : IsRow (replicate 32 0)
IsRow-empty = record { many = refl; fit = λ k. omega (arith, zero_word 32 k) }

-- ---- or of words

or_nothing : (a : ℕ) → bit_or a 0 ≡ a
or_nothing a = omega (arith, or_add_and a 0, and_le_r a 0)

or_zero : (a b : ℕ) → bit_or a b ≡ 0 → (a ≡ 0) × (b ≡ 0)
or_zero a b none = (omega (arith, or_add_and a b, and_le_r a b), omega (arith, or_add_and a b, and_le_l a b))

-- a chain of or's is 0 where each part is
pub fold_or_zero : (a : ℕ) (words : List ℕ) → fold_l bit_or a words ≡ 0 → (a ≡ 0) × ((k : ℕ) → get_or words k 0 ≡ 0)
fold_or_zero a [] none = (none, λ k. refl)
fold_or_zero a (word ∷ words) none =
    let rest = fold_or_zero (bit_or a word) words none in
    ((or_zero a word rest.0).0, by (or_zero a word rest.0).1 rest.1)
  where
    by : word ≡ 0 → ((k : ℕ) → get_or words k 0 ≡ 0) → (k : ℕ) → get_or (word ∷ words) k 0 ≡ 0
    by first rest zero = first
    by first rest (suc k) = rest k

-- and where it isn't 0, some part isn't
pub fold_or_some : (a : ℕ) (words : List ℕ) → fold_l bit_or a words ≢ 0 → (a ≢ 0) ⊎ ((k : ℕ) × (get_or words k 0 ≢ 0))
fold_or_some a [] some = inl some
fold_or_some a (word ∷ words) some = elim (fold_or_some (bit_or a word) words some) [
  | inl here ↦ by here (cases_eq word 0)
  | inr later ↦ inr (suc later.0, later.1)
]
  where
    by : bit_or a word ≢ 0 → (word ≡ 0) ⊎ (word ≡ 0 → ⊥) → (a ≢ 0) ⊎ ((k : ℕ) × (get_or (word ∷ words) k 0 ≢ 0))
    by here (inl none) = inl (λ e. here (ap (bit_or a) none ∙ or_nothing a ∙ e))
    by here (inr word_some) = inr (0, word_some)

-- words that differ in no bit are equal
pub xor_zero : (a b : ℕ) → bit_xor a b ≡ 0 → a ≡ b
xor_zero a b none = same_from_bits a b (λ i. grind (arith, bit_at_xor a b i, bit_at-lt a i, bit_at-lt b i, ap (λ n. bit_at n i) none ∙ bit_at-zero i))

pub xor_same : (a : ℕ) → bit_xor a a ≡ 0
xor_same a = same_from_bits (bit_xor a a) 0 (λ i. grind (arith, bit_at_xor a a i, bit_at-lt a i, bit_at-zero i))

-- ---- eight words at a time

-- an operation on the eight words of two rows from a place on
pub get_or-zip_chunks : (f : ℕ → ℕ → ℕ) (words other : List ℕ) (at k : ℕ) → k < 8 → at + 8 ≤ length words → at + 8 ≤ length other
    → get_or (zip2 f (chunk at 8 words) (chunk at 8 other)) k 0 ≡ f (get_or words (at + k) 0) (get_or other (at + k) 0)
get_or-zip_chunks f words other at k small first second =
    let long = length-chunk at 8 words first in
    let long' = length-chunk at 8 other second in
    get_or-zip2 f (chunk at 8 words) (chunk at 8 other) k 0 0 0 (omega arith) (omega arith)
    ∙ ap (λ x. f x (get_or (chunk at 8 other) k 0)) (get_or-chunk at 8 words k 0 small)
    ∙ ap (f (get_or words (at + k) 0)) (get_or-chunk at 8 other k 0 small)

-- whether the or of eight words isn't 0
pub has_bits_cases : (words : List ℕ) → MatchBool (not (eqb (fold_l bit_or 0 words) 0)) ((k : ℕ) × (get_or words k 0 ≢ 0)) ((k : ℕ) → get_or words k 0 ≡ 0)
has_bits_cases words = by (cases_eq (fold_l bit_or 0 words) 0)
  where
    by : (fold_l bit_or 0 words ≡ 0) ⊎ (fold_l bit_or 0 words ≡ 0 → ⊥) → MatchBool (not (eqb (fold_l bit_or 0 words) 0)) ((k : ℕ) × (get_or words k 0 ≢ 0)) ((k : ℕ) → get_or words k 0 ≡ 0)
    by (inl none) = rw none (fold_or_zero 0 words none).1
    by (inr some) = rw (false_from_ne_true (eqb (fold_l bit_or 0 words) 0) (λ e. some ((Decides-eqb (fold_l bit_or 0 words) 0).0 e)))
        (elim (fold_or_some 0 words some) [ inl h ↦ absurd (h refl) | inr h ↦ h ])
