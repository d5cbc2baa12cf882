-- No two threads have one word, and none has 0.
use Rattle.std.proofs.Common.{◌≡◌, ℕ, zero, suc, ◌+◌, ◌*◌, ◌^◌, ◌<◌, refl, sym, ap, ◌∙◌, arith}
use Rattle.std.proofs.Math.Nat.{pow-succ'}
use Rattle.c_semantics.specs.Values.{ThreadRef}
use Rattle.code_runs.specs.CodeData.{thread_word}

abbrev word : ℕ → ℕ → ℕ
word slot serial = 2 ^ slot * (2 * serial + 1)

-- the word of the next slot is twice as great
twice : (slot serial : ℕ) → word (suc slot) serial ≡ 2 * word slot serial
twice slot serial = rw (pow-succ' 2 slot) (omega arith)

odd_no_even : (k m : ℕ) → 2 * k + 1 ≡ 2 * m → ⊥
odd_no_even k m e = absurd (omega arith)

first : (k : ℕ) → word 0 k ≡ 2 * k + 1
first k = omega arith

halves : (m n : ℕ) → 2 * m ≡ 2 * n → m ≡ n
halves m n e = omega arith

pub words_apart : (s t k j : ℕ) → word s k ≡ word t j → (s ≡ t) × (k ≡ j)
words_apart zero zero k j e = (refl, omega arith)
words_apart zero (suc t) k j e = absurd (odd_no_even k (word t j) (sym (first k) ∙ e ∙ twice t j))
words_apart (suc s) zero k j e = absurd (odd_no_even j (word s k) (sym (first j) ∙ sym e ∙ twice s k))
words_apart (suc s) (suc t) k j e =
    let same = words_apart s t k j (halves (word s k) (word t j) (sym (twice s k) ∙ e ∙ twice t j)) in (ap suc same.0, same.1)

pub word_positive : (r : ThreadRef) → 0 < thread_word r
word_positive r = by r.slot r.serial
  where
    by : (s k : ℕ) → 0 < word s k
    by zero k = omega arith
    by (suc s) k = let lower : 0 < word s k = by s k in omega (arith, twice s k)
