-- The bitwise operators on whole words: the bits above a kind's width don't matter.
use Rattle.std.proofs.Common.{◌≡◌, ℕ, ◌%◌, ◌^◌, sym, ap, ◌∙◌, arith, ℤ, pos, unsigned_abs, bit_and, bit_or, bit_xor, Ok, Result, ◌-ℤ◌}
use Rattle.std.specs.Prelude.{if◌then◌else◌, int_le}
use Rattle.std.proofs.lemmas.Int.{ints}
use Rattle.std.proofs.lemmas.Nat.{and_mod, mod_below, or_mod, pow_pos, xor_mod}
use Rattle.std.proofs.Math.Nat.{mod-eq_of_lt}
use Rattle.c_ints.specs.declared.kind.Kind.{Kind}
use Rattle.c_ints.specs.declared.kind.Kind.TheVariants.{I8, U8, I16, U16, I32, U32, I64, U64}
use Rattle.c_ints.specs.declared.operator.ArithTrap.{ArithTrap}
use Rattle.c_ints.specs.declared.operator.BinOp.TheVariants.{And, Or, Xor}
use Rattle.c_ints.specs.Kind.{greatest, width}
use Rattle.c_ints.specs.Number.{number, reduced, residue}
use Rattle.c_ints.specs.Arithmetic.{by_bits}
use Rattle.c_ints.proofs.Reduction.{reduced_range, value_of-number}
use Rattle.bytecode.specs.Words.{integer_word, number_at}
use Rattle.word_arithmetic.specs.WordOperators.{binary_word, word_result}

-- the bits of a word's number at a kind are the word's low bits
low_bits : (k : Kind) (w : ℕ) → unsigned_abs (residue k (number_at k w)) ≡ w % 2 ^ width k
low_bits I8 w = grind (arith, ints)
low_bits U8 w = grind (arith, ints)
low_bits I16 w = grind (arith, ints)
low_bits U16 w = grind (arith, ints)
low_bits I32 w = grind (arith, ints)
low_bits U32 w = grind (arith, ints)
low_bits I64 w = grind (arith, ints)
low_bits U64 w = grind (arith, ints)

-- so words with the same low bits have the same number
same_number : (k : Kind) (m n : ℕ) → m % 2 ^ width k ≡ n % 2 ^ width k → number_at k m ≡ number_at k n
same_number k m n e = ap (λ (r : ℕ). if int_le (pos r) (greatest k) then pos r else pos r -ℤ pos (2 ^ width k)) e

whole_words : (f : ℕ → ℕ → ℕ) → ((a b n : ℕ) → f a b % 2 ^ n ≡ f (a % 2 ^ n) (b % 2 ^ n)) → (k : Kind) (a b : ℕ)
    → ◌≡◌ {A = Result ℕ ArithTrap} (word_result (Ok (number k (by_bits f k (number_at k a) (number_at k b))))) (Ok (integer_word (number_at k (f a b))))
whole_words f law k a b = ap (λ (z : ℤ). Ok (integer_word z)) (value_of-number k (reduced k (pos m)) (reduced_range k (pos m)) ∙ same_number k m (f a b) same)
  where
    m : ℕ
    m = f (unsigned_abs (residue k (number_at k a))) (unsigned_abs (residue k (number_at k b)))

    low : m ≡ f a b % 2 ^ width k
    low = ap (λ (n : ℕ). f n (unsigned_abs (residue k (number_at k b)))) (low_bits k a) ∙ ap (f (a % 2 ^ width k)) (low_bits k b) ∙ sym (law a b (width k))

    same : m % 2 ^ width k ≡ f a b % 2 ^ width k
    same = ap (λ (n : ℕ). n % 2 ^ width k) low ∙ mod-eq_of_lt (mod_below (f a b) (2 ^ width k) (pow_pos (width k)))

pub and_words : (k : Kind) (a b : ℕ) → binary_word And k a b ≡ Ok (integer_word (number_at k (bit_and a b)))
and_words = whole_words bit_and and_mod

pub or_words : (k : Kind) (a b : ℕ) → binary_word Or k a b ≡ Ok (integer_word (number_at k (bit_or a b)))
or_words = whole_words bit_or or_mod

pub xor_words : (k : Kind) (a b : ℕ) → binary_word Xor k a b ≡ Ok (integer_word (number_at k (bit_xor a b)))
xor_words = whole_words bit_xor xor_mod
