-- The word of an index is that of an element exactly where the index is in bounds.
use Rattle.std.proofs.Common.{◌≡◌, ℕ, ◌%◌, ◌≤◌, ◌^◌, ℤ, pos, negsuc, ◌≤ℤ◌, true, false, ◌&&◌, List, length, sym, ap, ◌∙◌, arith, unsigned_abs, ltb}
use Rattle.std.proofs.lemmas.Bool.{le-leb, le-ltb}
use Rattle.std.proofs.lemmas.Int.{ints}
use Rattle.c_ints.specs.declared.kind.Kind.{Kind}
use Rattle.c_ints.specs.Kind.{InRange}
use Rattle.c_ints.proofs.Ranges.{Within, within}
use Rattle.c_semantics.specs.Values.{Value}
use Rattle.source_model.specs.Moves.{in_bounds}
use Rattle.bytecode.specs.Words.{integer_word}

-- an index that isn't negative is its word
pub index_word : (n : ℕ) → Within (pos n) → integer_word (pos n) ≡ n
index_word n h =
    let top : pos n ≤ℤ pos 18446744073709551615 = h.high in
    let same : n % 18446744073709551616 ≡ n = omega (arith, ints) in
    same

-- the word of a negative one is greater than each length
past_all : (n : ℕ) → Within (negsuc n) → 2 ^ 63 ≤ integer_word (negsuc n)
past_all n h = let bottom : negsuc 9223372036854775807 ≤ℤ negsuc n = h.low in omega (arith, ints)

bounds_of : (z : ℤ) (cells : List Value) → Within z → length cells ≤ 2 ^ 63 → in_bounds z cells ≡ ltb (integer_word z) (length cells)
bounds_of (pos n) cells h short =
    ap (λ t. t && ltb n (length cells)) (le-leb 0 n (omega arith)) ∙ ap (λ m. ltb m (length cells)) (sym (index_word n h))
bounds_of (negsuc n) cells h short = let past = past_all n h in sym (le-ltb (integer_word (negsuc n)) (length cells) (omega (arith, past, short)))

pub index_bounds : (k : Kind) (z : ℤ) (cells : List Value) → InRange k z → length cells ≤ 2 ^ 63
    → in_bounds z cells ≡ ltb (integer_word z) (length cells)
index_bounds k z cells h short = bounds_of z cells (within k z h) short

no : false ≡ true → ⊥
no e = cc

-- the word of an index in bounds is its number
pub index_place : (k : Kind) (z : ℤ) (cells : List Value) → InRange k z → in_bounds z cells ≡ true → integer_word z ≡ unsigned_abs z
index_place k z cells h is = by z (within k z h) is
  where
    by : (z : ℤ) → Within z → in_bounds z cells ≡ true → integer_word z ≡ unsigned_abs z
    by (pos n) h is = index_word n h
    by (negsuc n) h is = absurd (no is)
