-- What words say of values.
use Rattle.std.proofs.Common.{◌≡◌, ℕ, zero, suc, ◌-◌, ◌%◌, ◌<◌, ◌^◌, ℤ, pos, negsuc, ◌-ℤ◌, ◌≤ℤ◌, Bool, true, false, IsTrue, List, [], ◌∷◌, length, slice_get, Option, Some, None, refl, sym, ap, subst, ◌∙◌, arith, unsigned_abs}
use Rattle.std.specs.Prelude.{◌==◌, not, ◌&&◌, int_le, if◌then◌else◌}
use Rattle.std.specs.Int.{int_rem_euclid}
use Rattle.std.proofs.lemmas.Int.{ints}
use Rattle.std.proofs.lemmas.Nat.{pow_pos}
use Rattle.std.proofs.Math.Nat.{mod-eq_of_lt}
use Rattle.c_ints.specs.declared.kind.Kind.{Kind}
use Rattle.c_ints.specs.declared.kind.Kind.TheVariants.{I8, U8, I16, U16, I32, U32, I64, U64}
use Rattle.c_ints.specs.declared.int.Int.{Int}
use Rattle.c_ints.specs.Kind.{InRange, greatest, holds, least, width}
use Rattle.c_ints.specs.Number.{kind_of, reduced, residue, value_of}
use Rattle.c_ints.specs.Arithmetic.{is_zero}
use Rattle.c_ints.proofs.Ranges.{Within, within}
use Rattle.c_ints.proofs.Reduction.{reduced_same, residue_is}
use Rattle.c_tree.specs.BareExpr.{Bytes, BareType, Integer, Handle, Thread}
use Rattle.c_semantics.specs.Values.{Value, Number, Reference, Started, zero_of, is_true, same_object}
use Rattle.typed_trees.specs.ValueTypes.{HasType}
use Rattle.typed_trees.specs.ExpressionTypes.{IsScalar}
use Rattle.bytecode.specs.Words.{Naming, Distinguishes, integer_word, number_at, word_of}
use Rattle.tree_code.specs.Ranges.{Ranged, IsPlain}
use Rattle.tree_code.specs.Code.{constant_word, keeps_word}
use Rattle.tree_code.specs.CodedPieces.{plain_word}

-- ---- integers

-- a word has the low bits of the value
word_residue : (k : Kind) (z : ℤ) → residue k (pos (integer_word z)) ≡ residue k z
word_residue I8 (pos n) = ap pos (omega arith)
word_residue I8 (negsuc n) = ap pos (omega arith)
word_residue U8 (pos n) = ap pos (omega arith)
word_residue U8 (negsuc n) = ap pos (omega arith)
word_residue I16 (pos n) = ap pos (omega arith)
word_residue I16 (negsuc n) = ap pos (omega arith)
word_residue U16 (pos n) = ap pos (omega arith)
word_residue U16 (negsuc n) = ap pos (omega arith)
word_residue I32 (pos n) = ap pos (omega arith)
word_residue I32 (negsuc n) = ap pos (omega arith)
word_residue U32 (pos n) = ap pos (omega arith)
word_residue U32 (negsuc n) = ap pos (omega arith)
word_residue I64 (pos n) = ap pos (omega arith)
word_residue I64 (negsuc n) = ap pos (omega arith)
word_residue U64 (pos n) = ap pos (omega arith)
word_residue U64 (negsuc n) = ap pos (omega arith)

pub word_back : (k : Kind) (z : ℤ) → number_at k (integer_word z) ≡ reduced k z
word_back k z = ap (λ (r : ℤ). if int_le r (greatest k) then r else r -ℤ pos (2 ^ width k)) (word_residue k z)

pub word_reduced : (k : Kind) (z : ℤ) → integer_word (number_at k (integer_word z)) ≡ integer_word (reduced k z)
word_reduced k z = ap integer_word (word_back k z)

-- a number below the modulus is its own remainder, also when the modulus is taken off
below_stays : (m r : ℕ) → r < m → int_rem_euclid (pos r) (pos m) ≡ pos r
below_stays m r h = ap pos (mod-eq_of_lt h)

taken_off : (m r : ℕ) → r < m → int_rem_euclid (pos r -ℤ pos m) (pos m) ≡ pos r
taken_off m r h =
    let less : pos r -ℤ pos m ≡ negsuc (m - suc r) = omega (arith, ints) in
    let small : m - suc r < m = omega arith in
    rw (less, mod-eq_of_lt small) (omega (arith, ints))

-- a kind of 64 bits keeps all bits of a word
wide : (g z : ℤ) → residue U64 (if int_le (residue U64 z) g then residue U64 z else residue U64 z -ℤ pos (2 ^ 64)) ≡ residue U64 z
wide g z = by_test (int_le (residue U64 z) g) (residue_is z (2 ^ 64) (pow_pos 64))
  where
    by_test : (t : Bool) → (r : ℕ) × ((residue U64 z ≡ pos r) × (r < 2 ^ 64)) → residue U64 (if t then residue U64 z else residue U64 z -ℤ pos (2 ^ 64)) ≡ residue U64 z
    by_test true (r, (e, h)) = rw e (below_stays (2 ^ 64) r h)
    by_test false (r, (e, h)) = rw e (taken_off (2 ^ 64) r h)

-- a narrower one keeps a number that it holds
within_both : (k j : Kind) (z : ℤ) → InRange j z → (int_le (least k) (least j) && int_le (greatest j) (greatest k)) ≡ true → InRange k z
within_both k j z h e = (grind (arith, ints), grind (arith, ints))

-- where each number of a kind has the same word at another, a conversion leaves the word
pub word_kept : (k j : Kind) (z : ℤ) → InRange j z → IsTrue (keeps_word k j) → integer_word (reduced k z) ≡ integer_word z
word_kept I8 j z h e = ap integer_word (reduced_same I8 z (within_both I8 j z h e))
word_kept U8 j z h e = ap integer_word (reduced_same U8 z (within_both U8 j z h e))
word_kept I16 j z h e = ap integer_word (reduced_same I16 z (within_both I16 j z h e))
word_kept U16 j z h e = ap integer_word (reduced_same U16 z (within_both U16 j z h e))
word_kept I32 j z h e = ap integer_word (reduced_same I32 z (within_both I32 j z h e))
word_kept U32 j z h e = ap integer_word (reduced_same U32 z (within_both U32 j z h e))
word_kept I64 j z h e = ap unsigned_abs (wide (greatest I64) z)
word_kept U64 j z h e = ap unsigned_abs (wide (greatest U64) z)

-- the word of a number of a kind is 0 where the number is
pub word_zero : (k : Kind) (z : ℤ) → InRange k z → (integer_word z == 0) ≡ is_zero z
word_zero k z h = near z (within k z h)
  where
    near : (z : ℤ) → Within z → (integer_word z == 0) ≡ is_zero z
    near (pos n) h =
        let top : pos n ≤ℤ pos 18446744073709551615 = h.high in
        let same : n % 18446744073709551616 ≡ n = omega (arith, ints) in
        ap (λ (m : ℕ). m == 0) same
    near (negsuc n) h = let bottom : negsuc 9223372036854775807 ≤ℤ negsuc n = h.low in grind (arith, ints)

-- a constant in range has the word of its value
pub constant_has : (n : Int) → InRange (kind_of n) (value_of n) → constant_word n ≡ integer_word (value_of n)
constant_has n h = ap (λ (b : Bool). if b then integer_word (value_of n) else 2 ^ 64) (held (kind_of n) (value_of n) h)
  where
    held : (k : Kind) (z : ℤ) → InRange k z → holds k z ≡ true
    held k z h = grind (arith, ints)

-- and each value has one of 64 bits
pub word_below : (z : ℤ) → integer_word z < 2 ^ 64
word_below (pos n) = omega arith
word_below (negsuc n) = omega arith

-- ---- values

twice : (b : Bool) → b ≡ not (not b)
twice true = refl
twice false = refl

there : (tags : List Bytes) (a : ℕ) (tag : Bytes) → slice_get tags a ≡ Some tag → a < length tags
there [] a tag e = absurd (none e)
  where
    none : ◌≡◌ {A = Option Bytes} None (Some tag) → ⊥
    none e = cc
there (t ∷ tags) zero tag e = omega arith
there (t ∷ tags) (suc a) tag e = let more : a < length tags = there tags a tag e in omega arith

pub no_zero : (n : ℕ) → 0 < n → (n == 0) ≡ false
no_zero n h = grind arith

zero_no : (n : ℕ) → 0 < n → (0 == n) ≡ false
zero_no n h = grind arith

-- the word of a value is 0 where the value isn't true
pub true_word : (names : Naming) (tags : List Bytes) (t : BareType) (v : Value) → Distinguishes (length tags) names → IsScalar t
    → HasType tags t v → Ranged v → (word_of names v == 0) ≡ not (is_true v)
true_word names tags t (Number n) apart scalar h r = word_zero (kind_of n) (value_of n) r ∙ twice (is_zero (value_of n))
true_word names tags t (Reference None) apart scalar h r = refl
true_word names tags (Handle tag) (Reference (Some a)) apart scalar h r =
    no_zero (names.object a) (apart.no_null a (there tags a tag h))
true_word names tags (Integer k) (Reference (Some a)) apart scalar h r = absurd h
true_word names tags Thread (Reference (Some a)) apart scalar h r = absurd scalar
true_word names tags (Integer k) (Started thread) apart scalar h r = absurd h
true_word names tags (Handle tag) (Started thread) apart scalar h r = absurd h
true_word names tags Thread (Started thread) apart scalar h r = absurd scalar

equal_is : (m n : ℕ) → (m == n) ≡ true → m ≡ n
equal_is m n e = grind arith

unequal_is : (m n : ℕ) → (m == n) ≡ false → m ≡ n → ⊥
unequal_is m n e d = grind arith

same_numbers : (m n i j : ℕ) → (m ≡ n → i ≡ j) → (i ≡ j → m ≡ n) → (m == n) ≡ (i == j)
same_numbers m n i j f g = by (m == n) refl (i == j) refl
  where
    by : (x : Bool) → (m == n) ≡ x → (y : Bool) → (i == j) ≡ y → x ≡ y
    by true d true e = refl
    by true d false e = absurd (unequal_is i j e (f (equal_is m n d)))
    by false d true e = absurd (unequal_is m n d (g (equal_is i j e)))
    by false d false e = refl

-- two handles are equal where their words are
pub same_words : (names : Naming) (tags : List Bytes) (tag : Bytes) (a b : Option ℕ) → Distinguishes (length tags) names
    → HasType tags (Handle tag) (Reference a) → HasType tags (Handle tag) (Reference b)
    → (word_of names (Reference a) == word_of names (Reference b)) ≡ same_object a b
same_words names tags tag None None apart g h = refl
same_words names tags tag None (Some b) apart g h = zero_no (names.object b) (apart.no_null b (there tags b tag h))
same_words names tags tag (Some a) None apart g h = no_zero (names.object a) (apart.no_null a (there tags a tag g))
same_words names tags tag (Some a) (Some b) apart g h =
    same_numbers (names.object a) (names.object b) a b (apart.apart a b (there tags a tag g) (there tags b tag h)) (ap names.object)

pub zero_word : (names : Naming) (t : BareType) → word_of names (zero_of t) ≡ 0
zero_word names (Integer I8) = refl
zero_word names (Integer U8) = refl
zero_word names (Integer I16) = refl
zero_word names (Integer U16) = refl
zero_word names (Integer I32) = refl
zero_word names (Integer U32) = refl
zero_word names (Integer I64) = refl
zero_word names (Integer U64) = refl
zero_word names (Handle tag) = refl
zero_word names Thread = refl

pub plain_is : (names : Naming) (t : BareType) (v : Value) → IsPlain t v → word_of names v ≡ plain_word v
plain_is names t (Number n) h = refl
plain_is names t (Reference None) h = refl
plain_is names (Integer k) (Reference (Some a)) h = absurd h
plain_is names (Handle tag) (Reference (Some a)) h = absurd h
plain_is names Thread (Reference (Some a)) h = absurd h
plain_is names t (Started None) h = refl
plain_is names (Integer k) (Started (Some thread)) h = absurd h
plain_is names (Handle tag) (Started (Some thread)) h = absurd h
plain_is names Thread (Started (Some thread)) h = absurd h

pub plain_has : (tags : List Bytes) (t : BareType) (v : Value) → IsPlain t v → HasType tags t v
plain_has tags (Integer k) (Number n) h = h.0
plain_has tags (Integer k) (Reference object) h = absurd h
plain_has tags (Integer k) (Started thread) h = absurd h
plain_has tags (Handle tag) (Number n) h = absurd h
plain_has tags (Handle tag) (Reference None) h = tt
plain_has tags (Handle tag) (Reference (Some a)) h = absurd h
plain_has tags (Handle tag) (Started thread) h = absurd h
plain_has tags Thread (Number n) h = absurd h
plain_has tags Thread (Reference object) h = absurd h
plain_has tags Thread (Started thread) h = tt

pub plain_ranged : (t : BareType) (v : Value) → IsPlain t v → Ranged v
plain_ranged (Integer k) (Number n) h = subst (λ k. InRange k (value_of n)) (sym h.0) h.1
plain_ranged (Handle tag) (Number n) h = absurd h
plain_ranged Thread (Number n) h = absurd h
plain_ranged t (Reference object) h = tt
plain_ranged t (Started thread) h = tt

pub zero_ranged : (t : BareType) → Ranged (zero_of t)
zero_ranged (Integer I8) = (omega (arith, ints), omega (arith, ints))
zero_ranged (Integer U8) = (omega (arith, ints), omega (arith, ints))
zero_ranged (Integer I16) = (omega (arith, ints), omega (arith, ints))
zero_ranged (Integer U16) = (omega (arith, ints), omega (arith, ints))
zero_ranged (Integer I32) = (omega (arith, ints), omega (arith, ints))
zero_ranged (Integer U32) = (omega (arith, ints), omega (arith, ints))
zero_ranged (Integer I64) = (omega (arith, ints), omega (arith, ints))
zero_ranged (Integer U64) = (omega (arith, ints), omega (arith, ints))
zero_ranged (Handle tag) = tt
zero_ranged Thread = tt
