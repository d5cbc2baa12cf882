-- What holds of the number that a value becomes at a kind.
use Rattle.std.proofs.Common.{◌≡◌, ℕ, zero, suc, ◌+◌, ◌-◌, ◌%◌, ◌/◌, ◌<◌, ◌^◌, refl, sym, ap, ◌∙◌, arith, ℤ, pos, negsuc, ◌+ℤ◌, ◌-ℤ◌, ◌*ℤ◌, neg_ℤ, ◌≤ℤ◌, ◌<ℤ◌, Bool, true, false, lit<}
use Rattle.std.specs.Prelude.{int_le, if◌then◌else◌}
use Rattle.std.specs.Int.{int_rem_euclid}
use mir.Syntax.{w128}
use mir.Val.{SFits, to_z, of_z}
use Rattle.std.proofs.lemmas.Int.{ints, to_z-of_z}
use Rattle.std.proofs.lemmas.Nat.{div-add-mod', pow_pos}
use Rattle.std.proofs.Math.IntN.{suc_ℤ, suc_ℤ-*ℤ, +ℤ-suc_ℤ, +ℤ_idr, zero-*ℤ, +ℤ_assoc}
use Rattle.std.proofs.Math.Nat.{suc-mul, zero-mul}
use Rattle.c_ints.specs.declared.kind.Kind.{Kind}
use Rattle.c_ints.specs.declared.kind.Kind.TheVariants.{I8, U8, I16, U16, I32, U32, I64, U64}
use Rattle.c_ints.specs.declared.int.Int.{Int}
use Rattle.c_ints.specs.Kind.{width, greatest, InRange}
use Rattle.c_ints.specs.Number.{kind_of, value_of, number, residue, reduced, converted, IsCongruent}

-- the remainder is a natural number below the divisor, and the quotient is whole
pub residue_is : (z : ℤ) (m : ℕ) → 0 < m → (r : ℕ) × ((int_rem_euclid z (pos m) ≡ pos r) × (r < m))
residue_is (pos n) m h = (n % m, (refl, omega arith))
residue_is (negsuc n) m h = (m - 1 - n % m, (refl, omega arith))

-- the two halves of the remainders of a signed kind
halves : (h r : ℕ) → 0 < h → r < h + h → (neg_ℤ (pos h) ≤ℤ (if int_le (pos r) (pos (h - 1)) then pos r else pos r -ℤ pos (h + h))) × ((if int_le (pos r) (pos (h - 1)) then pos r else pos r -ℤ pos (h + h)) ≤ℤ pos (h - 1))
halves h r p q = (grind (arith, ints), grind (arith, ints))

whole : (m r : ℕ) → 0 < m → r < m → (pos 0 ≤ℤ (if int_le (pos r) (pos (m - 1)) then pos r else pos r -ℤ pos m)) × ((if int_le (pos r) (pos (m - 1)) then pos r else pos r -ℤ pos m) ≤ℤ pos (m - 1))
whole m r p q = (grind (arith, ints), grind (arith, ints))

pub reduced_range : (k : Kind) (z : ℤ) → InRange k (reduced k z)
reduced_range I8 z = let r = residue_is z 256 (lit< tt) in rw r.1.0 (halves 128 r.0 (lit< tt) r.1.1)
reduced_range U8 z = let r = residue_is z 256 (lit< tt) in rw r.1.0 (whole 256 r.0 (lit< tt) r.1.1)
reduced_range I16 z = let r = residue_is z 65536 (lit< tt) in rw r.1.0 (halves 32768 r.0 (lit< tt) r.1.1)
reduced_range U16 z = let r = residue_is z 65536 (lit< tt) in rw r.1.0 (whole 65536 r.0 (lit< tt) r.1.1)
reduced_range I32 z = let r = residue_is z 4294967296 (lit< tt) in rw r.1.0 (halves 2147483648 r.0 (lit< tt) r.1.1)
reduced_range U32 z = let r = residue_is z 4294967296 (lit< tt) in rw r.1.0 (whole 4294967296 r.0 (lit< tt) r.1.1)
reduced_range I64 z = let r = residue_is z 18446744073709551616 (lit< tt) in rw r.1.0 (halves 9223372036854775808 r.0 (lit< tt) r.1.1)
reduced_range U64 z = let r = residue_is z 18446744073709551616 (lit< tt) in rw r.1.0 (whole 18446744073709551616 r.0 (lit< tt) r.1.1)

-- a value that the kind holds stays
pub reduced_same : (k : Kind) (z : ℤ) → InRange k z → reduced k z ≡ z
reduced_same I8 (pos n) h = grind (arith, ints)
reduced_same I8 (negsuc n) h = grind (arith, ints)
reduced_same U8 (pos n) h = grind (arith, ints)
reduced_same U8 (negsuc n) h = grind (arith, ints)
reduced_same I16 (pos n) h = grind (arith, ints)
reduced_same I16 (negsuc n) h = grind (arith, ints)
reduced_same U16 (pos n) h = grind (arith, ints)
reduced_same U16 (negsuc n) h = grind (arith, ints)
reduced_same I32 (pos n) h = grind (arith, ints)
reduced_same I32 (negsuc n) h = grind (arith, ints)
reduced_same U32 (pos n) h = grind (arith, ints)
reduced_same U32 (negsuc n) h = grind (arith, ints)
reduced_same I64 (pos n) h = grind (arith, ints)
reduced_same I64 (negsuc n) h = grind (arith, ints)
reduced_same U64 (pos n) h = grind (arith, ints)
reduced_same U64 (negsuc n) h = grind (arith, ints)

-- what `number` is made of
pub kind_of-number : (k : Kind) (z : ℤ) → kind_of (number k z) ≡ k
kind_of-number I8 z = refl
kind_of-number U8 z = refl
kind_of-number I16 z = refl
kind_of-number U16 z = refl
kind_of-number I32 z = refl
kind_of-number U32 z = refl
kind_of-number I64 z = refl
kind_of-number U64 z = refl

pub value_of-number : (k : Kind) (z : ℤ) → InRange k z → value_of (number k z) ≡ z
value_of-number I8 z h = refl
value_of-number U8 z h = grind (arith, ints)
value_of-number I16 z h = refl
value_of-number U16 z h = grind (arith, ints)
value_of-number I32 z h = refl
value_of-number U32 z h = grind (arith, ints)
value_of-number I64 z h = refl
value_of-number U64 z h = grind (arith, ints)

-- z and its remainder differ by a multiple of the divisor
residue_congruent : (z : ℤ) (m : ℕ) → 0 < m → IsCongruent (pos m) z (int_rem_euclid z (pos m))
residue_congruent (pos n) m h = (pos (n / m), omega (arith, ints, div-add-mod' n m))
residue_congruent (negsuc n) m h = (negsuc (n / m), omega (arith, ints, div-add-mod' n m, suc-mul (n / m) m))

turned : (b w v : ℤ) → b +ℤ w ≡ (b -ℤ v) +ℤ (w +ℤ v)
turned b w v = omega (arith, ints)

-- what is congruent to a number is congruent to it less the modulus
one_less : (m : ℕ) (a b : ℤ) → IsCongruent (pos m) a b → IsCongruent (pos m) a (b -ℤ pos m)
one_less m a b (k, e) = (suc_ℤ k, rw suc_ℤ-*ℤ (e ∙ turned b (k *ℤ pos m) (pos m)))

pub reduced_congruent : (k : Kind) (z : ℤ) → IsCongruent (pos (2 ^ width k)) z (reduced k z)
reduced_congruent k z = by_test (int_le (residue k z) (greatest k))
  where
    below : IsCongruent (pos (2 ^ width k)) z (residue k z)
    below = residue_congruent z (2 ^ width k) (pow_pos (width k))

    by_test : (b : Bool) → IsCongruent (pos (2 ^ width k)) z (if b then residue k z else residue k z -ℤ pos (2 ^ width k))
    by_test true = below
    by_test false = one_less (2 ^ width k) z (residue k z) below

-- two numbers of a kind are less than 2 ^ N apart
apart : (k : Kind) (a b : ℤ) → InRange k a → InRange k b → a <ℤ (b +ℤ pos (2 ^ width k))
apart I8 a b p q = omega (arith, ints)
apart U8 a b p q = omega (arith, ints)
apart I16 a b p q = omega (arith, ints)
apart U16 a b p q = omega (arith, ints)
apart I32 a b p q = omega (arith, ints)
apart U32 a b p q = omega (arith, ints)
apart I64 a b p q = omega (arith, ints)
apart U64 a b p q = omega (arith, ints)

once : (m : ℕ) (a b n : ℤ) → a <ℤ (b +ℤ pos m) → b <ℤ (a +ℤ pos m) → a ≡ b +ℤ n *ℤ pos m → a ≡ b
once m a b (pos zero) p q e = omega (arith, ints, zero-mul m)
once m a b (pos (suc j)) p q e = absurd (omega (arith, ints, suc-mul j m))
once m a b (negsuc j) p q e = absurd (omega (arith, ints, suc-mul j m))

-- two numbers of a kind that differ by a multiple of 2 ^ N are one
pub congruent_once : (k : Kind) (a b : ℤ) → InRange k a → InRange k b → IsCongruent (pos (2 ^ width k)) a b → a ≡ b
congruent_once k a b p q (n, e) = once (2 ^ width k) a b n (apart k a b p q) (apart k b a q p) e

-- a natural number of times more
more_times : (a : ℤ) (n : ℕ) (m : ℤ) → (a +ℤ pos n) *ℤ m ≡ a *ℤ m +ℤ pos n *ℤ m
more_times a zero m = rw (+ℤ_idr, zero-*ℤ, +ℤ_idr) refl
more_times a (suc n) m =
    ap (λ k. k *ℤ m) (+ℤ-suc_ℤ a (pos n)) ∙ suc_ℤ-*ℤ (a +ℤ pos n) m ∙ ap (λ k. k +ℤ m) (more_times a n m)
    ∙ +ℤ_assoc (a *ℤ m) (pos n *ℤ m) m ∙ ap (λ k. a *ℤ m +ℤ k) (sym (suc_ℤ-*ℤ (pos n) m))

-- two sums with multiples of m that are equal, as a difference by a multiple of m
difference : (x y k n : ℤ) (m : ℕ) → x +ℤ k *ℤ pos m ≡ y +ℤ n *ℤ pos m → x ≡ y +ℤ (n -ℤ k) *ℤ pos m
difference x y (pos p) n m e =
    let back : (n -ℤ pos p) +ℤ pos p ≡ n = omega (arith, ints) in
    let times : n *ℤ pos m ≡ (n -ℤ pos p) *ℤ pos m +ℤ pos p *ℤ pos m =
    ap (λ (i : ℤ). i *ℤ pos m) (sym back) ∙ more_times (n -ℤ pos p) p (pos m) in
    omega (arith, ints)
difference x y (negsuc p) n m e =
    let times : (n +ℤ pos (suc p)) *ℤ pos m ≡ n *ℤ pos m +ℤ pos (suc p) *ℤ pos m = more_times n (suc p) (pos m) in
    omega (arith, ints)

-- two numbers of a kind that are congruent to a third one are one
one_number : (k : Kind) (a x y : ℤ) → InRange k x → InRange k y → IsCongruent (pos (2 ^ width k)) a x → IsCongruent (pos (2 ^ width k)) a y → x ≡ y
one_number k a x y p q (m, d) (n, e) =
    congruent_once k x y p q (n -ℤ m, difference x y m n (2 ^ width k) (sym d ∙ e))

-- a number of a kind lies in the range of the widest type
pub fits : (k : Kind) (z : ℤ) → InRange k z → SFits w128 z
fits I8 z h = omega (arith, ints)
fits U8 z h = omega (arith, ints)
fits I16 z h = omega (arith, ints)
fits U16 z h = omega (arith, ints)
fits I32 z h = omega (arith, ints)
fits U32 z h = omega (arith, ints)
fits I64 z h = omega (arith, ints)
fits U64 z h = omega (arith, ints)

pub held : (k : Kind) (z : ℤ) → InRange k z → InRange k (to_z w128 (of_z w128 z))
held k z h = rw (to_z-of_z w128 z (fits k z h)) h

-- what `convert` promises beside its value
pub record ConvertLaws (a : Int) (to : Kind) : Type 0 where
  pub kind : kind_of (converted a to) ≡ to
  pub range : InRange to (value_of (converted a to))
  pub kept : InRange to (value_of a) → value_of (converted a to) ≡ value_of a
  pub idempotent : converted (converted a to) to ≡ converted a to
  pub congruent : IsCongruent (pos (2 ^ width to)) (value_of a) (value_of (converted a to))
  pub only : (z : ℤ) → InRange to z → IsCongruent (pos (2 ^ width to)) (value_of a) z → z ≡ value_of (converted a to)

pub convert_laws : (a : Int) (to : Kind) → ConvertLaws a to
convert_laws a to = record {
  kind = kind_of-number to (reduced to (value_of a));
  range = rw (value_is) ranged;
  kept = λ h. value_is ∙ reduced_same to (value_of a) h;
  idempotent = ap (number to) (ap (reduced to) value_is ∙ reduced_same to (reduced to (value_of a)) ranged);
  congruent = rw (value_is) (reduced_congruent to (value_of a));
  only = λ z h d. rw (value_is) (one_number to (value_of a) z (reduced to (value_of a)) h ranged d (reduced_congruent to (value_of a)));
}
  where
    ranged : InRange to (reduced to (value_of a))
    ranged = reduced_range to (value_of a)

    value_is : value_of (converted a to) ≡ reduced to (value_of a)
    value_is = value_of-number to (reduced to (value_of a)) ranged
