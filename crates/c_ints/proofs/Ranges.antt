-- The exact results of the operators: how large they are, and which lie in the range of their kind.
use Rattle.std.proofs.Common.{◌≡◌, ◌≢◌, ℕ, zero, suc, ◌%◌, ◌/◌, ◌≤◌, refl, arith, ℤ, pos, negsuc, ◌+ℤ◌, ◌-ℤ◌, ◌*ℤ◌, neg_ℤ, ◌≤ℤ◌, ◌<ℤ◌, false, lit<, unsigned_abs, int_div, int_rem}
use mir.Syntax.{w128}
use mir.Val.{SFits, to_z, of_z}
use Rattle.std.specs.Int.{int_div_euclid}
use Rattle.std.proofs.Math.Nat.{div-le_self, mod-le}
use Rattle.std.proofs.lemmas.Int.{ints, fits_signed_mul, fits_signed_from_abs}
use Rattle.c_ints.specs.declared.kind.Kind.{Kind}
use Rattle.c_ints.specs.declared.kind.Kind.TheVariants.{I8, U8, I16, U16, I32, U32, I64, U64}
use Rattle.c_ints.specs.declared.operator.BinOp.{BinOp}
use Rattle.c_ints.specs.declared.operator.BinOp.TheVariants.{Shl, Shr}
use Rattle.c_ints.specs.Kind.{least, greatest, promoted, InRange}
use Rattle.c_ints.specs.Arithmetic.{is_zero, is_shift}

-- ---- magnitudes

-- a number of a kind is at most 2 ^ 64 - 1 away from 0
pub abs_bound : (k : Kind) (z : ℤ) → InRange k z → unsigned_abs z ≤ 18446744073709551615
abs_bound I8 (pos n) h = omega (arith, ints)
abs_bound I8 (negsuc n) h = omega (arith, ints)
abs_bound U8 (pos n) h = omega (arith, ints)
abs_bound U8 (negsuc n) h = omega (arith, ints)
abs_bound I16 (pos n) h = omega (arith, ints)
abs_bound I16 (negsuc n) h = omega (arith, ints)
abs_bound U16 (pos n) h = omega (arith, ints)
abs_bound U16 (negsuc n) h = omega (arith, ints)
abs_bound I32 (pos n) h = omega (arith, ints)
abs_bound I32 (negsuc n) h = omega (arith, ints)
abs_bound U32 (pos n) h = omega (arith, ints)
abs_bound U32 (negsuc n) h = omega (arith, ints)
abs_bound I64 (pos n) h = omega (arith, ints)
abs_bound I64 (negsuc n) h = omega (arith, ints)
abs_bound U64 (pos n) h = omega (arith, ints)
abs_bound U64 (negsuc n) h = omega (arith, ints)

-- a number of a kind as an integer between two bounds
pub record Within (z : ℤ) : Type 0 where
  pub low : negsuc 9223372036854775807 ≤ℤ z
  pub high : z ≤ℤ pos 18446744073709551615

pub within : (k : Kind) (z : ℤ) → InRange k z → Within z
within I8 z h = record { low = omega (arith, ints); high = omega (arith, ints) }
within U8 z h = record { low = omega (arith, ints); high = omega (arith, ints) }
within I16 z h = record { low = omega (arith, ints); high = omega (arith, ints) }
within U16 z h = record { low = omega (arith, ints); high = omega (arith, ints) }
within I32 z h = record { low = omega (arith, ints); high = omega (arith, ints) }
within U32 z h = record { low = omega (arith, ints); high = omega (arith, ints) }
within I64 z h = record { low = omega (arith, ints); high = omega (arith, ints) }
within U64 z h = record { low = omega (arith, ints); high = omega (arith, ints) }

-- but for the widest unsigned kind, at most 2 ^ 63
abs_half : (k : Kind) (z : ℤ) → k ≢ U64 → InRange k z → unsigned_abs z ≤ 9223372036854775808
abs_half I8 (pos n) o h = omega (arith, ints)
abs_half I8 (negsuc n) o h = omega (arith, ints)
abs_half U8 (pos n) o h = omega (arith, ints)
abs_half U8 (negsuc n) o h = omega (arith, ints)
abs_half I16 (pos n) o h = omega (arith, ints)
abs_half I16 (negsuc n) o h = omega (arith, ints)
abs_half U16 (pos n) o h = omega (arith, ints)
abs_half U16 (negsuc n) o h = omega (arith, ints)
abs_half I32 (pos n) o h = omega (arith, ints)
abs_half I32 (negsuc n) o h = omega (arith, ints)
abs_half U32 (pos n) o h = omega (arith, ints)
abs_half U32 (negsuc n) o h = omega (arith, ints)
abs_half I64 (pos n) o h = omega (arith, ints)
abs_half I64 (negsuc n) o h = omega (arith, ints)
abs_half U64 z o h = absurd (o refl)

-- the product of two such numbers fits 128 bits
pub product_fits : (k : Kind) (x y : ℤ) → k ≢ U64 → InRange k x → InRange k y → SFits w128 (x *ℤ y)
product_fits k x y o p q =
    fits_signed_mul w128 x y 9223372036854775808 9223372036854775808 (abs_half k x o p) (abs_half k y o q) (lit< tt)

-- and so does a number of a kind times a power of two below 2 ^ 64
pub shifted_fits : (k : Kind) (x y : ℤ) → InRange k x → unsigned_abs y ≤ 9223372036854775808 → SFits w128 (x *ℤ y)
shifted_fits k x y p q =
    fits_signed_mul w128 x y 18446744073709551615 9223372036854775808 (abs_bound k x p) q (lit< tt)

pub abs_between : (y : ℤ) (n : ℕ) → pos 0 <ℤ y → y ≤ℤ pos n → unsigned_abs y ≤ n
abs_between (pos m) n p q = omega (arith, ints)
abs_between (negsuc m) n p q = absurd (omega (arith, ints))

abs_neg : (n : ℕ) → unsigned_abs (neg_ℤ (pos n)) ≡ n
abs_neg zero = refl
abs_neg (suc n) = refl

-- a quotient is no further from 0 than the dividend
abs_quotient : (x y : ℤ) → unsigned_abs (int_div x y) ≤ unsigned_abs x
abs_quotient (pos a) (pos b) = div-le_self a b
abs_quotient (pos a) (negsuc b) = rw abs_neg (div-le_self a (suc b))
abs_quotient (negsuc a) (pos b) = rw abs_neg (div-le_self (suc a) b)
abs_quotient (negsuc a) (negsuc b) = div-le_self (suc a) (suc b)

pub quotient_fits : (k : Kind) (x y : ℤ) → InRange k x → SFits w128 (int_div x y)
quotient_fits k x y h =
    let near : unsigned_abs (int_div x y) ≤ unsigned_abs x = abs_quotient x y in
    let bound : unsigned_abs x ≤ 18446744073709551615 = abs_bound k x h in
    fits_signed_from_abs w128 (int_div x y) (omega (arith, near, bound))

-- ---- ranges

-- what lies between 0 and a number of a kind is a number of the kind
zero_held : (k : Kind) → InRange k (pos 0)
zero_held I8 = (omega (arith, ints), omega (arith, ints))
zero_held U8 = (omega (arith, ints), omega (arith, ints))
zero_held I16 = (omega (arith, ints), omega (arith, ints))
zero_held U16 = (omega (arith, ints), omega (arith, ints))
zero_held I32 = (omega (arith, ints), omega (arith, ints))
zero_held U32 = (omega (arith, ints), omega (arith, ints))
zero_held I64 = (omega (arith, ints), omega (arith, ints))
zero_held U64 = (omega (arith, ints), omega (arith, ints))

smaller : (k : Kind) (a b : ℕ) → b ≤ a → InRange k (pos a) → InRange k (pos b)
smaller k a b le h = ((zero_first k b), below)
  where
    zero_first : (k : Kind) (b : ℕ) → least k ≤ℤ pos b
    zero_first I8 b = omega (arith, ints)
    zero_first U8 b = omega (arith, ints)
    zero_first I16 b = omega (arith, ints)
    zero_first U16 b = omega (arith, ints)
    zero_first I32 b = omega (arith, ints)
    zero_first U32 b = omega (arith, ints)
    zero_first I64 b = omega (arith, ints)
    zero_first U64 b = omega (arith, ints)

    below : pos b ≤ℤ greatest k
    below = let top : pos a ≤ℤ greatest k = h.1 in omega (arith, ints)

nearer : (k : Kind) (a b : ℕ) → b ≤ a → InRange k (negsuc a) → InRange k (negsuc b)
nearer k a b le h = (above, last k b)
  where
    last : (k : Kind) (b : ℕ) → negsuc b ≤ℤ greatest k
    last I8 b = omega (arith, ints)
    last U8 b = omega (arith, ints)
    last I16 b = omega (arith, ints)
    last U16 b = omega (arith, ints)
    last I32 b = omega (arith, ints)
    last U32 b = omega (arith, ints)
    last I64 b = omega (arith, ints)
    last U64 b = omega (arith, ints)

    above : least k ≤ℤ negsuc b
    above = let bottom : least k ≤ℤ negsuc a = h.0 in omega (arith, ints)

negated : (k : Kind) (a n : ℕ) → n ≤ suc a → InRange k (negsuc a) → InRange k (neg_ℤ (pos n))
negated k a zero le h = zero_held k
negated k a (suc n) le h = nearer k a n (omega arith) h

-- a remainder has the sign of the dividend and is no further from 0
pub remainder_range : (k : Kind) (x y : ℤ) → InRange k x → InRange k (int_rem x y)
remainder_range k (pos a) y h = smaller k a (a % unsigned_abs y) (mod-le a (unsigned_abs y)) h
remainder_range k (negsuc a) y h = negated k a (suc a % unsigned_abs y) (mod-le (suc a) (unsigned_abs y)) h

-- a quotient that is rounded down lies between the dividend and 0 or -1
pub floor_range : (k : Kind) (x y : ℤ) → pos 0 <ℤ y → InRange k x → InRange k (int_div_euclid x y)
floor_range k (pos a) (pos m) p h = smaller k a (a / m) (div-le_self a m) h
floor_range k (negsuc a) (pos m) p h = nearer k a (a / m) (div-le_self a m) h
floor_range k x (negsuc m) p h = absurd (omega (arith, ints))

-- ---- tests

pub is_zero-no : (y : ℤ) → y ≢ pos 0 → is_zero y ≡ false
is_zero-no (pos zero) o = absurd (o refl)
is_zero-no (pos (suc n)) o = grind arith
is_zero-no (negsuc n) o = refl

-- the promoted kind holds what the kind holds
pub promoted_range : (k : Kind) (z : ℤ) → InRange k z → InRange (promoted k) z
promoted_range I8 z h = (omega (arith, ints), omega (arith, ints))
promoted_range U8 z h = (omega (arith, ints), omega (arith, ints))
promoted_range I16 z h = (omega (arith, ints), omega (arith, ints))
promoted_range U16 z h = (omega (arith, ints), omega (arith, ints))
promoted_range I32 z h = h
promoted_range U32 z h = h
promoted_range I64 z h = h
promoted_range U64 z h = h

-- what the widest type makes of a sum, a difference and an opposite is exact
pub exact_sum : (x y : ℤ) → Within x → Within y → to_z w128 (of_z w128 (to_z w128 (of_z w128 x) +ℤ to_z w128 (of_z w128 y))) ≡ x +ℤ y
exact_sum x y p q = omega (arith, ints)

pub exact_difference : (x y : ℤ) → Within x → Within y → to_z w128 (of_z w128 (to_z w128 (of_z w128 x) -ℤ to_z w128 (of_z w128 y))) ≡ x -ℤ y
exact_difference x y p q = omega (arith, ints)

pub exact_opposite : (x : ℤ) → Within x → to_z w128 (of_z w128 (pos 0 -ℤ to_z w128 (of_z w128 x))) ≡ neg_ℤ x
exact_opposite x p = omega (arith, ints)

pub exact_complement : (x : ℤ) → Within x → to_z w128 (of_z w128 (pos 0 -ℤ to_z w128 (of_z w128 (to_z w128 (of_z w128 x) +ℤ pos 1)))) ≡ neg_ℤ (x +ℤ pos 1)
exact_complement x p = omega (arith, ints)

-- an operator that is neither `<<` nor `>>`
pub not_shift : (op : BinOp) → op ≢ Shl → op ≢ Shr → is_shift op ≡ false
not_shift Shl p q = absurd (p refl)
not_shift Shr p q = absurd (q refl)
not_shift _ p q = refl
