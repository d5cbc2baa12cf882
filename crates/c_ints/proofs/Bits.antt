-- The bitwise operators by the bits of their operands.
use Rattle.std.proofs.Common.{◌≡◌, ℕ, suc, ◌-◌, ◌/◌, ◌%◌, ◌^◌, ◌<◌, sym, ap, ◌∙◌, arith, min, max, ℤ, pos, negsuc, ◌-ℤ◌, unsigned_abs, bit_and, bit_or, bit_xor, Bool, true, false, Result, IfOk}
use Rattle.std.specs.Prelude.{if◌then◌else◌, int_le}
use Rattle.std.specs.Int.{int_rem_euclid, bit_at, Width, w8, w16, w32, w64}
use mir.Val.{bits}
use Rattle.std.proofs.lemmas.Int.{ints}
use Rattle.std.proofs.Math.Nat.{mod-eq_of_lt}
use Rattle.std.proofs.lemmas.Nat.{div-add-mod', pow_pos}
use Rattle.std.proofs.lemmas.Nat.Bits.{bit_at_and, bit_at_or, bit_at_xor, bit_at_not, bit_at_cat_low}
use Rattle.c_ints.specs.declared.kind.Kind.{Kind}
use Rattle.c_ints.specs.declared.kind.Kind.TheVariants.{I8, U8, I16, U16, I32, U32, I64, U64}
use Rattle.c_ints.specs.declared.int.Int.{Int}
use Rattle.c_ints.specs.declared.operator.BinOp.{BinOp}
use Rattle.c_ints.specs.declared.operator.BinOp.TheVariants.{And, Or, Xor}
use Rattle.c_ints.specs.declared.operator.ArithTrap.{ArithTrap}
use Rattle.c_ints.specs.Kind.{common_kind, greatest, width}
use Rattle.c_ints.specs.Number.{kind_of, number, reduced, residue, value_of}
use Rattle.c_ints.specs.Arithmetic.{EachBit, binary_value, bit, by_bits, differs}
use Rattle.c_ints.proofs.Reduction.{kind_of-number, reduced_range, residue_is, value_of-number}

-- the low bits of a remainder by a power of two are those of the number
low_bit : (w n i : ℕ) → i < w → bit_at (n % 2 ^ w) i ≡ bit_at n i
low_bit w n i h =
    sym (bit_at_cat_low (n / 2 ^ w) w (n % 2 ^ w) i h) ∙ ap (λ (m : ℕ). bit_at m i) (div-add-mod' n (2 ^ w))

-- a bit of a value is that of its remainder
bit_residue_at : (w : Width) (z : ℤ) (i : ℕ) → i < bits w → bit z i ≡ bit_at (unsigned_abs (int_rem_euclid z (pos (2 ^ bits w)))) i
bit_residue_at w (pos n) i h = sym (low_bit (bits w) n i h)
bit_residue_at w (negsuc n) i h =
    let below : n % 2 ^ bits w < 2 ^ bits w = let some : 0 < 2 ^ bits w = pow_pos (bits w) in omega arith in
    sym (bit_at_not w (n % 2 ^ bits w) i below h ∙ ap (λ (m : ℕ). 1 - m) (low_bit (bits w) n i h))

bit_residue : (k : Kind) (z : ℤ) (i : ℕ) → i < width k → bit z i ≡ bit_at (unsigned_abs (residue k z)) i
bit_residue I8 = bit_residue_at w8
bit_residue U8 = bit_residue_at w8
bit_residue I16 = bit_residue_at w16
bit_residue U16 = bit_residue_at w16
bit_residue I32 = bit_residue_at w32
bit_residue U32 = bit_residue_at w32
bit_residue I64 = bit_residue_at w64
bit_residue U64 = bit_residue_at w64

-- a number below the modulus is its own remainder, also when the modulus is taken off
below_stays : (m r : ℕ) → r < m → int_rem_euclid (pos r) (pos m) ≡ pos r
below_stays m r h = ap pos (mod-eq_of_lt h)

taken_off : (m r : ℕ) → r < m → int_rem_euclid (pos r -ℤ pos m) (pos m) ≡ pos r
taken_off m r h =
    let less : pos r -ℤ pos m ≡ negsuc (m - suc r) = omega (arith, ints) in
    let small : m - suc r < m = omega arith in
    rw (less, mod-eq_of_lt small) (omega (arith, ints))

residue_reduced : (k : Kind) (z : ℤ) → residue k (reduced k z) ≡ residue k z
residue_reduced k z = by_test (int_le (residue k z) (greatest k)) (residue_is z (2 ^ width k) (pow_pos (width k)))
  where
    by_test : (t : Bool) → (r : ℕ) × ((residue k z ≡ pos r) × (r < 2 ^ width k)) → residue k (if t then residue k z else residue k z -ℤ pos (2 ^ width k)) ≡ residue k z
    by_test true (r, (e, h)) = rw e (below_stays (2 ^ width k) r h)
    by_test false (r, (e, h)) = rw e (taken_off (2 ^ width k) r h)

-- so a value keeps its low bits at a kind
bit_reduced : (k : Kind) (z : ℤ) (i : ℕ) → i < width k → bit (reduced k z) i ≡ bit z i
bit_reduced k z i h =
    bit_residue k (reduced k z) i h ∙ ap (λ (r : ℤ). bit_at (unsigned_abs r) i) (residue_reduced k z) ∙ sym (bit_residue k z i h)

each_bit : (f g : ℕ → ℕ → ℕ) → ((m n i : ℕ) → bit_at (f m n) i ≡ g (bit_at m i) (bit_at n i)) → (a b : Int) (k : Kind) → EachBit g a b (number k (by_bits f k (reduced k (value_of a)) (reduced k (value_of b))))
each_bit f g law a b k i h =
    let x = reduced k (value_of a) in
    let y = reduced k (value_of b) in
    let m : ℕ = f (unsigned_abs (residue k x)) (unsigned_abs (residue k y)) in
    let here : i < width k = rw (kind_of-number k (by_bits f k x y)) at h in
    ap (λ (z : ℤ). bit z i) (value_of-number k (by_bits f k x y) (reduced_range k (pos m)))
    ∙ bit_reduced k (pos m) i here
    ∙ law (unsigned_abs (residue k x)) (unsigned_abs (residue k y)) i
    ∙ ap (λ (n : ℕ). g n (bit_at (unsigned_abs (residue k y)) i)) (sym (bit_residue k x i here) ∙ bit_reduced k (value_of a) i here)
    ∙ ap (λ (n : ℕ). g (bit (value_of a) i) n) (sym (bit_residue k y i here) ∙ bit_reduced k (value_of b) i here)

-- what `binary` promises of the bitwise operators
pub record Bitwise (op : BinOp) (a b : Int) (r : Result Int ArithTrap) : Type 0 where
  pub and : op ≡ And → IfOk r (EachBit min a b)
  pub or : op ≡ Or → IfOk r (EachBit max a b)
  pub xor : op ≡ Xor → IfOk r (EachBit differs a b)

pub bitwise : (op : BinOp) (a b : Int) (r : Result Int ArithTrap) → r ≡ binary_value op a b → Bitwise op a b r
bitwise op a b r same = record {
  and = λ e. rw (same, e) (each_bit bit_and min bit_at_and a b (common_kind (kind_of a) (kind_of b)));
  or = λ e. rw (same, e) (each_bit bit_or max bit_at_or a b (common_kind (kind_of a) (kind_of b)));
  xor = λ e. rw (same, e) (each_bit bit_xor differs bit_at_xor a b (common_kind (kind_of a) (kind_of b)));
}
