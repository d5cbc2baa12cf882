-- Where an operator has a value, the form that wraps has the same.
use Rattle.std.proofs.Common.{◌≡◌, refl, ap, ◌∙◌, arith, ℤ, ◌+ℤ◌, ◌-ℤ◌, ◌*ℤ◌, neg_ℤ, Bool, true, false, Ok, Err, Result}
use Rattle.std.specs.Prelude.{if◌then◌else◌}
use Rattle.std.proofs.lemmas.Int.{ints}
use Rattle.c_ints.specs.declared.kind.Kind.{Kind}
use Rattle.c_ints.specs.declared.int.Int.{Int}
use Rattle.c_ints.specs.declared.operator.SafeOp.{SafeOp}
use Rattle.c_ints.specs.declared.operator.SafeOp.TheVariants.{Add, Sub, Mul, And, Or, Xor, Lt, Gt, Le, Ge, Eq, Ne}
use Rattle.c_ints.specs.declared.operator.UnOp.{UnOp}
use Rattle.c_ints.specs.declared.operator.UnOp.TheVariants.{Plus, Negate, Complement, Not}
use Rattle.c_ints.specs.declared.operator.ArithTrap.{ArithTrap}
use Rattle.c_ints.specs.declared.operator.ArithTrap.TheVariants.{Overflow}
use Rattle.c_ints.specs.Kind.{InRange, common_kind, holds, is_signed, promoted}
use Rattle.c_ints.specs.Number.{kind_of, number, reduced, value_of}
use Rattle.c_ints.specs.Arithmetic.{as_binary, binary_value, binary_wrapped, settled, unary_value, unary_wrapped}
use Rattle.c_ints.proofs.Reduction.{reduced_same}

-- what the test finds lies in the range
pub held_range : (k : Kind) (z : ℤ) → holds k z ≡ true → InRange k z
held_range k z h = (grind (arith, ints), grind (arith, ints))

-- what an exact result settles at is what it wraps to
pub settled_wraps : (k : Kind) (exact : ℤ) (z : Int) → settled k exact ≡ Ok z → number k (reduced k exact) ≡ z
settled_wraps k exact z = by_tests (is_signed k) (holds k exact) (held_range k exact)
  where
    by_tests : (s t : Bool) → (t ≡ true → InRange k exact) → ◌≡◌ {A = Result Int ArithTrap} (if s then (if t then Ok (number k exact) else Err Overflow) else Ok (number k (reduced k exact))) (Ok z) → number k (reduced k exact) ≡ z
    by_tests true true fits e = ap (number k) (reduced_same k exact (fits refl)) ∙ (cc)
    by_tests true false fits e = cc
    by_tests false t fits e = cc

pub binary_agrees : (op : SafeOp) (a b z : Int) → binary_value (as_binary op) a b ≡ Ok z → binary_wrapped op a b ≡ z
binary_agrees Add a b z e = let k = common_kind (kind_of a) (kind_of b) in settled_wraps k (reduced k (value_of a) +ℤ reduced k (value_of b)) z e
binary_agrees Sub a b z e = let k = common_kind (kind_of a) (kind_of b) in settled_wraps k (reduced k (value_of a) -ℤ reduced k (value_of b)) z e
binary_agrees Mul a b z e = let k = common_kind (kind_of a) (kind_of b) in settled_wraps k (reduced k (value_of a) *ℤ reduced k (value_of b)) z e
binary_agrees And a b z e = cc
binary_agrees Or a b z e = cc
binary_agrees Xor a b z e = cc
binary_agrees Lt a b z e = cc
binary_agrees Gt a b z e = cc
binary_agrees Le a b z e = cc
binary_agrees Ge a b z e = cc
binary_agrees Eq a b z e = cc
binary_agrees Ne a b z e = cc

pub unary_agrees : (op : UnOp) (a z : Int) → unary_value op a ≡ Ok z → unary_wrapped op a ≡ z
unary_agrees Plus a z e = cc
unary_agrees Negate a z e = settled_wraps (promoted (kind_of a)) (neg_ℤ (value_of a)) z e
unary_agrees Complement a z e = cc
unary_agrees Not a z e = cc
