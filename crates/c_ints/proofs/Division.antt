-- A quotient and a remainder of two operands belong together.
use Rattle.std.proofs.Common.{◌≡◌, refl, sym, ap, ◌∙◌, ℤ, ◌+ℤ◌, ◌*ℤ◌, int_div, int_rem, Bool, true, false, Ok, Err, Result, IfOk}
use Rattle.std.specs.Prelude.{if◌then◌else◌}
use Rattle.std.proofs.lemmas.Int.{quot-rem}
use Rattle.c_ints.specs.declared.kind.Kind.{Kind}
use Rattle.c_ints.specs.declared.int.Int.{Int}
use Rattle.c_ints.specs.declared.operator.BinOp.{BinOp}
use Rattle.c_ints.specs.declared.operator.BinOp.TheVariants.{Div, Rem}
use Rattle.c_ints.specs.declared.operator.ArithTrap.{ArithTrap}
use Rattle.c_ints.specs.declared.operator.ArithTrap.TheVariants.{Overflow, Divide}
use Rattle.c_ints.specs.Kind.{InRange, common_kind, holds}
use Rattle.c_ints.specs.Number.{kind_of, number, reduced, value_of}
use Rattle.c_ints.specs.Arithmetic.{IsDivision, binary_value, is_zero, settled}
use Rattle.c_ints.proofs.Agreement.{held_range, settled_wraps}
use Rattle.c_ints.proofs.Ranges.{remainder_range}
use Rattle.c_ints.proofs.Reduction.{reduced_range, reduced_same, value_of-number}

-- an exact result in range that settles is that result
settled_value : (k : Kind) (exact : ℤ) (z : Int) → InRange k exact → settled k exact ≡ Ok z → value_of z ≡ exact
settled_value k exact z h e =
    ap value_of (sym (settled_wraps k exact z e)) ∙ ap (λ (v : ℤ). value_of (number k v)) (reduced_same k exact h) ∙ value_of-number k exact h

-- on two values at a kind
divides : (k : Kind) (x y : ℤ) (q : Int) → InRange k x → (if is_zero y then Err Divide else settled k (int_div x y)) ≡ Ok q
    → IfOk (if is_zero y then Err Divide else (if holds k (int_div x y) then Ok (number k (int_rem x y)) else Err Overflow)) (λ r. value_of q *ℤ y +ℤ value_of r ≡ x)
divides k x y q h = by_tests (is_zero y) (holds k (int_div x y)) (held_range k (int_div x y))
  where
    by_tests : (z t : Bool) → (t ≡ true → InRange k (int_div x y)) → ◌≡◌ {A = Result Int ArithTrap} (if z then Err Divide else settled k (int_div x y)) (Ok q)
        → IfOk {T = Int} {E = ArithTrap} (if z then Err Divide else (if t then Ok (number k (int_rem x y)) else Err Overflow)) (λ r. value_of q *ℤ y +ℤ value_of r ≡ x)
    by_tests true t fits e = tt
    by_tests false false fits e = tt
    by_tests false true fits e =
        rw (settled_value k (int_div x y) q (fits refl) e, value_of-number k (int_rem x y) (remainder_range k x y h)) (quot-rem x y)

pub divided : (op : BinOp) (a b : Int) (r : Result Int ArithTrap) → r ≡ binary_value op a b → (q : Int) → op ≡ Rem → binary_value Div a b ≡ Ok q → IfOk r (λ z. IsDivision a b q z)
divided op a b r same q e d =
    let k = common_kind (kind_of a) (kind_of b) in
    rw (same, e) (divides k (reduced k (value_of a)) (reduced k (value_of b)) q (reduced_range k (value_of a)) d)
