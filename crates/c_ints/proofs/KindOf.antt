-- The kind of what an operator gives.
use Rattle.std.proofs.Common.{◌≡◌, refl, ℤ, ◌+ℤ◌, ◌-ℤ◌, ◌*ℤ◌, neg_ℤ, int_div, int_rem, Bool, true, false, Ok, Err, Result, IfOk}
use Rattle.std.specs.Prelude.{if◌then◌else◌, not, ◌&&◌}
use Rattle.std.specs.Int.{is_negative}
use Rattle.c_ints.specs.declared.kind.Kind.{Kind}
use Rattle.c_ints.specs.declared.kind.Kind.TheVariants.{I32}
use Rattle.c_ints.specs.declared.int.Int.{Int}
use Rattle.c_ints.specs.declared.operator.BinOp.{BinOp}
use Rattle.c_ints.specs.declared.operator.BinOp.TheVariants.{Add, Sub, Mul, Div, Rem, And, Or, Xor, Shl, Shr, Lt, Gt, Le, Ge, Eq, Ne}
use Rattle.c_ints.specs.declared.operator.SafeOp.{SafeOp}
use Rattle.c_ints.specs.declared.operator.SafeOp.TheVariants.{Add as SafeAdd, Sub as SafeSub, Mul as SafeMul, And as SafeAnd, Or as SafeOr, Xor as SafeXor, Lt as SafeLt, Gt as SafeGt, Le as SafeLe, Ge as SafeGe, Eq as SafeEq, Ne as SafeNe}
use Rattle.c_ints.specs.declared.operator.UnOp.{UnOp}
use Rattle.c_ints.specs.declared.operator.UnOp.TheVariants.{Plus, Negate, Complement, Not}
use Rattle.c_ints.specs.declared.operator.ArithTrap.{ArithTrap}
use Rattle.c_ints.specs.declared.operator.ArithTrap.TheVariants.{Overflow, Divide, Shift}
use Rattle.c_ints.specs.Kind.{common_kind, holds, is_signed, promoted}
use Rattle.c_ints.specs.Number.{kind_of, number, reduced, value_of}
use Rattle.c_ints.specs.Arithmetic.{as_binary, binary_kind, binary_value, binary_wrapped, is_comparison, is_count, is_zero, operate, power, settled, unary_kind, unary_value, unary_wrapped}
use Rattle.c_ints.proofs.Reduction.{kind_of-number}

-- an outcome has a kind where it is a value of it
abbrev Has : Kind → Result Int ArithTrap → Type 0
Has k r = IfOk r (λ z. kind_of z ≡ k)

guarded : (k : Kind) (b : Bool) (r : Result Int ArithTrap) (t : ArithTrap) → Has k r → Has k (if b then r else Err t)
guarded k true r t h = h
guarded k false r t h = tt

denied : (k : Kind) (b : Bool) (r : Result Int ArithTrap) (t : ArithTrap) → Has k r → Has k (if b then Err t else r)
denied k true r t h = tt
denied k false r t h = h

settled_kind : (k : Kind) (exact : ℤ) → Has k (settled k exact)
settled_kind k exact = by_sign (is_signed k)
  where
    by_sign : (s : Bool) → Has k (if s then (if holds k exact then Ok (number k exact) else Err Overflow) else Ok (number k (reduced k exact)))
    by_sign true = guarded k (holds k exact) (Ok (number k exact)) Overflow (kind_of-number k exact)
    by_sign false = kind_of-number k (reduced k exact)

-- an operator on two values at a kind gives a value of it, or an int
abbrev given : BinOp → Kind → Kind
given op k = if is_comparison op then I32 else k

operate_kind : (op : BinOp) (k : Kind) (x y : ℤ) → Has (given op k) (operate op k x y)
operate_kind Add k x y = settled_kind k (x +ℤ y)
operate_kind Sub k x y = settled_kind k (x -ℤ y)
operate_kind Mul k x y = settled_kind k (x *ℤ y)
operate_kind Div k x y = denied k (is_zero y) (settled k (int_div x y)) Divide (settled_kind k (int_div x y))
operate_kind Rem k x y =
    denied k (is_zero y) _ Divide (guarded k (holds k (int_div x y)) (Ok (number k (int_rem x y))) Overflow (kind_of-number k (int_rem x y)))
operate_kind And k x y = kind_of-number k _
operate_kind Or k x y = kind_of-number k _
operate_kind Xor k x y = kind_of-number k _
operate_kind Shl k x y =
    guarded k (is_count k y && not (is_negative x)) (settled k (x *ℤ power y)) Shift (settled_kind k (x *ℤ power y))
operate_kind Shr k x y = guarded k (is_count k y) _ Shift (kind_of-number k _)
operate_kind Lt k x y = refl
operate_kind Gt k x y = refl
operate_kind Le k x y = refl
operate_kind Ge k x y = refl
operate_kind Eq k x y = refl
operate_kind Ne k x y = refl

pub binary_kind_is : (op : BinOp) (a b : Int) (r : Result Int ArithTrap) → r ≡ binary_value op a b → Has (binary_kind op (kind_of a) (kind_of b)) r
binary_kind_is op a b r same = rw same (by_operator op)
  where
    shifted : (op : BinOp) → Has (given op (promoted (kind_of a))) (operate op (promoted (kind_of a)) (value_of a) (value_of b))
    shifted op = operate_kind op (promoted (kind_of a)) (value_of a) (value_of b)

    balanced : (op : BinOp) → Has (given op (common_kind (kind_of a) (kind_of b))) (operate op (common_kind (kind_of a) (kind_of b)) (reduced (common_kind (kind_of a) (kind_of b)) (value_of a)) (reduced (common_kind (kind_of a) (kind_of b)) (value_of b)))
    balanced op = let k = common_kind (kind_of a) (kind_of b) in operate_kind op k (reduced k (value_of a)) (reduced k (value_of b))

    by_operator : (op : BinOp) → Has (binary_kind op (kind_of a) (kind_of b)) (binary_value op a b)
    by_operator Shl = shifted Shl
    by_operator Shr = shifted Shr
    by_operator Add = balanced Add
    by_operator Sub = balanced Sub
    by_operator Mul = balanced Mul
    by_operator Div = balanced Div
    by_operator Rem = balanced Rem
    by_operator And = balanced And
    by_operator Or = balanced Or
    by_operator Xor = balanced Xor
    by_operator Lt = refl
    by_operator Gt = refl
    by_operator Le = refl
    by_operator Ge = refl
    by_operator Eq = refl
    by_operator Ne = refl

pub unary_kind_is : (op : UnOp) (a : Int) (r : Result Int ArithTrap) → r ≡ unary_value op a → Has (unary_kind op (kind_of a)) r
unary_kind_is op a r same = rw same (by_operator op)
  where
    by_operator : (op : UnOp) → Has (unary_kind op (kind_of a)) (unary_value op a)
    by_operator Plus = kind_of-number (promoted (kind_of a)) _
    by_operator Negate = settled_kind (promoted (kind_of a)) (neg_ℤ (value_of a))
    by_operator Complement = kind_of-number (promoted (kind_of a)) _
    by_operator Not = refl

pub binary_wrapped_kind : (op : SafeOp) (a b : Int) → kind_of (binary_wrapped op a b) ≡ binary_kind (as_binary op) (kind_of a) (kind_of b)
binary_wrapped_kind SafeAdd a b = kind_of-number (common_kind (kind_of a) (kind_of b)) _
binary_wrapped_kind SafeSub a b = kind_of-number (common_kind (kind_of a) (kind_of b)) _
binary_wrapped_kind SafeMul a b = kind_of-number (common_kind (kind_of a) (kind_of b)) _
binary_wrapped_kind SafeAnd a b = kind_of-number (common_kind (kind_of a) (kind_of b)) _
binary_wrapped_kind SafeOr a b = kind_of-number (common_kind (kind_of a) (kind_of b)) _
binary_wrapped_kind SafeXor a b = kind_of-number (common_kind (kind_of a) (kind_of b)) _
binary_wrapped_kind SafeLt a b = refl
binary_wrapped_kind SafeGt a b = refl
binary_wrapped_kind SafeLe a b = refl
binary_wrapped_kind SafeGe a b = refl
binary_wrapped_kind SafeEq a b = refl
binary_wrapped_kind SafeNe a b = refl

pub unary_wrapped_kind : (op : UnOp) (a : Int) → kind_of (unary_wrapped op a) ≡ unary_kind op (kind_of a)
unary_wrapped_kind Plus a = kind_of-number (promoted (kind_of a)) _
unary_wrapped_kind Negate a = kind_of-number (promoted (kind_of a)) _
unary_wrapped_kind Complement a = kind_of-number (promoted (kind_of a)) _
unary_wrapped_kind Not a = refl
