-- The operators on integers: the value of each, or its trap.
use Rattle.std.specs.Prelude.{◌≡◌, ◌<◌, ◌+◌, ◌%◌, ℕ, ◌^◌, ◌==◌, Bool, true, false, not, ◌&&◌, ℤ, pos, negsuc, ◌+ℤ◌, ◌-ℤ◌, ◌*ℤ◌, neg_ℤ, int_lt, int_le, int_div, int_rem, bit_and, bit_or, bit_xor, unsigned_abs, if◌then◌else◌, Result, Ok, Err}
use Rattle.std.specs.Int.{int_div_euclid, int_rem_euclid, is_negative}
use Rattle.c_ints.specs.declared.kind.Kind.{Kind}
use Rattle.c_ints.specs.declared.kind.Kind.TheVariants.{I32}
use Rattle.c_ints.specs.declared.int.Int.{Int}
use Rattle.c_ints.specs.declared.operator.BinOp.{BinOp}
use Rattle.c_ints.specs.declared.operator.BinOp.TheVariants.{Add, Sub, Mul, Div, Rem, And, Or, Xor, Shl, Shr, Lt, Gt, Le, Ge, Eq, Ne}
use Rattle.c_ints.specs.declared.operator.SafeOp.{SafeOp}
use Rattle.c_ints.specs.declared.operator.SafeOp.TheVariants.{Add as SafeAdd, Sub as SafeSub, Mul as SafeMul, And as SafeAnd, Or as SafeOr, Xor as SafeXor, Lt as SafeLt, Gt as SafeGt, Le as SafeLe, Ge as SafeGe, Eq as SafeEq, Ne as SafeNe}
use Rattle.c_ints.specs.declared.operator.UnOp.{UnOp}
use Rattle.c_ints.specs.declared.operator.UnOp.TheVariants.{Plus, Negate, Complement, Not}
use Rattle.c_ints.specs.declared.operator.ArithTrap.{ArithTrap}
use Rattle.c_ints.specs.declared.operator.ArithTrap.TheVariants.{Overflow, Divide, Shift}
use Rattle.c_ints.specs.Kind.{width, is_signed, holds, promoted, common_kind}
use Rattle.c_ints.specs.Number.{kind_of, value_of, number, residue, reduced, promoted_number}

-- z is 0
abbrev pub is_zero : ℤ → Bool
is_zero (pos n) = n == 0
is_zero (negsuc n) = false

-- an exact result z at a kind: a signed one must be in range (6.5 paragraph 5), an unsigned one is reduced (6.2.5 paragraph 9)
abbrev pub settled : Kind → ℤ → Result Int ArithTrap
settled k z =
    if is_signed k
    then (if holds k z then Ok (number k z) else Err Overflow)
    else Ok (number k (reduced k z))

-- the int 1 where the test holds, else the int 0 (6.5.8 paragraph 6, 6.5.9 paragraph 3, 6.5.3.3 paragraph 5)
abbrev pub truth : Bool → Int
truth b = number I32 (if b then pos 1 else pos 0)

-- the value whose bits, in two's complement, are those that f makes of the bits of x and y (6.5.10 to 6.5.12)
abbrev pub by_bits : (ℕ → ℕ → ℕ) → Kind → ℤ → ℤ → ℤ
by_bits f k x y = reduced k (pos (f (unsigned_abs (residue k x)) (unsigned_abs (residue k y))))

-- bit i of a value in two's complement: whether the value divided by 2 ^ i, rounded down, is odd (6.2.6.2 paragraph 2)
abbrev pub bit : ℤ → ℕ → ℕ
bit z i = unsigned_abs (int_rem_euclid (int_div_euclid z (pos (2 ^ i))) (pos 2))

-- each bit of z is made of the bits of a and b at its place
abbrev pub EachBit : (ℕ → ℕ → ℕ) → Int → Int → Int → Type 0
EachBit f a b z =
    (i : ℕ) → i < width (kind_of z) → bit (value_of z) i ≡ f (bit (value_of a) i) (bit (value_of b) i)

-- 1 where one of two bits is 1 and the other isn't
abbrev pub differs : ℕ → ℕ → ℕ
differs a b = (a + b) % 2

-- a count of bits by which a number of the kind can be shifted (6.5.7 paragraph 3)
abbrev pub is_count : Kind → ℤ → Bool
is_count k c = not (is_negative c) && int_lt c (pos (width k))

-- 2 to the power c
abbrev pub power : ℤ → ℤ
power c = pos (2 ^ unsigned_abs c)

-- what an operator gives on two values at a kind; a division truncates (6.5.5 paragraph 6), and a right shift
-- rounds down (6.5.7 paragraph 5, a choice where the value is negative)
abbrev pub operate : BinOp → Kind → ℤ → ℤ → Result Int ArithTrap
operate Add k x y = settled k (x +ℤ y)
operate Sub k x y = settled k (x -ℤ y)
operate Mul k x y = settled k (x *ℤ y)
operate Div k x y = if is_zero y then Err Divide else settled k (int_div x y)
operate Rem k x y =
    if is_zero y then Err Divide else (if holds k (int_div x y) then Ok (number k (int_rem x y)) else Err Overflow)
operate And k x y = Ok (number k (by_bits bit_and k x y))
operate Or k x y = Ok (number k (by_bits bit_or k x y))
operate Xor k x y = Ok (number k (by_bits bit_xor k x y))
operate Shl k x y = if is_count k y && not (is_negative x) then settled k (x *ℤ power y) else Err Shift
operate Shr k x y = if is_count k y then Ok (number k (int_div_euclid x (power y))) else Err Shift
operate Lt k x y = Ok (truth (int_lt x y))
operate Gt k x y = Ok (truth (int_lt y x))
operate Le k x y = Ok (truth (int_le x y))
operate Ge k x y = Ok (truth (int_le y x))
operate Eq k x y = Ok (truth (is_zero (x -ℤ y)))
operate Ne k x y = Ok (truth (not (is_zero (x -ℤ y))))

-- a binary operator on two operands at their common kind (6.3.1.8)
abbrev pub balanced_value : BinOp → Int → Int → Result Int ArithTrap
balanced_value op a b =
    let k = common_kind (kind_of a) (kind_of b) in
    operate op k (reduced k (value_of a)) (reduced k (value_of b))

-- a shift, at the kind of its promoted left operand (6.5.7 paragraph 3)
abbrev pub shift_value : BinOp → Int → Int → Result Int ArithTrap
shift_value op a b = operate op (promoted (kind_of a)) (value_of a) (value_of b)

-- a quotient q and a remainder r of a by b, at their common kind (6.5.5 paragraph 6: (a / b) * b + a % b is a)
abbrev pub IsDivision : Int → Int → Int → Int → Type 0
IsDivision a b q r =
    let k = common_kind (kind_of a) (kind_of b) in
    value_of q *ℤ reduced k (value_of b) +ℤ value_of r ≡ reduced k (value_of a)

-- `<<` or `>>`
abbrev pub is_shift : BinOp → Bool
is_shift Shl = true
is_shift Shr = true
is_shift _ = false

-- what a binary operator gives
abbrev pub binary_value : BinOp → Int → Int → Result Int ArithTrap
binary_value op a b = if is_shift op then shift_value op a b else balanced_value op a b

-- `<`, `>`, `<=`, `>=`, `==` or `!=`
abbrev pub is_comparison : BinOp → Bool
is_comparison Lt = true
is_comparison Gt = true
is_comparison Le = true
is_comparison Ge = true
is_comparison Eq = true
is_comparison Ne = true
is_comparison _ = false

-- the kind of a binary operator's value, by the kinds of its operands
abbrev pub binary_kind : BinOp → Kind → Kind → Kind
binary_kind op a b = if is_comparison op then I32 else (if is_shift op then promoted a else common_kind a b)

-- what a unary operator gives on the value of a promoted operand (6.5.3.3); the complement of x is -(x + 1), reduced
abbrev pub operate_on : UnOp → Kind → ℤ → Result Int ArithTrap
operate_on Plus k x = Ok (number k x)
operate_on Negate k x = settled k (neg_ℤ x)
operate_on Complement k x = Ok (number k (reduced k (neg_ℤ (x +ℤ pos 1))))
operate_on Not k x = Ok (truth (is_zero x))

abbrev pub unary_value : UnOp → Int → Result Int ArithTrap
unary_value op a = operate_on op (promoted (kind_of a)) (value_of a)

-- `!`
abbrev pub is_not : UnOp → Bool
is_not Not = true
is_not _ = false

-- the kind of a unary operator's value
abbrev pub unary_kind : UnOp → Kind → Kind
unary_kind op a = if is_not op then I32 else promoted a

-- the operator of the same name among all binary operators
abbrev pub as_binary : SafeOp → BinOp
as_binary SafeAdd = Add
as_binary SafeSub = Sub
as_binary SafeMul = Mul
as_binary SafeAnd = And
as_binary SafeOr = Or
as_binary SafeXor = Xor
as_binary SafeLt = Lt
as_binary SafeGt = Gt
as_binary SafeLe = Le
as_binary SafeGe = Ge
as_binary SafeEq = Eq
as_binary SafeNe = Ne

-- what an operator gives on two values at a kind where an exact result out of range is converted to the kind
abbrev pub operate_wrapped : SafeOp → Kind → ℤ → ℤ → Int
operate_wrapped SafeAdd k x y = number k (reduced k (x +ℤ y))
operate_wrapped SafeSub k x y = number k (reduced k (x -ℤ y))
operate_wrapped SafeMul k x y = number k (reduced k (x *ℤ y))
operate_wrapped SafeAnd k x y = number k (by_bits bit_and k x y)
operate_wrapped SafeOr k x y = number k (by_bits bit_or k x y)
operate_wrapped SafeXor k x y = number k (by_bits bit_xor k x y)
operate_wrapped SafeLt k x y = truth (int_lt x y)
operate_wrapped SafeGt k x y = truth (int_lt y x)
operate_wrapped SafeLe k x y = truth (int_le x y)
operate_wrapped SafeGe k x y = truth (int_le y x)
operate_wrapped SafeEq k x y = truth (is_zero (x -ℤ y))
operate_wrapped SafeNe k x y = truth (not (is_zero (x -ℤ y)))

-- what a binary operator gives that wraps
abbrev pub binary_wrapped : SafeOp → Int → Int → Int
binary_wrapped op a b =
    let k = common_kind (kind_of a) (kind_of b) in
    operate_wrapped op k (reduced k (value_of a)) (reduced k (value_of b))

-- what a unary operator gives that wraps: only `-` can leave its kind
abbrev pub unary_wrapped : UnOp → Int → Int
unary_wrapped Plus a = promoted_number a
unary_wrapped Negate a = let k = promoted (kind_of a) in number k (reduced k (neg_ℤ (value_of a)))
unary_wrapped Complement a = let k = promoted (kind_of a) in number k (reduced k (neg_ℤ (value_of a +ℤ pos 1)))
unary_wrapped Not a = truth (is_zero (value_of a))
