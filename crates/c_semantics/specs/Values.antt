-- Values at run time, and what the private operators do with them.
use Rattle.std.specs.Prelude.{ℕ, ◌==◌, Bool, true, false, not, pos, Option, Some, None, Result, Ok, Err}
use Rattle.c_ints.specs.declared.kind.Kind.TheVariants.{I32}
use Rattle.c_ints.specs.declared.int.Int.{Int}
use Rattle.c_ints.specs.declared.operator.ArithTrap.{ArithTrap}
use Rattle.c_ints.specs.declared.operator.BinOp.{BinOp}
use Rattle.c_ints.specs.declared.operator.BinOp.TheVariants.{Eq, Ne}
use Rattle.c_ints.specs.declared.operator.UnOp.{UnOp}
use Rattle.c_ints.specs.Number.{number, value_of, converted}
use Rattle.c_ints.specs.Arithmetic.{is_zero, truth, binary_value, unary_value}
use Rattle.c_tree.specs.BareExpr.{BareType, Integer, Handle, Thread}

-- what a `thrd_t` names: a slot, and the thread that was started in it
pub record ThreadRef : Type 0 where
  pub slot : ℕ
  pub serial : ℕ

-- a value: an integer with its kind, a handle (none is null) with the number of its object, a `thrd_t` (none names no thread)
pub data Value : Type 0 where
  Number : Int → Value
  Reference : Option ℕ → Value
  Started : Option ThreadRef → Value

-- the int n
abbrev pub int_of : ℕ → Value
int_of n = Number (number I32 (pos n))

-- zero, null, or no thread: how a variable of a type begins
abbrev pub zero_of : BareType → Value
zero_of (Integer k) = Number (number k (pos 0))
zero_of (Handle tag) = Reference None
zero_of Thread = Started None

-- a value converted to a type as by assignment (6.5.16.1); the int 0 becomes the null handle, and nothing else comes
-- to a handle in a text that types
abbrev pub converted_to : BareType → Value → Value
converted_to (Integer k) (Number n) = Number (converted n k)
converted_to (Handle tag) (Reference object) = Reference object
converted_to Thread (Started thread) = Started thread
converted_to type _ = zero_of type

-- whether a condition holds: an integer that isn't 0, a handle that isn't null (6.8.4.1, 6.8.5)
abbrev pub is_true : Value → Bool
is_true (Number n) = not (is_zero (value_of n))
is_true (Reference None) = false
is_true (Reference (Some _)) = true
is_true (Started _) = false

-- the same object, or both null
abbrev pub same_object : Option ℕ → Option ℕ → Bool
same_object None None = true
same_object (Some a) (Some b) = a == b
same_object _ _ = false

-- a comparison of two handles
abbrev pub compared : BinOp → Option ℕ → Option ℕ → Value
compared Eq a b = Number (truth (same_object a b))
compared Ne a b = Number (truth (not (same_object a b)))
compared _ a b = int_of 0

-- an integer as a value
abbrev pub as_value : Result Int ArithTrap → Result Value ArithTrap
as_value (Ok n) = Ok (Number n)
as_value (Err trap) = Err trap

-- a binary operator on two values
abbrev pub binary_result : BinOp → Value → Value → Result Value ArithTrap
binary_result op (Number a) (Number b) = as_value (binary_value op a b)
binary_result op (Reference a) (Reference b) = Ok (compared op a b)
binary_result op _ _ = Ok (int_of 0)

-- a unary operator on a value; of a handle there is `!` alone
abbrev pub unary_result : UnOp → Value → Result Value ArithTrap
unary_result op (Number a) = as_value (unary_value op a)
unary_result op v = Ok (Number (truth (not (is_true v))))
