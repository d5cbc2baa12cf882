-- The values of initialisers and transformers. Their operators wrap, so they have no trap.
use Rattle.std.specs.Prelude.{ℕ, ◌-◌, Bool, not, List, [], ◌∷◌, ◌++◌, map, length, take, replicate, unsigned_abs, Option, Some, None, unwrap_or, if◌then◌else◌}
use Rattle.std.specs.Option.{option_map_or}
use Rattle.c_ints.specs.declared.int.Int.{Int}
use Rattle.c_ints.specs.declared.operator.BinOp.{BinOp}
use Rattle.c_ints.specs.declared.operator.BinOp.TheVariants.{Add, Sub, Mul, And, Or, Xor, Lt, Gt, Le, Ge, Eq, Ne}
use Rattle.c_ints.specs.declared.operator.SafeOp.{SafeOp}
use Rattle.c_ints.specs.declared.operator.SafeOp.TheVariants.{Add as SafeAdd, Sub as SafeSub, Mul as SafeMul, And as SafeAnd, Or as SafeOr, Xor as SafeXor, Lt as SafeLt, Gt as SafeGt, Le as SafeLe, Ge as SafeGe, Eq as SafeEq, Ne as SafeNe}
use Rattle.c_ints.specs.declared.operator.UnOp.{UnOp}
use Rattle.c_ints.specs.Number.{kind_of, value_of, converted}
use Rattle.c_ints.specs.Kind.{common_kind}
use Rattle.c_ints.specs.Arithmetic.{truth, binary_wrapped, unary_wrapped}
use Rattle.c_tree.specs.BareExpr.{Bytes, BareType, BareExpr}
use Rattle.c_tree.specs.BareExpr as e
use Rattle.c_tree.specs.BareDef.{BareDef, Global, Array}
use Rattle.c_semantics.specs.Values.{Value, Number, Reference, int_of, zero_of, converted_to, is_true, compared}

-- what the word `old` means: a value, or the fields of an object
pub record Old : Type 0 where
  pub whole : Value
  pub field : Bytes → Value

-- in an initialiser it means nothing
abbrev pub no_old : Old
no_old = record { whole = int_of 0; field = λ name. int_of 0 }

-- the operators that an initialiser or a transformer can have
abbrev pub safe : BinOp → Option SafeOp
safe Add = Some SafeAdd
safe Sub = Some SafeSub
safe Mul = Some SafeMul
safe And = Some SafeAnd
safe Or = Some SafeOr
safe Xor = Some SafeXor
safe Lt = Some SafeLt
safe Gt = Some SafeGt
safe Le = Some SafeLe
safe Ge = Some SafeGe
safe Eq = Some SafeEq
safe Ne = Some SafeNe
safe _ = None

-- the object of a handle; the int 0 is the null handle
abbrev pub object_of : Value → Option ℕ
object_of (Reference object) = object
object_of _ = None

-- a binary operator; where one side is a handle the other is one too, or 0
abbrev pub wrapped : BinOp → Value → Value → Value
wrapped op (Number a) (Number b) = option_map_or (λ f. Number (binary_wrapped f a b)) (safe op) (int_of 0)
wrapped op a b = compared op (object_of a) (object_of b)

-- a unary operator; of a handle there is `!` alone
abbrev pub wrapped_unary : UnOp → Value → Value
wrapped_unary op (Number a) = Number (unary_wrapped op a)
wrapped_unary op v = Number (truth (not (is_true v)))

-- one of two values, at their common type (6.5.15 paragraphs 5 and 6)
abbrev pub chosen : Bool → Value → Value → Value
chosen first (Number a) (Number b) = Number (converted (if first then a else b) (common_kind (kind_of a) (kind_of b)))
chosen first a b = Reference (object_of (if first then a else b))

-- the value of an expression
abbrev pub constant : Old → BareExpr → Value
constant old (e.Number n) = Number n
constant old (e.Character n) = Number n
constant old (e.Variable name) = old.whole
constant old (e.Dot a name) = old.field name
constant old (e.Unary op a) = wrapped_unary op (constant old a)
constant old (e.Cast to a) = converted_to to (constant old a)
constant old (e.Binary op a b) = wrapped op (constant old a) (constant old b)
constant old (e.Choice c a b) = chosen (is_true (constant old c)) (constant old a) (constant old b)
constant old _ = int_of 0

-- the value with which a variable of a type begins
abbrev pub initial : BareType → Option BareExpr → Value
initial type None = zero_of type
initial type (Some e) = converted_to type (constant no_old e)

-- how many elements an array has
abbrev pub elements : Int → ℕ
elements n = unsigned_abs (value_of n)

-- a list of cells cut or filled with zeros to a length
abbrev pub filled : BareType → ℕ → List Value → List Value
filled type n cells = take n cells ++ replicate (n - length cells) (zero_of type)

-- the cells with which a global variable or an array begins (6.7.9): after its list an array has zeros
abbrev pub initial_cells : BareDef → List Value
initial_cells (Global d) = initial d.declared d.initial ∷ []
initial_cells (Array type name n values) =
    filled type (elements n) (map (λ v. initial type (Some v)) (unwrap_or values []))
initial_cells _ = []
