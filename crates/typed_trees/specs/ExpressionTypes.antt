-- The types of resolved expressions (6.5). The type of an expression is a function of its tree, of the definitions and of
-- the variables in scope; each conversion is a node of the tree, so where one is left out, types differ and the tree isn't
-- typed.
use Rattle.std.specs.Prelude.{◌≡◌, ◌⊎◌, Bool, true, false, IsTrue, List, [], ◌∷◌, map, Option, Some, None}
use Rattle.std.specs.Option.{is_some}
use Rattle.c_ints.specs.declared.kind.Kind.{Kind}
use Rattle.c_ints.specs.declared.operator.BinOp.{BinOp}
use Rattle.c_ints.specs.declared.operator.BinOp.TheVariants.{Eq, Ne}
use Rattle.c_ints.specs.declared.operator.UnOp.{UnOp}
use Rattle.c_ints.specs.Kind.{promoted}
use Rattle.c_ints.specs.Number.{kind_of, value_of}
use Rattle.c_ints.specs.Arithmetic.{is_zero, is_not, binary_kind, unary_kind}
use Rattle.c_format.specs.declared.reading.Reading.TheVariants.{Text}
use Rattle.c_format.specs.Formats.{kinds}
use Rattle.c_tree.specs.BareExpr.{BareType, Integer, Handle, Thread}
use Rattle.c_tree.specs.BareDef.{BareDef, Struct, Mutex, Function, Global, Array}
use Rattle.c_semantics.specs.Names.{struct_name}
use Rattle.c_semantics.specs.Texts.{Definitions, int, global_type, result_type, parameters_of, members_of, bound, bound_type}
use Rattle.c_semantics.specs.Resolved.{Expression, Expressions, Place, Constant, Read, Unary, Binary, Convert, And, Or, Choice, Assign, Update, Postfix, Call, Print, New, Free, Create, Join, JoinInto, InitMutex, Lock, Unlock, NoExpressions, ExpressionThen, Local, Global as GlobalPlace, Element, Field}
use Rattle.c_semantics.specs.Resolution.{kind}
use Rattle.typed_trees.specs.ValueTypes.{Environment, in_scope}

-- What a definition is.

abbrev pub IsVariable : Option BareDef → Type 0
IsVariable (Some (Global d)) = Unit {0}
IsVariable _ = ⊥

abbrev pub IsArray : Option BareDef → Type 0
IsArray (Some (Array element name length initial)) = Unit {0}
IsArray _ = ⊥

abbrev pub IsFunction : Option BareDef → Type 0
IsFunction (Some (Function result name parameters body)) = Unit {0}
IsFunction _ = ⊥

abbrev pub IsMutex : Option BareDef → Type 0
IsMutex (Some (Mutex name)) = Unit {0}
IsMutex _ = ⊥

abbrev pub IsStruct : Option BareDef → Type 0
IsStruct (Some (Struct tag members)) = Unit {0}
IsStruct _ = ⊥

-- the types of a function's parameters
abbrev pub parameter_types : Option BareDef → List BareType
parameter_types d = map (λ p. p.declared) (parameters_of d)

-- a function that a thread can run on a value of a type: it has one parameter, of that type, and returns int
abbrev pub Runs : Option BareDef → BareType → Type 0
Runs d t = IsFunction d × (parameter_types d ≡ t ∷ []) × (result_type d ≡ int)

-- Types by themselves.

abbrev pub IsInteger : BareType → Type 0
IsInteger (Integer k) = Unit {0}
IsInteger _ = ⊥

-- an integer or a handle: what can be tested for zero (6.2.5 paragraph 21)
abbrev pub IsScalar : BareType → Type 0
IsScalar Thread = ⊥
IsScalar _ = Unit {0}

-- `==` or `!=`
abbrev pub is_equality : BinOp → Bool
is_equality Eq = true
is_equality Ne = true
is_equality _ = false

-- two operands of a binary operator: integers, or of an equality two handles of one struct (6.5.5 to 6.5.12)
abbrev pub AreOperands : BinOp → BareType → BareType → Type 0
AreOperands op (Integer a) (Integer b) = Unit {0}
AreOperands op (Handle a) (Handle b) = IsTrue (is_equality op) × (a ≡ b)
AreOperands op _ _ = ⊥

-- the operand of a unary operator: an integer, of `!` a scalar (6.5.3.3 paragraph 1)
abbrev pub IsScalarIf : Bool → BareType → Type 0
IsScalarIf true t = IsScalar t
IsScalarIf false t = IsInteger t

abbrev pub IsOperand : UnOp → BareType → Type 0
IsOperand op t = IsScalarIf (is_not op) t

-- a value of the second type is converted to the first as by assignment (6.5.16.1 paragraph 1); the null pointer constant
-- apart
abbrev pub Becomes : BareType → BareType → Type 0
Becomes (Integer k) (Integer j) = Unit {0}
Becomes (Handle a) (Handle b) = b ≡ a
Becomes Thread Thread = Unit {0}
Becomes _ _ = ⊥

-- an integer constant of value 0, which becomes the null handle (6.3.2.3 paragraph 3)
abbrev pub IsNull : Expression → Type 0
IsNull (Constant n) = IsTrue (is_zero (value_of n))
IsNull _ = ⊥

abbrev pub IsNullFor : BareType → Expression → Type 0
IsNullFor (Handle tag) e = IsNull e
IsNullFor _ e = ⊥

-- the arguments of a `printf`: integers that are promoted to the kinds that the format takes (7.21.6.1)
abbrev pub ArePrinted : List Kind → List BareType → Type 0
ArePrinted [] [] = Unit {0}
ArePrinted (k ∷ ks) (Integer j ∷ ts) = (promoted j ≡ k) × ArePrinted ks ts
ArePrinted _ _ = ⊥

abbrev pub FitFormat : Option (List Kind) → List BareType → Type 0
FitFormat None types = ⊥
FitFormat (Some ks) types = ArePrinted ks types

-- The type of an expression that is typed.

-- of what is in a place
abbrev pub place_type : Definitions → Environment → Place → BareType
place_type look env (Local name) = bound_type (in_scope env) name
place_type look env (GlobalPlace name) = global_type (look name)
place_type look env (Element name index) = global_type (look name)
place_type look env (Field tag handle name) = bound_type (members_of (look (struct_name tag))) name

-- an expression without a value has the type int, since it leaves the int 0
abbrev pub type_of : Definitions → Environment → Expression → BareType
type_of look env (Constant n) = Integer (kind_of n)
type_of look env (Read p) = place_type look env p
type_of look env (Unary op a) = Integer (unary_kind op (kind (type_of look env a)))
type_of look env (Binary op a b) = Integer (binary_kind op (kind (type_of look env a)) (kind (type_of look env b)))
type_of look env (Convert type a) = type
type_of look env (And a b) = int
type_of look env (Or a b) = int
type_of look env (Choice c a b) = type_of look env a
type_of look env (Assign p e) = place_type look env p
type_of look env (Update type op p e) = type
type_of look env (Postfix type op p) = type
type_of look env (Call name arguments) = result_type (look name)
type_of look env (Print format arguments) = int
type_of look env (New tag) = Handle tag
type_of look env (Free tag e) = int
type_of look env (Create p name e) = int
type_of look env (Join e) = int
type_of look env (JoinInto e p) = int
type_of look env (InitMutex name) = int
type_of look env (Lock name) = int
type_of look env (Unlock name) = int

-- of arguments
abbrev pub types_of : Definitions → Environment → Expressions → List BareType
types_of look env NoExpressions = []
types_of look env (ExpressionThen e es) = type_of look env e ∷ types_of look env es

-- of the parts of a place: its index, or its handle
abbrev pub part_types : Definitions → Environment → Place → List BareType
part_types look env (Local name) = []
part_types look env (GlobalPlace name) = []
part_types look env (Element name index) = type_of look env index ∷ []
part_types look env (Field tag handle name) = type_of look env handle ∷ []

-- Expressions that are typed.

abbrev mutual
  pub IsTyped : Definitions → Environment → Expression → Type 0
  IsTyped look env (Constant n) = Unit {0}
  IsTyped look env (Read p) = IsPlaced look env p
  IsTyped look env (Unary op a) = IsTyped look env a × IsOperand op (type_of look env a)
  IsTyped look env (Binary op a b) =
      IsTyped look env a × IsTyped look env b × AreOperands op (type_of look env a) (type_of look env b)
  IsTyped look env (Convert type a) = IsTyped look env a × (Becomes type (type_of look env a) ⊎ IsNullFor type a)
  IsTyped look env (And a b) =
      IsTyped look env a × IsTyped look env b × IsScalar (type_of look env a) × IsScalar (type_of look env b)
  IsTyped look env (Or a b) =
      IsTyped look env a × IsTyped look env b × IsScalar (type_of look env a) × IsScalar (type_of look env b)
  IsTyped look env (Choice c a b) =
      IsTyped look env c × IsTyped look env a × IsTyped look env b
      × IsScalar (type_of look env c) × (type_of look env b ≡ type_of look env a)
  IsTyped look env (Assign p e) = IsPlaced look env p × IsTyped look env e × (type_of look env e ≡ place_type look env p)
  IsTyped look env (Update type op p e) =
      IsPlaced look env p × IsTyped look env e × (type ≡ place_type look env p)
      × IsInteger type × IsInteger (type_of look env e)
  IsTyped look env (Postfix type op p) = IsPlaced look env p × (type ≡ place_type look env p) × IsInteger type
  IsTyped look env (Call name arguments) =
      AreTyped look env arguments × IsFunction (look name)
      × (types_of look env arguments ≡ parameter_types (look name))
  IsTyped look env (Print format arguments) =
      AreTyped look env arguments × FitFormat (kinds Text format) (types_of look env arguments)
  IsTyped look env (New tag) = IsStruct (look (struct_name tag))
  IsTyped look env (Free tag e) = IsTyped look env e × (type_of look env e ≡ Handle tag)
  IsTyped look env (Create p name e) =
      IsPlaced look env p × IsTyped look env e × (place_type look env p ≡ Thread) × Runs (look name) (type_of look env e)
  IsTyped look env (Join e) = IsTyped look env e × (type_of look env e ≡ Thread)
  IsTyped look env (JoinInto e p) =
      IsTyped look env e × IsPlaced look env p × (type_of look env e ≡ Thread) × (place_type look env p ≡ int)
  IsTyped look env (InitMutex name) = IsMutex (look name)
  IsTyped look env (Lock name) = IsMutex (look name)
  IsTyped look env (Unlock name) = IsMutex (look name)

  pub AreTyped : Definitions → Environment → Expressions → Type 0
  AreTyped look env NoExpressions = Unit {0}
  AreTyped look env (ExpressionThen e es) = IsTyped look env e × AreTyped look env es

  -- a place: its name is that of a variable, an array or a field
  pub IsPlaced : Definitions → Environment → Place → Type 0
  IsPlaced look env (Local name) = IsTrue (is_some (bound (in_scope env) name))
  IsPlaced look env (GlobalPlace name) = IsVariable (look name)
  IsPlaced look env (Element name index) =
      IsTyped look env index × IsInteger (type_of look env index) × IsArray (look name)
  IsPlaced look env (Field tag handle name) =
      IsTyped look env handle × (type_of look env handle ≡ Handle tag)
      × IsTrue (is_some (bound (members_of (look (struct_name tag))) name))
