-- The types of expressions (6.5), rule by rule. An expression has a fault only where its parts have none; what is required
-- of a part is a matter of that part.
use Rattle.std.specs.Prelude.{ℕ, Bool, true, false, ◌==◌, ◌&&◌, List, [], ◌∷◌, ◌++◌, length, flat_map, find, Option, Some, None, option_map, option_and_then, is_some, if◌then◌else◌}
use Rattle.std.specs.Str.{bytes_eq}
use Rattle.c_ints.specs.declared.int.Int.{Int}
use Rattle.c_ints.specs.declared.operator.BinOp.{BinOp}
use Rattle.c_ints.specs.declared.operator.BinOp.TheVariants.{Div, Rem, Shl, Shr, Eq, Ne}
use Rattle.c_ints.specs.declared.operator.UnOp.{UnOp}
use Rattle.c_ints.specs.Kind.{common_kind}
use Rattle.c_ints.specs.Number.{kind_of, value_of}
use Rattle.c_ints.specs.Arithmetic.{is_zero, is_not, binary_kind, unary_kind}
use Rattle.c_tree.specs.BareExpr.{Bytes}
use Rattle.c_tree.specs.declared.name.CType.{CType}
use Rattle.c_tree.specs.declared.name.CType.TheVariants.{Integer, Handle, Thread}
use Rattle.c_tree.specs.declared.expr.Expr.{Expr}
use Rattle.c_tree.specs.declared.expr.Expr.TheFolds.{fold-Expr}
use Rattle.c_tree.specs.declared.expr.ExprNode.{ExprNode}
use Rattle.c_tree.specs.declared.expr.ExprNode.TheVariants.{Number, Character, Null, Success, Error, Variable, Unary, Step, Cast, Binary, And, Or, Choice, Assign, Update, Call, Element, Arrow, Dot, Print, Calloc, Free, Create, Join, JoinInto, InitMutex, Lock, Unlock}
use Rattle.c_tree.specs.declared.def.Binding.{Binding}
use Rattle.c_tree.specs.declared.def.Def.{Def}
use Rattle.c_expr_types.specs.declared.fault.TypeKind.TheVariants.{UnknownName, WrongType, WrongCount, BadFormat, UnknownField}
use Rattle.c_expr_types.specs.declared.fault.Fault.{Fault}
use Rattle.c_expr_types.specs.Faults.{fault, unless}
use Rattle.c_definitions.specs.Lookup.{Names, Meaning, meaning_of, member, members_of, is_known, is_tag}
use Rattle.c_definitions.specs.Lookup.Meaning.{AVariable, AnArray, AFunction, AMutex}
use Rattle.c_definitions.specs.declared.lookup.Position.{Position}
use Rattle.c_definitions.specs.declared.lookup.Position.TheVariants.{InFunction, InInitialiser}
use Rattle.c_expr_types.specs.declared.found.Found.{Found}
use Rattle.c_expr_types.specs.declared.found.Part.{Part}
use Rattle.c_expr_types.specs.Found.{faults_of, after, wrong, same_type, is_integer, is_handle, is_scalar, int, has_value, is_value, is_evaluated, is_comparable, converts, required, place_required, type_of, kind_of_type, kind_in, value_of_type}
use Rattle.c_expr_types.specs.declared.found.Found.TheVariants.{Place, Value, Zero, Null as NullValue, Nothing, Designator}
use Rattle.c_expr_types.specs.Formats.{fits_format}

-- What is required of the parts of an expression.

-- a condition is an integer or a handle; NULL by itself is none (6.5.13p2, 6.8.4.1p1)
abbrev pub is_condition : Found → Bool
is_condition found = has_value is_scalar found

-- the value is converted to a type; to one of an unknown tag each value is, so that the tag is reported
abbrev pub fits : List Def → CType → Found → Bool
fits text t found = if is_known text t then converts t found else is_value found

-- `==` or `!=`
abbrev pub is_equality : BinOp → Bool
is_equality Eq = true
is_equality Ne = true
is_equality _ = false

-- what an operand of a binary operator is: an integer, or for `==` and `!=` also a handle or NULL (6.5.5 to 6.5.12)
abbrev pub is_operand : BinOp → Found → Bool
is_operand op found = if is_equality op then is_comparable found else has_value is_integer found

-- what the operand of a unary operator is: an integer, of `!` a condition (6.5.3.3p1)
abbrev pub is_unary_operand : UnOp → Found → Bool
is_unary_operand op found = if is_not op then is_condition found else has_value is_integer found

-- what is assigned to a place is converted to its type (6.5.16.1p2); to what is no place each value is assigned, so that
-- the place is reported
abbrev pub is_assigned : Found → Found → Bool
is_assigned (Place t) found = converts t found
is_assigned _ found = is_value found

-- the arguments of a call, each converted to its parameter's type (6.5.2.2p7)
abbrev pub conversion_faults : List CType → List Part → List Fault
conversion_faults (t ∷ types) (argument ∷ arguments) = required (converts t argument.found) argument ++ conversion_faults types arguments
conversion_faults _ _ = []

-- the arguments, each only to have a value
abbrev pub value_faults : List Part → List Fault
value_faults arguments = flat_map (λ a. required (is_value a.found) a) arguments

-- the arguments where the parameters are known and as many; else each has a value, so that the name or the number is reported
abbrev pub argument_faults : Option Meaning → List Part → List Fault
argument_faults (Some (AFunction result types)) arguments =
    if length types == length arguments then conversion_faults types arguments else value_faults arguments
argument_faults _ arguments = value_faults arguments

abbrev pub is_thread : CType → Bool
is_thread t = same_type Thread t

abbrev pub is_int : CType → Bool
is_int t = same_type int t

-- the arguments of a `printf`, each by itself; whether they fit is reported at the format
abbrev pub print_faults : List Part → List Fault
print_faults arguments = flat_map (λ a. required (is_evaluated a.found) a) arguments

-- the type of the parameter of a function that a thread can run: one that returns int and has one parameter of an integer
-- or handle type
abbrev pub thread_parameter : Option Meaning → Option CType
thread_parameter (Some (AFunction (Some result) (t ∷ []))) = if is_int result && is_scalar t then Some t else None
thread_parameter _ = None

-- what a thread is started with is converted to that type
abbrev pub is_thread_argument : Option CType → Found → Bool
is_thread_argument (Some t) found = converts t found
is_thread_argument None found = is_value found

-- the faults of the parts of an expression. A called, indexed or spawned name is no part
abbrev pub parts : Names → ExprNode Part → List Fault
parts names (Unary op a) = required (is_unary_operand op a.found) a
parts names (Step op a) = place_required (has_value is_integer a.found) a
parts names (Cast t a) = required (fits names.text t a.found) a
parts names (Binary op a b) = required (is_operand op a.found) a ++ required (is_operand op b.found) b
parts names (And a b) = required (is_condition a.found) a ++ required (is_condition b.found) b
parts names (Or a b) = required (is_condition a.found) a ++ required (is_condition b.found) b
parts names (Choice a b c) =
    required (is_condition a.found) a ++ (required (is_comparable b.found) b ++ required (is_comparable c.found) c)
parts names (Assign a b) = place_required true a ++ required (is_assigned a.found b.found) b
parts names (Update op a b) =
    place_required (has_value is_integer a.found) a ++ required (has_value is_integer b.found) b
parts names (Call name arguments) = argument_faults (meaning_of names name) arguments
parts names (Element name a) = required (has_value is_integer a.found) a
parts names (Arrow a field) = required (has_value is_handle a.found) a
parts names (Dot a field) = required (is_value a.found) a
parts names (Print place format arguments) = print_faults arguments
parts names (Free a) = required (has_value is_handle a.found) a
parts names (Create a name b) =
    place_required (has_value is_thread a.found) a
    ++ required (is_thread_argument (thread_parameter (meaning_of names name.text)) b.found) b
parts names (Join a) = required (has_value is_thread a.found) a
parts names (JoinInto a b) = required (has_value is_thread a.found) a ++ place_required (has_value is_int b.found) b
parts names _ = []

-- What an expression is whose parts have no faults.

-- a number: of value 0 each handle takes it too
abbrev pub number_type : Int → Found
number_type n = if is_zero (value_of n) then Zero (kind_of n) else Value (Integer (kind_of n))

-- a name by itself (6.5.1)
abbrev pub name_type : Option Meaning → ℕ → Found
name_type None at = wrong UnknownName at
name_type (Some (AVariable t)) at = Place t
name_type (Some _) at = Designator

-- an element (6.5.2.1): of a name that is no array's it is of a wrong type
abbrev pub element_type : Option Meaning → ℕ → Found
element_type None at = wrong UnknownName at
element_type (Some (AnArray t)) at = Place t
element_type (Some _) at = wrong WrongType at

-- a call (6.5.2.2) with a number of arguments
abbrev pub call_type : Option Meaning → ℕ → ℕ → Found
call_type None at count = wrong UnknownName at
call_type (Some (AFunction result types)) at count = if length types == count then value_of_type result else wrong WrongCount at
call_type (Some _) at count = wrong WrongType at

-- a field (6.5.2.3) of a handle's struct
abbrev pub field_of : List Def → Option CType → Bytes → Option CType
field_of text (Some (Handle tag)) name = option_and_then (λ members. member members name) (members_of text tag.text)
field_of text _ name = None

abbrev pub field_type : Option CType → ℕ → Found
field_type (Some t) at = Place t
field_type None at = wrong UnknownField at

-- the second is converted to the type of the first
abbrev pub follows : Option CType → Found → Bool
follows (Some t) found = converts t found
follows None found = false

-- the type at which two operands of `==` or `!=`, or two results of `?:`, meet: the common type of integers, or that of a
-- handle, which is the other's too, or the other is NULL or 0 (6.5.9p2, 6.5.15p3); none where they don't
abbrev pub meeting : Found → Found → Option CType
meeting a b =
    if has_value is_integer a && has_value is_integer b
    then Some (Integer (common_kind (kind_of_type (type_of a)) (kind_of_type (type_of b))))
    else (if has_value is_handle a && follows (type_of a) b
    then type_of a
    else (if has_value is_handle b && follows (type_of b) a then type_of b else None))

-- an expression with a value, where its operands meet
abbrev pub where_met : Option CType → ℕ → Found → Found
where_met (Some t) at found = found
where_met None at found = wrong WrongType at

-- `a op b` (6.5.5 to 6.5.12)
abbrev pub binary : BinOp → ℕ → Part → Part → Found
binary op at a b =
    let value : Found = Value (Integer (binary_kind op (kind_in a) (kind_in b))) in
    if is_equality op then where_met (meeting a.found b.found) at value else value

-- `a ? b : c` (6.5.15)
abbrev pub choice : ℕ → Part → Part → Found
choice at b c = where_met (meeting b.found c.found) at (value_of_type (meeting b.found c.found))

-- `thrd_create` of a function: a name that is none that a thread can run is of a wrong type
abbrev pub spawn_type : Option Meaning → ℕ → ℕ → Found
spawn_type None name at = wrong UnknownName name
spawn_type (Some meaning) name at = if is_some (thread_parameter (Some meaning)) then Value int else wrong WrongType at

-- a call on a mutex: another name is of a wrong type
abbrev pub mutex_call_type : Option Meaning → ℕ → ℕ → Found
mutex_call_type None name at = wrong UnknownName name
mutex_call_type (Some AMutex) name at = Value int
mutex_call_type (Some _) name at = wrong WrongType at

-- the fault of a type whose tag isn't declared
abbrev pub unknown_tag : List Def → CType → List Fault
unknown_tag text (Handle tag) = unless (is_tag text tag.text) UnknownName tag.place
unknown_tag text t = []

-- what an expression at a place is, by its parts
abbrev pub own : Names → ℕ → ExprNode Part → Found
own names at (Number n) = number_type n
own names at (Character n) = Value (Integer (kind_of n))
own names at Null = NullValue
own names at Success = Value int
own names at Error = Value int
own names at (Variable name) = name_type (meaning_of names name) at
own names at (Unary op a) = Value (Integer (unary_kind op (kind_in a)))
own names at (Step op a) = value_of_type (type_of a.found)
own names at (Cast t a) = after (unknown_tag names.text t) (Value t)
own names at (Binary op a b) = binary op at a b
own names at (And a b) = Value int
own names at (Or a b) = Value int
own names at (Choice a b c) = choice at b c
own names at (Assign a b) = value_of_type (type_of a.found)
own names at (Update op a b) = value_of_type (type_of a.found)
own names at (Call name arguments) = call_type (meaning_of names name) at (length arguments)
own names at (Element name a) = element_type (meaning_of names name) at
own names at (Arrow a name) = field_type (field_of names.text (type_of a.found) name.text) name.place
own names at (Dot a name) = wrong WrongType at
own names at (Print place format arguments) = if fits_format format arguments then Nothing else wrong BadFormat place
own names at (Calloc tag) = if is_tag names.text tag.text then Value (Handle tag) else wrong UnknownName tag.place
own names at (Free a) = Nothing
own names at (Create a name b) = spawn_type (meaning_of names name.text) name.place at
own names at (Join a) = Value int
own names at (JoinInto a b) = Value int
own names at (InitMutex name) = mutex_call_type (meaning_of names name.text) name.place at
own names at (Lock name) = mutex_call_type (meaning_of names name.text) name.place at
own names at (Unlock name) = mutex_call_type (meaning_of names name.text) name.place at

-- Initialisers of globals.

-- an operator that has no trap where it wraps: all but `/ % << >>`
abbrev pub is_safe : BinOp → Bool
is_safe Div = false
is_safe Rem = false
is_safe Shl = false
is_safe Shr = false
is_safe _ = true

-- the forms that an initialiser of a global may have: literals, NULL, casts, `+ - * & | ^ ~ !`, comparisons and `?:`
abbrev pub is_initialising : ExprNode Part → Bool
is_initialising (Number n) = true
is_initialising (Character n) = true
is_initialising Null = true
is_initialising (Unary op a) = true
is_initialising (Cast t a) = true
is_initialising (Binary op a b) = is_safe op
is_initialising (Choice a b c) = true
is_initialising _ = false

-- an expression, where its form is allowed; else it is of a wrong type beside what else is wrong with it
abbrev pub where_allowed : Bool → ℕ → Found → Found
where_allowed allowed at found = after (if allowed then [] else fault WrongType at ∷ faults_of found) found

abbrev pub is_allowed : Position → Bool → Bool
is_allowed InFunction initialising = true
is_allowed InInitialiser initialising = initialising

-- Expressions whole.

-- an expression of its parts
abbrev pub part : Names → ℕ → ExprNode Part → Part
part names at node = record {
  place = at;
  found = after (parts names node) (where_allowed (is_allowed names.position (is_initialising node)) at (own names at node));
}

-- an expression
abbrev pub infer : Names → Expr → Part
infer names = fold-Expr Part (λ e. part names e.place e.node)
