-- What an expression is found to be, and what may be required of it.
use Rattle.std.specs.Prelude.{ℕ, Bool, true, false, not, ◌==◌, ◌&&◌, ◌||◌, List, [], ◌∷◌, Option, Some, None, if◌then◌else◌}
use Rattle.std.specs.Str.{bytes_eq}
use Rattle.c_ints.specs.declared.kind.Kind.{Kind}
use Rattle.c_ints.specs.declared.kind.Kind.TheVariants.{I32}
use Rattle.c_ints.specs.Kind.{width, is_signed}
use Rattle.c_tree.specs.declared.name.CType.{CType}
use Rattle.c_tree.specs.declared.name.CType.TheVariants.{Integer, Handle, Thread}
use Rattle.c_expr_types.specs.declared.fault.TypeKind.{TypeKind}
use Rattle.c_expr_types.specs.declared.fault.TypeKind.TheVariants.{WrongType, NotPlace}
use Rattle.c_expr_types.specs.declared.fault.Fault.{Fault}
use Rattle.c_expr_types.specs.declared.found.Found.{Found}
use Rattle.c_expr_types.specs.declared.found.Found.TheVariants.{Wrong, Place, Value, Zero, Null, Nothing, Designator}
use Rattle.c_expr_types.specs.declared.found.Part.{Part}
use Rattle.c_expr_types.specs.Faults.{fault, unless, first}

-- the first fault of an expression and its parts, if there is one
abbrev pub faults_of : Found → List Fault
faults_of (Wrong f) = f ∷ []
faults_of _ = []

-- what an expression is that has a fault where one is there, and else is as said
abbrev pub unless_wrong : Option Fault → Found → Found
unless_wrong None found = found
unless_wrong (Some f) found = Wrong f

-- what an expression is that has some faults, and else is as said
abbrev pub after : List Fault → Found → Found
after faults found = unless_wrong (first faults) found

-- what an expression is that has one fault by itself
abbrev pub wrong : TypeKind → ℕ → Found
wrong kind place = Wrong (fault kind place)

-- two integer types are one
abbrev pub same_kind : Kind → Kind → Bool
same_kind a b = width a == width b && (if is_signed a then is_signed b else not (is_signed b))

-- two types are one (6.2.7)
abbrev pub same_type : CType → CType → Bool
same_type (Integer a) (Integer b) = same_kind a b
same_type (Handle a) (Handle b) = bytes_eq a.text b.text
same_type Thread Thread = true
same_type _ _ = false

abbrev pub is_integer : CType → Bool
is_integer (Integer k) = true
is_integer _ = false

abbrev pub is_handle : CType → Bool
is_handle (Handle tag) = true
is_handle _ = false

-- an integer or a handle: what can be tested for zero (6.2.5p21)
abbrev pub is_scalar : CType → Bool
is_scalar t = is_integer t || is_handle t

-- `int`
abbrev pub int : CType
int = Integer I32

-- it has a value of a type with a property
abbrev pub has_value : (CType → Bool) → Found → Bool
has_value test (Place t) = test t
has_value test (Value t) = test t
has_value test (Zero k) = test (Integer k)
has_value test _ = false

-- it is `NULL` or a number of value 0
abbrev pub is_null : Found → Bool
is_null (Zero k) = true
is_null Null = true
is_null _ = false

-- it has a value at all
abbrev pub is_value : Found → Bool
is_value found = is_null found || has_value (λ t. true) found

-- it can stand as a statement: all but a bare name that has no value
abbrev pub is_evaluated : Found → Bool
is_evaluated Designator = false
is_evaluated _ = true

-- it is an operand of `==` or `!=`, or a result of `?:`, in some pair
abbrev pub is_comparable : Found → Bool
is_comparable found = is_null found || has_value is_scalar found

-- its value is converted to a type as by assignment (6.5.16.1): from integer to integer, from a handle to the same handle,
-- from `NULL` or 0 to each handle, and from `thrd_t` to `thrd_t`
abbrev pub converts : CType → Found → Bool
converts (Integer k) found = has_value is_integer found
converts (Handle tag) found = is_null found || has_value (same_type (Handle tag)) found
converts Thread found = has_value (same_type Thread) found

-- what is wrong with an expression of which something is required that holds or doesn't: its own faults, or its type
abbrev pub misfit : Bool → ℕ → Found → List Fault
misfit holds at (Wrong f) = f ∷ []
misfit holds at found = unless holds WrongType at

abbrev pub required : Bool → Part → List Fault
required holds part = misfit holds part.place part.found

-- what is wrong with an expression that is to be a place, of whose type something is required: its own faults, its type, or
-- that it is no place
abbrev pub misplaced : Bool → ℕ → Found → List Fault
misplaced holds at (Wrong f) = f ∷ []
misplaced holds at (Place t) = unless holds WrongType at
misplaced holds at found = fault NotPlace at ∷ []

abbrev pub place_required : Bool → Part → List Fault
place_required holds part = misplaced holds part.place part.found

-- the type of a value; none where it has no value or is `NULL`
abbrev pub type_of : Found → Option CType
type_of (Place t) = Some t
type_of (Value t) = Some t
type_of (Zero k) = Some (Integer k)
type_of _ = None

-- the kind of an integer; where there is none, which a fault tells, that of int
abbrev pub kind_of_type : Option CType → Kind
kind_of_type (Some (Integer k)) = k
kind_of_type _ = I32

abbrev pub kind_in : Part → Kind
kind_in part = kind_of_type (type_of part.found)

-- a value of a type, where there is one
abbrev pub value_of_type : Option CType → Found
value_of_type (Some t) = Value t
value_of_type None = Nothing
