-- Faults of types, and which of them is reported.
use Rattle.std.specs.Prelude.{ℕ, Bool, nat_lt, ◌==◌, ◌&&◌, ◌||◌, List, [], ◌∷◌, Option, Some, None, if◌then◌else◌}
use Rattle.c_expr_types.specs.declared.fault.Fault.{Fault}
use Rattle.c_expr_types.specs.declared.fault.TypeKind.{TypeKind}
use Rattle.c_expr_types.specs.declared.fault.TypeKind.TheVariants.{UnknownName, DeclaredTwice, WrongType, WrongCount, NotPlace, OutsideLoop, NoMain, BadFormat, LeavesTransaction, OverLimit, UnknownField, BadTransformer}

-- the fault of a kind at a place, a byte counted from 0
abbrev pub fault : TypeKind → ℕ → Fault
fault kind place = record { kind = kind; place = place }

-- the fault, where a test fails
abbrev pub unless : Bool → TypeKind → ℕ → List Fault
unless test kind place = if test then [] else fault kind place ∷ []

-- the number of a kind
abbrev pub number_of : TypeKind → ℕ
number_of UnknownName = 1
number_of DeclaredTwice = 2
number_of WrongType = 3
number_of WrongCount = 4
number_of NotPlace = 5
number_of OutsideLoop = 6
number_of NoMain = 7
number_of BadFormat = 8
number_of LeavesTransaction = 9
number_of OverLimit = 10
number_of UnknownField = 11
number_of BadTransformer = 12

-- a comes before b: its place is less, or they are at one place and its number is less
abbrev pub is_before : Fault → Fault → Bool
is_before a b =
    nat_lt a.place b.place || (a.place == b.place && nat_lt (number_of a.kind) (number_of b.kind))

-- the earlier of a fault and another that may be there
abbrev pub earlier : Fault → Option Fault → Fault
earlier a None = a
earlier a (Some b) = if is_before b a then b else a

-- the first of two that may be there
abbrev pub sooner : Option Fault → Option Fault → Option Fault
sooner None b = b
sooner (Some a) b = Some (earlier a b)

-- the first of some faults: that with the least place, and among these with the least number
abbrev pub first : List Fault → Option Fault
first [] = None
first (a ∷ more) = sooner (Some a) (first more)
