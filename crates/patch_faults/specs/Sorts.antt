-- Names that are of one sort in one text and of another in the next. Struct names are a space of their own.
use Rattle.std.specs.Prelude.{ℕ, ◌==◌, Bool, false, not, List, find, Option, Some}
use Rattle.c_tree.specs.BareExpr.{Bytes}
use Rattle.c_tree.specs.BareDef.{BareDef, Mutex, Function, Global, Array}
use Rattle.name_sets.specs.NameLists.{name_set}
use Rattle.c_semantics.specs.Texts.{definition, names}

-- a function, a global (a variable or an array) and a mutex are of different sorts
abbrev pub sort : BareDef → ℕ
sort (Function result name parameters body) = 1
sort (Global d) = 2
sort (Array type name n values) = 2
sort (Mutex name) = 3
sort _ = 0

-- both texts define the name, as different sorts
abbrev pub other_sort : Option BareDef → Option BareDef → Bool
other_sort (Some a) (Some b) = not (sort a == sort b)
other_sort _ _ = false

-- the least name that is of one sort in p and of another in q
abbrev pub other_kind : List BareDef → List BareDef → Option Bytes
other_kind p q = find (λ z. other_sort (definition p z) (definition q z)) (name_set (names p))
