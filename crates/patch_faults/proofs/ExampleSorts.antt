-- Names that become ones of another sort.
use Rattle.std.specs.Prelude.{◌≡◌, pos, [], ◌∷◌, Some, None, codes}
use Rattle.std.proofs.Common.{refl}
use Prim.Native.String.{String}
use Rattle.c_ints.specs.declared.kind.Kind.TheVariants.{I32, I64}
use Rattle.c_ints.specs.declared.int.Int.TheVariants.{I32 as int32}
use Rattle.c_tree.specs.BareExpr.{Integer}
use Rattle.c_tree.specs.BareStmt.{NoStmts}
use Rattle.c_tree.specs.BareDef.{BareDef, Struct, Mutex, Function, Prototype, Global, Array, TransformGlobal, Named}
use Rattle.c_tree.specs.BareExpr as bare
use Rattle.patch_faults.specs.Sorts.{other_kind}

-- int NAME;
abbrev int_named : String → BareDef
int_named name = Global (record { declared = Integer I32; name = codes name; initial = None })

-- long NAME[2];
abbrev longs_named : String → BareDef
longs_named name = Array (Integer I64) (codes name) (int32 (pos 2)) None

-- int NAME(void) {}
abbrev function_named : String → BareDef
function_named name = Function (Some (Integer I32)) (codes name) [] NoStmts

-- the least name of two, whatever the order of the text
least_of_two : other_kind (int_named "b" ∷ Mutex (codes "a") ∷ []) (Mutex (codes "b") ∷ int_named "a" ∷ []) ≡ Some (codes "a")
least_of_two = refl

global_becomes_function : other_kind (int_named "a" ∷ []) (function_named "a" ∷ []) ≡ Some (codes "a")
global_becomes_function = refl

function_becomes_array : other_kind (function_named "a" ∷ []) (longs_named "a" ∷ []) ≡ Some (codes "a")
function_becomes_array = refl

mutex_becomes_function : other_kind (Mutex (codes "a") ∷ []) (function_named "a" ∷ []) ≡ Some (codes "a")
mutex_becomes_function = refl

-- a variable and an array are of one sort
variable_becomes_array : other_kind (int_named "a" ∷ []) (longs_named "a" ∷ []) ≡ None
variable_becomes_array = refl

-- a struct's tag is another name
tag_becomes_variable : other_kind (Struct (codes "a") [] ∷ []) (int_named "a" ∷ []) ≡ None
tag_becomes_variable = refl

-- names that are gone, or that nothing defines
gone : other_kind (int_named "a" ∷ function_named "b" ∷ []) [] ≡ None
gone = refl

only_spoken_of : other_kind (int_named "a" ∷ int_named "b" ∷ [])
    (Prototype None (codes "a") (Named []) ∷ TransformGlobal (codes "b") bare.Null ∷ []) ≡ None
only_spoken_of = refl

-- other definitions of the same names
same_sorts : other_kind (int_named "a" ∷ Mutex (codes "b") ∷ function_named "c" ∷ Struct (codes "d") [] ∷ [])
    (Struct (codes "d") [] ∷ function_named "c" ∷ Mutex (codes "b") ∷ int_named "a" ∷ []) ≡ None
same_sorts = refl
