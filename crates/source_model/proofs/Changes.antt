-- Uses, changes, transformers and skeletons of small texts.
use Rattle.std.proofs.Common.{◌≡◌, ℕ, ℤ, pos, negsuc, List, [], ◌∷◌, refl}
use Rattle.std.specs.Prelude.{codes, map}
use Rattle.c_ints.specs.declared.kind.Kind.{Kind}
use Rattle.c_ints.specs.declared.kind.Kind.TheVariants.{I32, I64}
use Rattle.c_ints.specs.Number.{number}
use Rattle.run_types.specs.CheckIns.{Entry}
use Rattle.run_types.specs.Skeleton.{Skeleton, CheckIn, Print, Back, Return}
use Rattle.c_tree.specs.BareExpr.{Integer}
use Rattle.c_tree.specs.BareDef.{BareDef}
use Rattle.c_semantics.specs.Texts.{definition}
use Rattle.c_semantics.specs.Values.{Value, Number, int_of}
use Rattle.c_semantics.specs.Changes.{changed, interface, added}
use Rattle.c_semantics.specs.Transformers.{transformed, transformed_global}
use Rattle.c_semantics.specs.Skeletons.{skeleton_of, direct_uses, check_ins}
use Rattle.c_semantics.specs.SourceTexts.{Text}
use Rattle.c_semantics.specs.Store.{Body, store}
use Rattle.source_model.proofs.Texts.{text_with, counting, calling, calling_2, connection, connection_2, connection_3, other_kind_of}
use Rattle.source_model.proofs.CornerTexts.{global_of, transforming, old_and, array_g, wider_struct, narrow_struct, array_of_two, array_of_three}

-- the skeleton of a function of a text
abbrev skeleton_in : List BareDef → List ℕ → Skeleton
skeleton_in text name = skeleton_of (definition text) (definition text name)

-- an endless `for`: nothing leads to the closing return
endless : skeleton_in counting (codes "main") ≡ record {
  points =
      record { kind = CheckIn Entry; depth = 0 } ∷ record { kind = Print; depth = 0 } ∷ record { kind = Back; depth = 0 }
      ∷ record { kind = Return; depth = 0 } ∷ [];
  next = (1 ∷ []) ∷ (2 ∷ []) ∷ (1 ∷ []) ∷ [] ∷ [];
}
endless = refl

-- the check-ins of main: its entry, after the begin, after three calls, after the end
six : check_ins (skeleton_in calling (codes "main")) ≡ 6
six = refl

uses_of_main : direct_uses (skeleton_in calling (codes "main")) ≡ codes "f" ∷ codes "g" ∷ codes "h" ∷ []
uses_of_main = refl

uses_of_show : direct_uses (skeleton_in connection (codes "show")) ≡ codes "c" ∷ codes "struct conn" ∷ []
uses_of_show = refl

-- what changes where a field is added
changes : changed connection connection_2 ≡ codes "show" ∷ codes "struct conn" ∷ []
changes = refl

interfaces : interface connection connection_2 ≡ codes "struct conn" ∷ []
interfaces = refl

nothing_changes : changed calling calling ≡ []
nothing_changes = refl

body_changes : changed calling calling_2 ≡ codes "g" ∷ []
body_changes = refl

no_interface_changes : interface calling calling_2 ≡ []
no_interface_changes = refl

-- names that are gone are in both sets, those that are added in neither
gone : interface calling other_kind_of ≡ codes "f" ∷ codes "g" ∷ codes "h" ∷ []
gone = refl

none_added : added connection connection_2 ≡ []
none_added = refl

-- an object brought from (3, 4) over (3, 4, 7) to (3, 4, 7, 14)
brought : map (λ v. v.value)
    (transformed connection_2 connection_3 (codes "conn")
    (transformed connection connection_2 (codes "conn")
    (record { name = codes "in"; value = int_of 3 } ∷ record { name = codes "out"; value = int_of 4 } ∷ [])))
    ≡ int_of 3 ∷ int_of 4 ∷ int_of 7 ∷ int_of 14 ∷ []
brought = refl

-- a global of another type: by its transformer, which wraps; without one it is zero
abbrev at : Kind → ℤ → Value
at kind n = Number (number kind n)

by_its_transformer : transformed_global (global_of (Integer I32)) (transforming (Integer I64) (old_and 7)) (codes "g") (int_of 6 ∷ [])
    ≡ at I64 (pos 13) ∷ []
by_its_transformer = refl

wraps : transformed_global (global_of (Integer I32)) (transforming (Integer I64) (old_and 2147483647)) (codes "g") (int_of 1 ∷ [])
    ≡ at I64 (negsuc 2147483647) ∷ []
wraps = refl

becomes_zero : transformed_global (global_of (Integer I32)) (global_of (Integer I64)) (codes "g") (int_of 6 ∷ []) ≡ at I64 (pos 0) ∷ []
becomes_zero = refl

-- an array keeps the elements below the shorter length where their type stays
longer : transformed_global array_of_two array_of_three (codes "a") (int_of 1 ∷ int_of 2 ∷ []) ≡ int_of 1 ∷ int_of 2 ∷ int_of 0 ∷ []
longer = refl

shorter : transformed_global array_of_three array_of_two (codes "a") (int_of 1 ∷ int_of 2 ∷ int_of 3 ∷ []) ≡ int_of 1 ∷ int_of 2 ∷ []
shorter = refl

other_elements : transformed_global (array_g (Integer I32)) (array_g (Integer I64)) (codes "g") (int_of 1 ∷ int_of 2 ∷ int_of 3 ∷ [])
    ≡ at I64 (pos 0) ∷ at I64 (pos 0) ∷ at I64 (pos 0) ∷ []
other_elements = refl

-- a scalar that becomes an array, and one that was an array, are zero
to_an_array : transformed_global (global_of (Integer I32)) (array_g (Integer I32)) (codes "g") (int_of 6 ∷ [])
    ≡ int_of 0 ∷ int_of 0 ∷ int_of 0 ∷ []
to_an_array = refl

from_an_array : transformed_global (array_g (Integer I32)) (global_of (Integer I32)) (codes "g") (int_of 1 ∷ int_of 2 ∷ int_of 3 ∷ [])
    ≡ int_of 0 ∷ []
from_an_array = refl

-- a field of the same name and another type, and a new one, are zero
other_fields : map (λ v. v.value) (transformed narrow_struct wider_struct (codes "s") (record { name = codes "v"; value = int_of 3 } ∷ []))
    ≡ at I64 (pos 0) ∷ int_of 0 ∷ []
other_fields = refl

-- the bodies of two versions: main has a direct use of the struct whose layout changed, so it has a new body too
abbrev plain : List BareDef → Text
plain definitions = text_with definitions []

pub record Brought : Type 0 where
  pub function : List ℕ
  pub generation : ℕ

abbrev brought_by : Body → Brought
brought_by b = record { function = b.function; generation = b.generation }

abbrev by : List ℕ → ℕ → Brought
by function generation = record { function = function; generation = generation }

bodies : map brought_by (store (plain connection ∷ plain connection_2 ∷ []))
    ≡ by (codes "show") 1 ∷ by (codes "main") 1 ∷ by (codes "show") 2 ∷ by (codes "main") 2 ∷ []
bodies = refl

bodies_of_calls : map brought_by (store (plain calling ∷ plain calling_2 ∷ []))
    ≡ by (codes "h") 1 ∷ by (codes "g") 1 ∷ by (codes "f") 1 ∷ by (codes "main") 1 ∷ by (codes "g") 2 ∷ []
bodies_of_calls = refl
