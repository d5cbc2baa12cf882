-- What a world holds of the globals, arrays and mutexes of its text.
use Rattle.std.specs.Prelude.{◌≡◌, ◌≢◌, IsTrue, List, [], ◌∷◌, map, filter, length, All, AllPairs, Option, Some}
use Rattle.c_ints.specs.declared.int.Int.{Int}
use Rattle.c_tree.specs.BareExpr.{Bytes, BareType, BareExpr}
use Rattle.c_tree.specs.BareStmt.{BareDeclaration}
use Rattle.c_tree.specs.BareDef.{BareDef, Global, Array}
use Rattle.c_semantics.specs.Texts.{definition, names}
use Rattle.c_semantics.specs.Values.{Value}
use Rattle.c_semantics.specs.Constants.{elements}
use Rattle.patch_faults.specs.TransformLaws.{has_type}
use Rattle.source_model.specs.Worlds.{World, cells_of}
use Rattle.source_model.specs.Installs.{has_cells, is_mutex}

-- the names of the global variables and arrays of a text, in its order
abbrev pub names_with_cells : List BareDef → List Bytes
names_with_cells text = names (filter has_cells text)

-- one value, of a type
pub record IsOne (type : BareType) (cells : List Value) : Type 0 where
  pub value : Value
  pub is : cells ≡ value ∷ []
  pub fits : IsTrue (has_type type value)

-- as many values of a type as an array of that length has elements
pub record AreElements (type : BareType) (n : Int) (cells : List Value) : Type 0 where
  pub count : length cells ≡ elements n
  pub fit : All (λ v. IsTrue (has_type type v)) cells

-- a world holds the global variables and arrays of its text and no others, in their order: for each variable one value of
-- its type, for each array as many values of its elements' type as it has elements
pub record HoldsGlobals (w : World) : Type 0 where
  pub named : map (λ g. g.name) w.globals ≡ names_with_cells w.text
  pub variables : (name : Bytes) (d : BareDeclaration)
      → definition w.text name ≡ Some (Global d) → IsOne d.declared (cells_of w name)
  pub arrays : (name own : Bytes) (type : BareType) (n : Int) (values : Option (List BareExpr))
      → definition w.text name ≡ Some (Array type own n values) → AreElements type n (cells_of w name)

-- no two of them have one name
abbrev pub NamesEachOnce : World → Type 0
NamesEachOnce w = AllPairs (λ g h. g.name ≢ h.name) w.globals

-- the mutexes that are held are mutexes of the text, and each is held once. A mutex that is free is in the text alone
pub record HoldsMutexes (w : World) : Type 0 where
  pub declared : All (λ h. IsTrue (is_mutex (definition w.text h.mutex))) w.holders
  pub once : AllPairs (λ g h. g.mutex ≢ h.mutex) w.holders
