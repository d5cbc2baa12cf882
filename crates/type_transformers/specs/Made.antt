-- How the change of a name is made of its two definitions, for the contracts of private functions.
use Rattle.std.specs.Prelude.{◌≡◌, Bool, true, false, not, ◌&&◌, List, [], ◌∷◌, ◌++◌, map, filter, All, Option, Some, None}
use Rattle.c_tree.specs.BareExpr.{Bytes}
use Rattle.c_tree.specs.BareDef.{BareDef}
use Rattle.c_semantics.specs.Texts.{defined, definition}
use Rattle.c_semantics.specs.Changes.{same_interface}
use Rattle.type_transformers.specs.declared.change.Change.{Change}
use Rattle.type_transformers.specs.Changes.{has_data, name_of, IsChange}

-- the later of two definitions has data that changes
abbrev pub has_new_data : BareDef → BareDef → Bool
has_new_data a b = has_data (Some b) && not (same_interface a b)

-- the same of what two texts say of a name
abbrev pub changes_data : Option BareDef → Option BareDef → Bool
changes_data (Some a) (Some b) = has_new_data a b
changes_data _ _ = false

abbrev pub is_changing : List BareDef → List BareDef → Bytes → Bool
is_changing p q name = changes_data (definition p name) (definition q name)

-- a change is that of a name
pub record IsMade (p q : List BareDef) (name : Bytes) (change : Change) : Type 0 where
  pub named : name_of change ≡ name
  pub is : IsChange p q change

-- the same for the name that is defined by b, where it was defined by a
abbrev pub IsMadeFrom : BareDef → BareDef → List BareDef → Change → Type 0
IsMadeFrom a b q change =
    (p : List BareDef) (name : Bytes) → defined b ≡ Some name → definition p name ≡ Some a → definition q name ≡ Some b
    → IsMade p q name change

-- there is a change where b has data
abbrev pub IsMadeIf : BareDef → BareDef → List BareDef → Option Change → Type 0
IsMadeIf a b q None = has_data (Some b) ≡ false
IsMadeIf a b q (Some change) = IsMadeFrom a b q change

-- there is one where the name's data changes
abbrev pub IsChangeFor : List BareDef → List BareDef → Bytes → Option Change → Type 0
IsChangeFor p q name None = is_changing p q name ≡ false
IsChangeFor p q name (Some change) = (is_changing p q name ≡ true) × IsMade p q name change

-- changes are those of the names whose data changes, in order
pub record AreChanges (p q : List BareDef) (names : List Bytes) (changes : List Change) : Type 0 where
  pub named : map name_of changes ≡ filter (is_changing p q) names
  pub are : All (IsChange p q) changes

-- there is one name more
abbrev pub Adds : List BareDef → List BareDef → Bytes → List Change → List Change → Type 0
Adds p q name old new = (names : List Bytes) → AreChanges p q names old → AreChanges p q (names ++ name ∷ []) new
