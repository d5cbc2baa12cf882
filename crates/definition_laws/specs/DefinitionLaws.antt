-- Laws of equal definitions: what the tests say of two definitions, and which names two texts give other ones.
use Rattle.std.specs.Prelude.{◌≡◌, ◌↔◌, IsTrue, List, Some, None, Contains}
use Rattle.c_tree.specs.BareExpr.{Bytes}
use Rattle.c_tree.specs.BareDef.{BareDef}
use Rattle.c_semantics.specs.Texts.{definition}
use Rattle.c_semantics.specs.Changes.{same_definition, same_interface, agree, changed, interface, added}
use Rattle.definition_laws.specs.EqualParts.{HaveEqualParts, HaveEqualInterfaces}

-- p and q both define a name, and equally
pub record DefineEqually (AreEqual : BareDef → BareDef → Type 0) (p q : List BareDef) (name : Bytes) : Type 0 where
  pub old : BareDef
  pub new : BareDef
  pub in_old : definition p name ≡ Some old
  pub in_new : definition q name ≡ Some new
  pub equal : AreEqual old new

-- p defines a name, and no definition that q has of it is equal; so also where q has none
pub record IsOther (AreEqual : BareDef → BareDef → Type 0) (p q : List BareDef) (name : Bytes) : Type 0 where
  pub old : BareDef
  pub in_old : definition p name ≡ Some old
  pub other : (new : BareDef) → definition q name ≡ Some new → ¬ AreEqual old new

-- a definition is the same as another exactly where their parts are equal
abbrev pub DefinitionsAreEqual : Type 0
DefinitionsAreEqual = (a b : BareDef) → IsTrue (same_definition a b) ↔ HaveEqualParts a b

-- and its interface is the same exactly where theirs are
abbrev pub InterfacesAreEqual : Type 0
InterfacesAreEqual = (a b : BareDef) → IsTrue (same_interface a b) ↔ HaveEqualInterfaces a b

-- two texts agree on a name's definition exactly where both define it, with equal parts
abbrev pub TextsAgree : Type 0
TextsAgree =
    (p q : List BareDef) (name : Bytes)
    → IsTrue (agree same_definition (definition p name) (definition q name)) ↔ DefineEqually HaveEqualParts p q name

-- and on its interface exactly where both define it, with equal interfaces
abbrev pub TextsAgreeOnInterfaces : Type 0
TextsAgreeOnInterfaces =
    (p q : List BareDef) (name : Bytes)
    → IsTrue (agree same_interface (definition p name) (definition q name)) ↔ DefineEqually HaveEqualInterfaces p q name

-- the changed names are those of p whose parts in q are others or gone
abbrev pub ChangedExactly : Type 0
ChangedExactly = (p q : List BareDef) (name : Bytes) → Contains (changed p q) name ↔ IsOther HaveEqualParts p q name

-- the interface set has those whose interface in q is another or gone
abbrev pub InterfaceExactly : Type 0
InterfaceExactly = (p q : List BareDef) (name : Bytes) → Contains (interface p q) name ↔ IsOther HaveEqualInterfaces p q name

-- the added names are those that q defines and p doesn't
abbrev pub AddedExactly : Type 0
AddedExactly =
    (p q : List BareDef) (name : Bytes)
    → Contains (added p q) name ↔ (((d : BareDef) × (definition q name ≡ Some d)) × (definition p name ≡ None))
