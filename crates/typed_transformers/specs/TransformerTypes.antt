-- What the transformers of accepted texts give has its type, also where that is a handle of a struct.
use Rattle.std.specs.Prelude.{◌≡◌, List, [], ◌∷◌, All, Option, Some, None}
use Rattle.c_tree.specs.BareExpr.{Bytes}
use Rattle.c_tree.specs.BareStmt.{BareDeclaration}
use Rattle.c_tree.specs.BareDef.{BareDef, Global, Array}
use Rattle.c_semantics.specs.Names.{struct_name}
use Rattle.c_semantics.specs.Texts.{global_type, members_of}
use Rattle.c_semantics.specs.Values.{Value}
use Rattle.c_semantics.specs.Pieces.{Variable}
use Rattle.c_semantics.specs.SourceTexts.{Text}
use Rattle.c_semantics.specs.Transformers.{transformed, transformed_global}
use Rattle.patch_faults.specs.TransformFaults.{first_transform_fault}
use Rattle.frame_bodies.specs.AcceptedTexts.{IsAccepted, looked_up}
use Rattle.typed_trees.specs.ValueTypes.{HasType, ScopeHas}
use Rattle.typed_trees.specs.ExpressionTypes.{IsStruct}

-- two accepted texts, where the transformers of the second have no fault after the first
pub record Follows (p q : Text) : Type 0 where
  pub older : IsAccepted p
  pub newer : IsAccepted q
  pub faultless : first_transform_fault p.tree.definitions q.tree.definitions ≡ None

-- what fields of the struct in text p become in text q has the layout of q, each field with a value of its type; the list has the
-- struct tags of all objects, by number. Where p has no such struct, the fields may be any
abbrev pub FieldsAreTyped : Type 0
FieldsAreTyped =
    (p q : Text) (tags : List Bytes) (tag : Bytes) (fields : List Variable)
    → Follows p q → IsStruct (looked_up q (struct_name tag))
    → (IsStruct (looked_up p (struct_name tag)) → ScopeHas tags (members_of (looked_up p (struct_name tag))) fields)
    → ScopeHas tags (members_of (looked_up q (struct_name tag))) (transformed p.definitions q.definitions tag fields)

-- a global variable or an array, which have cells
abbrev pub HasCells : Option BareDef → Type 0
HasCells (Some (Global d)) = Unit {0}
HasCells (Some (Array type name n values)) = Unit {0}
HasCells _ = ⊥

-- the cells of a name in a text: of its type, and one where it is a variable
pub record CellsTyped (tags : List Bytes) (d : Option BareDef) (cells : List Value) : Type 0 where
  pub typed : HasCells d → All (HasType tags (global_type d)) cells
  pub one : (v : BareDeclaration) → d ≡ Some (Global v) → (value : Value) × (cells ≡ value ∷ [])

-- what cells of the name in text p become in text q has its type there
abbrev pub CellsAreTyped : Type 0
CellsAreTyped =
    (p q : Text) (tags : List Bytes) (name : Bytes) (cells : List Value)
    → Follows p q → CellsTyped tags (looked_up p name) cells
    → All (HasType tags (global_type (looked_up q name))) (transformed_global p.definitions q.definitions name cells)
