-- How the fields of a new layout come from those of the old one, for the contracts of private functions.
use Rattle.std.specs.Prelude.{◌≡◌, List, [], ◌∷◌, length}
use Rattle.c_tree.specs.BareExpr.{BareType, BareExpr}
use Rattle.c_tree.specs.BareDef.{BareBinding, BareFieldValue}
use Rattle.c_semantics.specs.Values.{Value, converted_to}
use Rattle.c_semantics.specs.Constants.{constant}
use Rattle.c_semantics.specs.Transformers.{old_object, default_field, new_field}
use Rattle.versioned_structs.specs.Transforms.{new_value, variables}
use Rattle.versioned_structs.specs.declared.transform.FieldChange.{FieldChange}
use Rattle.type_transformers.specs.Hows.{Given, how_by_default, how_field, how_of}

-- a change gives the value of an expression over the old object, converted to a type
pub record IsGivenChange (layout : List BareBinding) (type : BareType) (e : BareExpr) (change : FieldChange) : Type 0 where
  pub value : (values : List Value) → new_value values change ≡ converted_to type (constant (old_object (variables layout values)) e)
  pub how : how_of change ≡ Given

-- a change is that of a field which no transformer names
pub record IsDefaultChange (layout : List BareBinding) (b : BareBinding) (change : FieldChange) : Type 0 where
  pub value : (values : List Value) → length values ≡ length layout
      → new_value values change ≡ default_field layout (variables layout values) b
  pub how : how_of change ≡ how_by_default layout b

-- a change is that of a field of the new layout
pub record IsFieldChange (layout : List BareBinding) (given : List BareFieldValue) (b : BareBinding) (change : FieldChange) : Type 0 where
  pub value : (values : List Value) → length values ≡ length layout
      → new_value values change ≡ new_field layout (variables layout values) given b
  pub how : how_of change ≡ how_field layout given b

-- changes are those of some fields, in order
abbrev pub AreFieldChanges : List BareBinding → List BareFieldValue → List BareBinding → List FieldChange → Type 0
AreFieldChanges layout given [] [] = Unit {0}
AreFieldChanges layout given (b ∷ bs) (change ∷ changes) =
    IsFieldChange layout given b change × AreFieldChanges layout given bs changes
AreFieldChanges layout given _ _ = ⊥
