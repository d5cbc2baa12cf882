-- The fields of a new layout from those of the old one.
use Rattle.std.specs.Prelude.{◌≡◌, List, [], ◌∷◌, map, length, slice_index_or}
use Rattle.c_tree.specs.BareExpr.{Bytes}
use Rattle.c_tree.specs.BareDef.{BareBinding, BareDef}
use Rattle.c_semantics.specs.Names.{struct_name}
use Rattle.c_semantics.specs.Texts.{definition, members_of}
use Rattle.c_semantics.specs.Values.{Value, int_of}
use Rattle.c_semantics.specs.Pieces.{Variable}
use Rattle.c_semantics.specs.Transformers.{transformed}
use Rattle.constant_values.specs.Kinds.{zero_of_kind, converted_to_kind}
use Rattle.versioned_structs.specs.declared.transform.FieldChange.{FieldChange}
use Rattle.versioned_structs.specs.declared.transform.FieldChange.TheVariants.{Copied, Zero, Given}
use Rattle.versioned_structs.specs.Formulas.{value_in}

-- the value of a new field
abbrev pub new_value : List Value → FieldChange → Value
new_value old (Copied place) = slice_index_or old place (int_of 0)
new_value old (Zero kind) = zero_of_kind kind
new_value old (Given kind formula) = converted_to_kind kind (value_in old formula)

-- the values of the new fields
abbrev pub new_values : List FieldChange → List Value → List Value
new_values changes old = map (new_value old) changes

-- the fields with the names of a layout and some values, item by item
abbrev pub variables : List BareBinding → List Value → List Variable
variables (b ∷ bs) (v ∷ vs) = record { name = b.name; value = v } ∷ variables bs vs
variables _ _ = []

-- the layout of the struct with a tag
abbrev pub layout_in : List BareDef → Bytes → List BareBinding
layout_in text tag = members_of (definition text (struct_name tag))

-- changes do to the fields of the text p what the definitions of transformers do to make them fields of the text q
pub record IsTransformOf (p q : List BareDef) (tag : Bytes) (changes : List FieldChange) : Type 0 where
  pub each_field : length changes ≡ length (layout_in q tag)
  pub transforms : (values : List Value) → length values ≡ length (layout_in p tag)
      → variables (layout_in q tag) (new_values changes values) ≡ transformed p q tag (variables (layout_in p tag) values)
