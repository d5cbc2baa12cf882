-- The layouts of the structs of a text, by the numbers of the tags of all texts.
use Rattle.std.specs.Prelude.{◌≡◌, List, map, length, slice_get, Contains, Option, Some, None}
use Rattle.std.specs.Option.{option_flatten}
use Rattle.c_tree.specs.BareExpr.{Bytes}
use Rattle.c_tree.specs.BareDef.{BareDef}
use Rattle.c_semantics.specs.Names.{struct_name}
use Rattle.c_semantics.specs.Texts.{definition}
use Rattle.typed_trees.specs.ExpressionTypes.{IsStruct}
use Rattle.constant_values.specs.Kinds.{kind_of}
use Rattle.versioned_structs.specs.Transforms.{layout_in}
use Rattle.code_runs.specs.CodeData.{number_of}
use Rattle.word_layouts.specs.declared.layout.Layout.{Layout}

-- the layout of a tag in a table, if there is one
abbrev pub layout_of : List (Option Layout) → List Bytes → Bytes → Option Layout
layout_of rows tags tag = option_flatten (slice_get rows (number_of tags tag))

-- a layout is that of the struct with a tag in a text, which defines it
pub record IsLayout (text : List BareDef) (tag : Bytes) (l : Layout) : Type 0 where
  pub defined : IsStruct (definition text (struct_name tag))
  pub named : l.tag ≡ tag
  pub kinds : l.kinds.items ≡ map (λ b. kind_of b.declared) (layout_in text tag)

-- there is a layout of a tag exactly where a text defines the struct; where it doesn't, it defines nothing of the struct's name
abbrev pub IsLayoutOf : List BareDef → Bytes → Option Layout → Type 0
IsLayoutOf text tag None = definition text (struct_name tag) ≡ None
IsLayoutOf text tag (Some l) = IsLayout text tag l

-- a table has the layouts of a text, and the text has its structs among the tags
pub record AreLayoutsOf (tags : List Bytes) (text : List BareDef) (rows : List (Option Layout)) : Type 0 where
  pub count : length rows ≡ length tags
  pub numbered : (tag : Bytes) → IsStruct (definition text (struct_name tag)) → Contains tags tag
  pub each : (tag : Bytes) → Contains tags tag → IsLayoutOf text tag (layout_of rows tags tag)
