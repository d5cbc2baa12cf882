-- What becomes of old data where text q follows text p.
use Rattle.std.specs.Prelude.{◌≡◌, Bool, true, false, ◌&&◌, List, map, filter, Option, Some, is_some}
use Rattle.c_tree.specs.BareExpr.{Bytes}
use Rattle.c_tree.specs.BareDef.{BareDef}
use Rattle.c_tree.specs.BareDef as def
use Rattle.c_semantics.specs.Names.{struct_name}
use Rattle.c_semantics.specs.Texts.{definition}
use Rattle.c_semantics.specs.Changes.{interface}
use Rattle.c_semantics.specs.Values.{Value}
use Rattle.c_semantics.specs.Transformers.{given_fields, given_value, transformed_global}
use Rattle.versioned_structs.specs.declared.transform.FieldChange.{FieldChange}
use Rattle.versioned_structs.specs.Transforms.{layout_in, IsTransformOf}
use Rattle.type_transformers.specs.declared.change.Change.{Change}
use Rattle.type_transformers.specs.declared.change.Change.TheVariants.{Struct, Global}
use Rattle.type_transformers.specs.declared.global.GlobalChange.{GlobalChange}
use Rattle.type_transformers.specs.Cells.{cells_by}
use Rattle.type_transformers.specs.Hows.{how_field, how_global, how_of, how_of_global}

-- a struct, and a variable or an array
abbrev pub is_struct : Option BareDef → Bool
is_struct (Some (def.Struct tag fields)) = true
is_struct _ = false

abbrev pub has_cells : Option BareDef → Bool
has_cells (Some (def.Global d)) = true
has_cells (Some (def.Array type name n values)) = true
has_cells _ = false

-- a struct, a variable or an array
abbrev pub has_data : Option BareDef → Bool
has_data (Some (def.Struct tag members)) = true
has_data (Some (def.Global d)) = true
has_data (Some (def.Array type name n values)) = true
has_data _ = false

-- the names whose data changes: those whose interface is another, that both texts define, and that have data in q
abbrev pub changing : List BareDef → List BareDef → List Bytes
changing p q = filter (λ z. is_some (definition p z) && has_data (definition q z)) (interface p q)

-- the name whose data a change changes
abbrev pub name_of : Change → Bytes
name_of (Struct tag transform) = struct_name tag
name_of (Global name change) = name

-- an object of a struct becomes what the definitions say, and each field comes as it is told of the texts; its name is that
-- of a struct
pub record IsStructChange (p q : List BareDef) (tag : Bytes) (changes : List FieldChange) : Type 0 where
  pub defined : is_struct (definition q (struct_name tag)) ≡ true
  pub transform : IsTransformOf p q tag changes
  pub hows : map how_of changes ≡ map (how_field (layout_in p tag) (given_fields q tag)) (layout_in q tag)

-- the cells of a global become what the definitions say, and come as it is told of the texts; its name is that of a variable
-- or an array
pub record IsGlobalChange (p q : List BareDef) (name : Bytes) (change : GlobalChange) : Type 0 where
  pub defined : has_cells (definition q name) ≡ true
  pub cells : (cells : List Value) → cells_by change cells ≡ transformed_global p q name cells
  pub how : how_of_global change ≡ how_global (definition p name) (definition q name) (given_value q name)

-- a change is that of its name
abbrev pub IsChange : List BareDef → List BareDef → Change → Type 0
IsChange p q (Struct tag transform) = IsStructChange p q tag transform
IsChange p q (Global name change) = IsGlobalChange p q name change
