-- How changes of data are found by name.
use Rattle.std.specs.Prelude.{List, map, find, Option, Some, None}
use Rattle.c_tree.specs.BareExpr.{Bytes}
use Rattle.c_definitions.specs.Index.{is_key}
use Rattle.versioned_structs.specs.declared.transform.FieldChange.{FieldChange}
use Rattle.type_transformers.specs.declared.change.Change.{Change}
use Rattle.type_transformers.specs.declared.change.Change.TheVariants as change
use Rattle.type_transformers.specs.declared.global.GlobalChange.{GlobalChange}
use Rattle.source_install.specs.declared.changes.Data.{Data}
use Rattle.source_install.specs.declared.changes.Data.TheVariants.{Struct, Global}

-- what a change is found by: the tag of a struct, the name of a global
abbrev pub key_of : Data → Change → Option Bytes
key_of Struct (change.Struct tag transform) = Some tag
key_of Global (change.Global name cells) = Some name
key_of _ _ = None

abbrev pub keys : Data → List Change → List (Option Bytes)
keys kind changes = map (key_of kind) changes

-- the first change that is found by a name
abbrev pub found : Data → List Change → Bytes → Option Change
found kind changes name = find (λ c. is_key name (key_of kind c)) changes

-- the changes of the fields of a struct, of the cells of a global
abbrev pub transform_in : Option Change → Option (List FieldChange)
transform_in (Some (change.Struct tag transform)) = Some transform
transform_in _ = None

abbrev pub cells_in : Option Change → Option GlobalChange
cells_in (Some (change.Global name cells)) = Some cells
cells_in _ = None
