-- How the data of a newer text comes from old data, told by the two texts alone.
use Rattle.std.specs.Prelude.{false, List, Option, Some, find, bytes_eq, if◌then◌else◌}
use Rattle.std.specs.Option.{option_map_or}
use Rattle.c_tree.specs.BareExpr.{BareExpr}
use Rattle.c_tree.specs.BareDef.{BareBinding, BareFieldValue, BareDef, Global, Array}
use Rattle.c_semantics.specs.Same.{same_type}
use Rattle.c_semantics.specs.Texts.{bound}
use Rattle.versioned_structs.specs.declared.transform.FieldChange.{FieldChange}
use Rattle.versioned_structs.specs.declared.transform.FieldChange.TheVariants as field
use Rattle.type_transformers.specs.declared.global.GlobalChange.{GlobalChange}
use Rattle.type_transformers.specs.declared.global.GlobalChange.TheVariants as global

-- as it was, as zeros, or by a transformer
pub data How : Type 0 where
  Copied : How
  Zero : How
  Given : How

-- a field that no transformer names: copied where the old layout has a field of the same name and type
abbrev pub how_by_default : List BareBinding → BareBinding → How
how_by_default layout b =
    if option_map_or (λ o. same_type o.declared b.declared) (bound layout b.name) false then Copied else Zero

-- a field of the new layout, by the old layout and what the transformer names
abbrev pub how_field : List BareBinding → List BareFieldValue → BareBinding → How
how_field layout given b =
    option_map_or (λ v. Given) (find (λ v. bytes_eq b.name v.field) given) (how_by_default layout b)

-- a global, by its old and its new definition and the transformer's expression
abbrev pub how_global : Option BareDef → Option BareDef → Option BareExpr → How
how_global (Some (Global a)) (Some (Global b)) (Some e) = Given
how_global (Some (Array t name n initial)) (Some (Array u other m values)) given = if same_type t u then Copied else Zero
how_global _ _ given = Zero

-- how a change of a field says that it comes
abbrev pub how_of : FieldChange → How
how_of (field.Copied place) = Copied
how_of (field.Zero kind) = Zero
how_of (field.Given kind formula) = Given

-- how a change of a global says that it comes
abbrev pub how_of_global : GlobalChange → How
how_of_global (global.Copied n kind) = Copied
how_of_global (global.Zero n kind) = Zero
how_of_global (global.Given kind formula) = Given
