-- What the parts of the text show.
use Rattle.std.specs.Prelude.{◌≡◌, List, [], ◌∷◌, ◌++◌, map, codes}
use Rattle.std.specs.List.{flat_map}
use Rattle.c_tree.specs.BareExpr.{Bytes}
use Rattle.c_tree.specs.BareDef.{BareBinding, BareDef}
use Rattle.c_semantics.specs.Names.{struct_name}
use Rattle.c_semantics.specs.Texts.{definition, members_of}
use Rattle.c_semantics.specs.Changes.{changed, interface, added}
use Rattle.patch_compare.specs.declared.answer.Changes.{Changes}
use Rattle.type_transformers.specs.Hows.{How, how_of, how_of_global}
use Rattle.type_transformers.specs.declared.change.Change.{Change}
use Rattle.type_transformers.specs.declared.change.Change.TheVariants.{Struct, Global}
use Rattle.changes_report.specs.ChangesText.{name_line, field_line, global_line}

-- the names of a comparison are those that change from p to q
pub record AreChanges (p q : List BareDef) (changes : Changes) : Type 0 where
  pub differ : changes.changed ≡ changed p q
  pub faces : changes.interface ≡ interface p q
  pub more : changes.added ≡ added p q

-- the lines of the names
abbrev pub lists_text : Changes → Bytes
lists_text changes =
    flat_map (name_line (codes "changed")) changes.changed ++ flat_map (name_line (codes "interface")) changes.interface
    ++ flat_map (name_line (codes "added")) changes.added

-- the lines of the fields of a struct, by how each gets its value
abbrev pub fields_text : Bytes → List BareBinding → List How → Bytes
fields_text name (b ∷ bs) (how ∷ hows) = field_line name b.name how ++ fields_text name bs hows
fields_text name _ _ = []

-- the lines of a change to the text q
abbrev pub change_text : List BareDef → Change → Bytes
change_text q (Struct tag transform) =
    let name = struct_name tag in fields_text name (members_of (definition q name)) (map how_of transform)
change_text q (Global name change) = global_line name (how_of_global change)
