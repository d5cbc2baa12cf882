-- The text of what changes between two texts: which names, and how old objects and globals become new ones; or why the newer
-- text is no patch of the older one.
use Rattle.std.specs.Prelude.{ℕ, List, [], ◌++◌, map, codes, Option, Some}
use Rattle.std.specs.Option.{option_map_or}
use Rattle.std.specs.List.{flat_map}
use Rattle.std.specs.Fmt.{decimal}
use Rattle.c_tree.specs.BareExpr.{Bytes}
use Rattle.c_tree.specs.BareDef.{BareDef, Struct, Global, Array}
use Rattle.c_tree.specs.Bare.{bare_def}
use Rattle.c_tree.specs.declared.def.Def.{Def}
use Rattle.c_semantics.specs.Texts.{definition, members_of}
use Rattle.c_semantics.specs.Changes.{changed, interface, added}
use Rattle.c_semantics.specs.Transformers.{given_fields, given_value}
use Rattle.patch_faults.specs.Sorts.{other_kind}
use Rattle.patch_faults.specs.TransformFaults.{first_transform_fault, place_of}
use Rattle.type_transformers.specs.Hows.{How, Copied, Zero, Given, how_field, how_global}
use Rattle.dsu_report.specs.Places.{line_at, column_at}

-- how a field or a global gets its value
abbrev pub how_word : How → Bytes
how_word Copied = codes "copied"
how_word Zero = codes "zero"
how_word Given = codes "given"

-- a line that says a word of a name
abbrev pub name_line : Bytes → Bytes → Bytes
name_line word name = word ++ codes " " ++ name ++ codes "\n"

-- the line of a field of a struct
abbrev pub field_line : Bytes → Bytes → How → Bytes
field_line name field how = codes "transform " ++ name ++ codes " " ++ field ++ codes " " ++ how_word how ++ codes "\n"

-- the line of a global
abbrev pub global_line : Bytes → How → Bytes
global_line name how = codes "transform " ++ name ++ codes " " ++ how_word how ++ codes "\n"

-- the lines of a name by its definitions in the older text and in the newer text q: a struct has one for each field of the new
-- layout, a variable or an array has one
abbrev pub lines_by : List BareDef → Bytes → Option BareDef → Option BareDef → Bytes
lines_by q name (Some old) (Some (Struct tag fields)) =
    flat_map (λ b. field_line name b.name (how_field (members_of (Some old)) (given_fields q tag) b)) fields
lines_by q name (Some old) (Some (Global d)) = global_line name (how_global (Some old) (Some (Global d)) (given_value q name))
lines_by q name (Some old) (Some (Array type own n values)) =
    global_line name (how_global (Some old) (Some (Array type own n values)) (given_value q name))
lines_by q name _ _ = []

-- how a name of p becomes that of q
abbrev pub transform_lines : List BareDef → List BareDef → Bytes → Bytes
transform_lines p q name = lines_by q name (definition p name) (definition q name)

-- what changes where q is a patch of p
abbrev pub patch_text : List BareDef → List BareDef → Bytes
patch_text p q =
    flat_map (name_line (codes "changed")) (changed p q) ++ flat_map (name_line (codes "interface")) (interface p q)
    ++ flat_map (name_line (codes "added")) (added p q) ++ flat_map (transform_lines p q) (interface p q)

-- why q is no patch of p: a name is of another sort there
abbrev pub kind_text : Bytes → Bytes
kind_text name = codes "not a patch: kind " ++ name ++ codes "\n"

-- or a transformer has a fault at a byte of the newer text, shown by its line and its column
abbrev pub fault_text : Bytes → ℕ → Bytes
fault_text text at =
    codes "not a patch: transform " ++ decimal (line_at text at) ++ codes ":" ++ decimal (column_at text at) ++ codes "\n"

-- the text where each name of both is of one sort
abbrev pub text_by_fault : List Def → List Def → Bytes → Bytes
text_by_fault old new text =
    option_map_or (λ fault. fault_text text (place_of fault)) (first_transform_fault old new)
    (patch_text (map bare_def old) (map bare_def new))

-- the whole text, for the bytes from which the newer text was read
abbrev pub changes_text : List Def → List Def → Bytes → Bytes
changes_text old new text = option_map_or kind_text (other_kind (map bare_def old) (map bare_def new)) (text_by_fault old new text)
