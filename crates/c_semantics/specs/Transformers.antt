-- How an object or a global of one text becomes one of another text: by the transformer that the newer text
-- declares, else by default.
use Rattle.std.specs.Prelude.{false, List, [], ◌∷◌, map, Option, Some, None, find, bytes_eq, unwrap_or, if◌then◌else◌}
use Rattle.std.specs.Option.{option_map_or, option_or}
use Rattle.c_tree.specs.BareExpr.{Bytes, BareExpr}
use Rattle.c_tree.specs.BareDef.{BareBinding, BareFieldValue, BareDef, Global, Array, TransformStruct, TransformGlobal}
use Rattle.c_semantics.specs.Names.{struct_name}
use Rattle.c_semantics.specs.Texts.{definition, members_of, bound}
use Rattle.c_semantics.specs.Values.{Value, int_of, zero_of, converted_to}
use Rattle.c_semantics.specs.Pieces.{Variable}
use Rattle.c_semantics.specs.Evaluation.{in_scope}
use Rattle.c_semantics.specs.Same.{same_type}
use Rattle.c_semantics.specs.Constants.{Old, constant, elements, filled}

-- the fields that a text's transformer of a struct names
abbrev pub given_by : Bytes → BareDef → Option (List BareFieldValue)
given_by tag (TransformStruct name values) = if bytes_eq tag name then Some values else None
given_by tag _ = None

abbrev pub given_fields : List BareDef → Bytes → List BareFieldValue
given_fields [] tag = []
given_fields (d ∷ ds) tag = unwrap_or (given_by tag d) (given_fields ds tag)

-- the expression of a text's transformer of a global
abbrev pub value_by : Bytes → BareDef → Option BareExpr
value_by name (TransformGlobal other e) = if bytes_eq name other then Some e else None
value_by name _ = None

abbrev pub given_value : List BareDef → Bytes → Option BareExpr
given_value [] name = None
given_value (d ∷ ds) name = option_or (value_by name d) (given_value ds name)

-- `old` is an object with these fields
abbrev pub old_object : List Variable → Old
old_object fields = record { whole = int_of 0; field = λ name. unwrap_or (in_scope fields name) (int_of 0) }

-- `old` is this value
abbrev pub old_value : Value → Old
old_value v = record { whole = v; field = λ name. int_of 0 }

-- a field without a transformer: copied where the old layout has a field of the same name and type, else zero
abbrev pub default_field : List BareBinding → List Variable → BareBinding → Value
default_field layout fields b =
    if option_map_or (λ o. same_type o.declared b.declared) (bound layout b.name) false
    then unwrap_or (in_scope fields b.name) (zero_of b.declared)
    else zero_of b.declared

-- one field of the new layout
abbrev pub new_field : List BareBinding → List Variable → List BareFieldValue → BareBinding → Value
new_field layout fields given b =
    option_map_or (λ v. converted_to b.declared (constant (old_object fields) v.value))
    (find (λ v. bytes_eq b.name v.field) given)
    (default_field layout fields b)

-- the new fields of an object of the struct with a tag, in the new layout's order
abbrev pub transformed : List BareDef → List BareDef → Bytes → List Variable → List Variable
transformed p q tag fields =
    let name = struct_name tag in
    map (λ b. record { name = b.name; value = new_field (members_of (definition p name)) fields (given_fields q tag) b })
    (members_of (definition q name))

-- the fields of a new object, each zero or null
abbrev pub zero_fields : List BareBinding → List Variable
zero_fields = map (λ b. record { name = b.name; value = zero_of b.declared })

-- the first of some cells
abbrev pub first_cell : List Value → Value
first_cell [] = int_of 0
first_cell (v ∷ vs) = v

-- the new cells of a global by its old and its new definition and the transformer's expression: a scalar by its
-- transformer, an array of the same element type by its elements below the shorter length, else zero
abbrev pub new_cells : Option BareDef → Option BareDef → Option BareExpr → List Value → List Value
new_cells (Some (Global a)) (Some (Global b)) (Some e) cells =
    converted_to b.declared (constant (old_value (first_cell cells)) e) ∷ []
new_cells (Some (Array t name n initial)) (Some (Array u other m values)) given cells =
    filled u (elements m) (if same_type t u then cells else [])
new_cells _ (Some (Global b)) given cells = zero_of b.declared ∷ []
new_cells _ (Some (Array u other m values)) given cells = filled u (elements m) []
new_cells _ _ given cells = []

-- the new value of a global
abbrev pub transformed_global : List BareDef → List BareDef → Bytes → List Value → List Value
transformed_global p q name cells = new_cells (definition p name) (definition q name) (given_value q name) cells
