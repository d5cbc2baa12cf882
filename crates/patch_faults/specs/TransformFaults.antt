-- The faults of a text's transformers where the text follows another.
use Rattle.std.specs.Prelude.{ℕ, nat_lt, List, [], ◌∷◌, flat_map, map, Option, Some, None, if◌then◌else◌}
use Rattle.std.specs.Option.{option_map_or}
use Rattle.c_tree.specs.Bare.{bare_binding, bare_type}
use Rattle.c_tree.specs.declared.name.CType.{CType}
use Rattle.c_tree.specs.declared.expr.Expr.{Expr}
use Rattle.c_tree.specs.declared.def.Binding.{Binding}
use Rattle.c_tree.specs.declared.def.FieldValue.{FieldValue}
use Rattle.c_tree.specs.declared.def.Def.{Def}
use Rattle.c_tree.specs.declared.def.DefKind.{DefKind}
use Rattle.c_tree.specs.declared.def.DefKind.TheVariants.{TransformStruct, TransformGlobal}
use Rattle.c_definitions.specs.Lookup.{Meaning, defined, members_of}
use Rattle.c_definitions.specs.Lookup.Meaning.{AVariable}
use Rattle.c_expr_types.specs.Found.{converts, required}
use Rattle.c_definitions.specs.Lookup.{member}
use Rattle.c_expr_types.specs.declared.fault.Fault.{Fault}
use Rattle.c_expr_types.specs.declared.fault.TypeKind.{TypeKind}
use Rattle.c_expr_types.specs.declared.fault.TypeKind.TheVariants.{UnknownField}
use Rattle.c_semantics.specs.Same.{same_type}
use Rattle.c_semantics.specs.Changes.{same_layout}
use Rattle.patch_faults.specs.declared.fault.TransformFault.{TransformFault}
use Rattle.patch_faults.specs.declared.fault.TransformFault.TheVariants.{NotChanged, OldField, Wrong, Memory}
use Rattle.patch_faults.specs.TransformTypes.{Old, AnObject, AValue, infer_old, names_in}

-- a fault of an expression: an unknown field is one of `old`
abbrev pub of_kind : TypeKind → ℕ → TransformFault
of_kind UnknownField place = OldField place
of_kind _ place = Wrong place

abbrev pub of_expression : Fault → TransformFault
of_expression f = of_kind f.kind f.place

-- the faults of a value for a field or a global of a type: its own first one, or that it isn't converted to the type as by
-- assignment (6.5.16.1)
abbrev pub value_faults : List Def → Old → CType → Expr → List TransformFault
value_faults q old t e =
    let value = infer_old (names_in q) old e in map of_expression (required (converts t value.found) value)

-- of `f = e;` in the transformer of a struct with these fields in p and in q
abbrev pub field_faults : List Def → List Binding → List Binding → FieldValue → List TransformFault
field_faults q old new given =
    option_map_or (λ t. value_faults q (AnObject old) t given.value) (member new given.field.text) []

-- of `dsu_transform struct T { .. }` at a place: the layout of T changes, or T isn't in p
abbrev pub struct_faults : List Def → ℕ → Option (List Binding) → Option (List Binding) → List FieldValue → List TransformFault
struct_faults q place (Some old) (Some new) values =
    if same_layout (map bare_binding old) (map bare_binding new)
    then NotChanged place ∷ []
    else flat_map (field_faults q old new) values
struct_faults q place _ _ values = NotChanged place ∷ []

-- of `dsu_transform g = e;` at a place: g is a variable of another type in p than in q
abbrev pub global_faults : List Def → ℕ → Option Meaning → Option Meaning → Expr → List TransformFault
global_faults q place (Some (AVariable old)) (Some (AVariable new)) e =
    if same_type (bare_type old) (bare_type new) then NotChanged place ∷ [] else value_faults q (AValue old) new e
global_faults q place _ _ e = NotChanged place ∷ []

-- of a definition at a place
abbrev pub faults_at : List Def → List Def → ℕ → DefKind → List TransformFault
faults_at p q place (TransformStruct t) = struct_faults q place (members_of p t.name.text) (members_of q t.name.text) t.values
faults_at p q place (TransformGlobal name e) = global_faults q place (defined p name.text) (defined q name.text) e
faults_at p q place _ = []

-- the faults of the transformers of text q, which follows text p
abbrev pub transform_faults : List Def → List Def → List TransformFault
transform_faults p q = flat_map (λ d. faults_at p q d.place d.kind) q

-- where a fault is
abbrev pub place_of : TransformFault → ℕ
place_of (NotChanged place) = place
place_of (OldField place) = place
place_of (Wrong place) = place
place_of Memory = 0

-- the first of a fault and another that may be there, by place
abbrev pub earlier : TransformFault → Option TransformFault → TransformFault
earlier a None = a
earlier a (Some b) = if nat_lt (place_of b) (place_of a) then b else a

-- the first of some faults by place
abbrev pub first : List TransformFault → Option TransformFault
first [] = None
first (a ∷ more) = Some (earlier a (first more))

-- the fault that is reported
abbrev pub first_transform_fault : List Def → List Def → Option TransformFault
first_transform_fault p q = first (transform_faults p q)
