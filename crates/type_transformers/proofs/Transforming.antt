-- What a text's first transformer of a name gives.
use Rattle.std.proofs.Common.{◌≡◌, ℕ, Bool, true, false, List, [], ◌∷◌, map, find, Option, None, Some, option_map, bytes_eq, refl, if◌then◌else◌}
use Rattle.std.specs.Prelude.{unwrap_or, option_and_then}
use Rattle.std.specs.Option.{option_map_or, option_or}
use Rattle.c_tree.specs.BareExpr.{Bytes, BareExpr}
use Rattle.c_tree.specs.Bare.{bare_def, bare_kind, bare_expr, bare_field_value}
use Rattle.c_tree.specs.BareDef.{BareFieldValue}
use Rattle.c_tree.specs.declared.def.Def.{Def}
use Rattle.c_tree.specs.declared.def.DefKind.{DefKind}
use Rattle.c_tree.specs.declared.def.DefKind.TheVariants as kind
use Rattle.c_definitions.specs.Index.{is_key}
use Rattle.c_semantics.specs.Transformers.{given_by, given_fields, value_by, given_value}
use Rattle.type_transformers.specs.declared.newer.Target.TheVariants.{Struct, Global}
use Rattle.type_transformers.specs.Newer.{target_name, values_in, expr_in}

abbrev fields_of : Option Def → List BareFieldValue
fields_of o = map bare_field_value (option_map_or (λ d. values_in d.kind) o [])

fields_kind : (place : ℕ) (k : DefKind) (tag : Bytes) (rest : List BareFieldValue) (found : Option Def) → rest ≡ fields_of found
    → unwrap_or (given_by tag (bare_kind k)) rest
    ≡ fields_of (if is_key tag (target_name Struct k) then Some (record { place = place; kind = k }) else found)
fields_kind place (kind.TransformStruct t) tag rest found is = by (bytes_eq tag t.name.text)
  where
    by : (b : Bool) → unwrap_or (if b then Some (map bare_field_value t.values) else None) rest
        ≡ fields_of (if b then Some (record { place = place; kind = kind.TransformStruct t }) else found)
    by true = refl
    by false = is
fields_kind place _ tag rest found is = is

pub fields_given : (ds : List Def) (tag : Bytes)
    → given_fields (map bare_def ds) tag
    ≡ map bare_field_value (option_map_or (λ d. values_in d.kind) (find (λ d. is_key tag (target_name Struct d.kind)) ds) [])
fields_given [] tag = refl
fields_given (d ∷ ds) tag =
    fields_kind d.place d.kind tag (given_fields (map bare_def ds) tag) (find (λ d. is_key tag (target_name Struct d.kind)) ds) (fields_given ds tag)

abbrev value_of : Option Def → Option BareExpr
value_of o = option_map bare_expr (option_and_then (λ d. expr_in d.kind) o)

value_kind : (place : ℕ) (k : DefKind) (name : Bytes) (rest : Option BareExpr) (found : Option Def) → rest ≡ value_of found
    → option_or (value_by name (bare_kind k)) rest
    ≡ value_of (if is_key name (target_name Global k) then Some (record { place = place; kind = k }) else found)
value_kind place (kind.TransformGlobal own e) name rest found is = by (bytes_eq name own.text)
  where
    by : (b : Bool) → option_or (if b then Some (bare_expr e) else None) rest
        ≡ value_of (if b then Some (record { place = place; kind = kind.TransformGlobal own e }) else found)
    by true = refl
    by false = is
value_kind place _ name rest found is = is

pub value_given : (ds : List Def) (name : Bytes)
    → given_value (map bare_def ds) name
    ≡ option_map bare_expr (option_and_then (λ d. expr_in d.kind) (find (λ d. is_key name (target_name Global d.kind)) ds))
value_given [] name = refl
value_given (d ∷ ds) name =
    value_kind d.place d.kind name (given_value (map bare_def ds) name) (find (λ d. is_key name (target_name Global d.kind)) ds) (value_given ds name)
