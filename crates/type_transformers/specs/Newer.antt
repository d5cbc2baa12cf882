-- What is found in a newer text, for the contracts of private functions.
use Rattle.std.specs.Prelude.{◌≤◌, List, [], map, length, Option, Some, None, IfSome}
use Rattle.c_tree.specs.BareExpr.{Bytes}
use Rattle.c_tree.specs.declared.expr.Expr.{Expr}
use Rattle.c_tree.specs.declared.def.Binding.{Binding}
use Rattle.c_tree.specs.declared.def.FieldValue.{FieldValue}
use Rattle.c_tree.specs.declared.def.Def.{Def}
use Rattle.c_tree.specs.declared.def.DefKind.{DefKind}
use Rattle.c_tree.specs.declared.def.DefKind.TheVariants as kind
use Rattle.c_definitions.specs.Lookup.{declared_as}
use Rattle.versioned_structs.specs.Limits.{most_fields}
use Rattle.type_transformers.specs.declared.newer.Target.{Target}
use Rattle.type_transformers.specs.declared.newer.Target.TheVariants.{Struct, Global}

-- the name of what a transformer transforms
abbrev pub target_name : Target → DefKind → Option Bytes
target_name Struct (kind.TransformStruct t) = Some t.name.text
target_name Global (kind.TransformGlobal name e) = Some name.text
target_name _ _ = None

abbrev pub keys : Target → List Def → List (Option Bytes)
keys target ds = map (λ d. target_name target d.kind) ds

-- what a struct's transformer gives
abbrev pub values_in : DefKind → List FieldValue
values_in (kind.TransformStruct t) = t.values
values_in _ = []

-- what a global's transformer gives
abbrev pub expr_in : DefKind → Option Expr
expr_in (kind.TransformGlobal name e) = Some e
expr_in _ = None

-- the members of a struct's definition
abbrev pub members_in : DefKind → List Binding
members_in (kind.Struct tag members) = members
members_in _ = []

-- no struct has more fields than an object can have
abbrev pub HasSmallStructs : List Def → Type 0
HasSmallStructs ds = (name : Bytes) → IfSome (declared_as ds name) (λ d. length (members_in d.kind) ≤ most_fields)
