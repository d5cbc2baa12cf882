-- The types of a transformer's expressions: those of an initialiser of a global of the newer text, but for the word `old`,
-- whose types are those of the older text.
use Rattle.std.specs.Prelude.{ℕ, Bool, true, false, List, [], Option, Some, None}
use Rattle.c_tree.specs.BareExpr.{Bytes}
use Rattle.c_tree.specs.declared.name.CType.{CType}
use Rattle.c_tree.specs.declared.expr.Expr.{Expr}
use Rattle.c_tree.specs.declared.expr.Expr.TheFolds.{fold-Expr}
use Rattle.c_tree.specs.declared.expr.ExprNode.{ExprNode}
use Rattle.c_tree.specs.declared.expr.ExprNode.TheVariants.{Variable, Dot}
use Rattle.c_tree.specs.declared.def.Binding.{Binding}
use Rattle.c_tree.specs.declared.def.Def.{Def}
use Rattle.c_definitions.specs.Lookup.{Names}
use Rattle.c_expr_types.specs.Found.{after, required, wrong}
use Rattle.c_definitions.specs.Lookup.{member}
use Rattle.c_expr_types.specs.Expressions.{part}
use Rattle.c_expr_types.specs.declared.fault.TypeKind.TheVariants.{UnknownField}
use Rattle.c_definitions.specs.declared.lookup.Position.TheVariants.{InInitialiser}
use Rattle.c_expr_types.specs.declared.found.Found.{Found}
use Rattle.c_expr_types.specs.declared.found.Found.TheVariants.{Value, Designator}
use Rattle.c_expr_types.specs.declared.found.Part.{Part}

-- what `old` is: an object of a struct with these fields, or a value of a type
pub data Old : Type 0 where
  AnObject : List Binding → Old
  AValue : CType → Old

abbrev pub is_object : Old → Bool
is_object (AnObject fields) = true
is_object (AValue t) = false

-- `old` by itself: an object is no value
abbrev pub by_itself : Old → Found
by_itself (AnObject fields) = Designator
by_itself (AValue t) = Value t

-- the type of `old.f`
abbrev pub type_in : Old → Bytes → Option CType
type_in (AnObject fields) name = member fields name
type_in (AValue t) name = None

-- a field of that type, or one that isn't there
abbrev pub field_value : Option CType → ℕ → Found
field_value (Some t) at = Value t
field_value None at = wrong UnknownField at

-- in what the names of types are looked up
abbrev pub names_in : List Def → Names
names_in text = record { text = text; scopes = []; position = InInitialiser }

-- an expression of its parts. In a transformer each name is `old`, and what is before a dot is `old`, where the text types
abbrev pub part_of : Names → Old → ℕ → ExprNode Part → Part
part_of names old at (Variable name) = record { place = at; found = by_itself old }
part_of names old at (Dot a field) = record {
  place = at;
  found = after (required (is_object old) a) (field_value (type_in old field.text) field.place);
}
part_of names old at node = part names at node

-- an expression
abbrev pub infer_old : Names → Old → Expr → Part
infer_old names old = fold-Expr Part (λ e. part_of names old e.place e.node)
