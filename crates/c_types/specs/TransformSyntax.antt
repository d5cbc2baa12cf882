-- The syntax of transformers. What types they have is a matter of the text that they are offered to.
use Rattle.std.specs.Prelude.{Bool, true, false, not, ◌&&◌, List, [], ◌∷◌, Option, Some, None, is_some, codes}
use Rattle.std.specs.List.{list_any}
use Rattle.std.specs.Str.{bytes_eq}
use Rattle.c_tree.specs.BareExpr.{Bytes}
use Rattle.c_tree.specs.declared.expr.Expr.{Expr}
use Rattle.c_tree.specs.declared.expr.Expr.TheFolds.{fold-Expr}
use Rattle.c_tree.specs.declared.expr.ExprNode.{ExprNode}
use Rattle.c_tree.specs.declared.expr.ExprNode.TheVariants.{Number, Character, Null, Variable, Unary, Cast, Binary, Choice, Dot}
use Rattle.c_tree.specs.declared.def.Binding.{Binding}
use Rattle.c_tree.specs.declared.def.FieldValue.{FieldValue}
use Rattle.c_tree.specs.declared.def.Def.{Def}
use Rattle.c_tree.specs.declared.def.DefKind.{DefKind}
use Rattle.c_tree.specs.declared.def.DefKind.TheVariants as kind
use Rattle.c_definitions.specs.Lookup.{Meaning, is_known}
use Rattle.c_definitions.specs.Lookup.Meaning.{AVariable, AnArray}
use Rattle.c_expr_types.specs.Expressions.{is_safe}
use Rattle.c_definitions.specs.Lookup.{member}

-- an expression of a transformer: whether its operators and names are allowed, and whether it is the name `old`
pub record Form : Type 0 where
  pub is_allowed : Bool
  pub is_old : Bool

-- by its parts: literals, NULL, casts to types of the text, `+ - * & | ^ ~ !`, comparisons and `?:`; the one name is `old`,
-- and `.` stands only after it
abbrev pub allows : List Def → ExprNode Form → Bool
allows text (Number n) = true
allows text (Character n) = true
allows text Null = true
allows text (Variable name) = bytes_eq name (codes "old")
allows text (Unary op a) = a.is_allowed
allows text (Cast t a) = is_known text t && a.is_allowed
allows text (Binary op a b) = is_safe op && a.is_allowed && b.is_allowed
allows text (Choice a b c) = a.is_allowed && b.is_allowed && c.is_allowed
allows text (Dot a field) = a.is_old
allows text _ = false

abbrev pub names_old : ExprNode Form → Bool
names_old (Variable name) = bytes_eq name (codes "old")
names_old _ = false

abbrev pub form : List Def → ExprNode Form → Form
form text node = record { is_allowed = allows text node; is_old = names_old node }

abbrev pub form_of : List Def → Expr → Form
form_of text = fold-Expr Form (λ e. form text e.node)

abbrev pub is_transforming : List Def → Expr → Bool
is_transforming text e = (form_of text e).is_allowed

-- each field that is given a value is one of the struct's, none twice, and each value is allowed
abbrev pub transforms_fields : List Def → List Binding → List FieldValue → Bool
transforms_fields text members [] = true
transforms_fields text members (v ∷ vs) =
    is_some (member members v.field.text)
    && not (list_any (λ w. bytes_eq v.field.text w.field.text) vs)
    && is_transforming text v.value
    && transforms_fields text members vs

-- of a struct that the text defines
abbrev pub transforms_struct : List Def → Option (List Binding) → List FieldValue → Bool
transforms_struct text None values = false
transforms_struct text (Some members) values = transforms_fields text members values

-- what a global's transformer may speak of: a global variable or array
abbrev pub is_global : Option Meaning → Bool
is_global (Some (AVariable t)) = true
is_global (Some (AnArray t)) = true
is_global _ = false

-- the definition is a transformer of the struct of a tag
abbrev pub of_struct : Bytes → DefKind → Bool
of_struct tag (kind.TransformStruct t) = bytes_eq tag t.name.text
of_struct tag _ = false

-- the definition is a transformer of the global of a name
abbrev pub of_global : Bytes → DefKind → Bool
of_global name (kind.TransformGlobal global e) = bytes_eq name global.text
of_global name _ = false
