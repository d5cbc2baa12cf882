-- Transformers by themselves, for the contracts of private functions: what the rules of their types come to where each
-- expression has only forms that a transformer can have, and the tags of its casts are known. Then no name of the newer text
-- is looked up in an expression.
use Rattle.std.specs.Prelude.{ℕ, List, [], ◌∷◌, ◌++◌, map, flat_map, Option, Some, None, if◌then◌else◌}
use Rattle.c_ints.specs.declared.operator.BinOp.{BinOp}
use Rattle.c_ints.specs.declared.operator.UnOp.{UnOp}
use Rattle.c_ints.specs.Number.{kind_of}
use Rattle.c_ints.specs.Arithmetic.{unary_kind}
use Rattle.c_tree.specs.Bare.{bare_binding, bare_type}
use Rattle.c_tree.specs.declared.name.Name.{Name}
use Rattle.c_tree.specs.declared.name.CType.{CType}
use Rattle.c_tree.specs.declared.name.CType.TheVariants.{Integer}
use Rattle.c_tree.specs.declared.expr.Expr.{Expr}
use Rattle.c_tree.specs.declared.expr.Expr.TheFolds.{fold-Expr}
use Rattle.c_tree.specs.declared.expr.ExprNode.{ExprNode}
use Rattle.c_tree.specs.declared.expr.ExprNode.TheVariants.{Number, Character, Null, Variable, Unary, Cast, Binary, Choice, Dot}
use Rattle.c_tree.specs.declared.def.Binding.{Binding}
use Rattle.c_tree.specs.declared.def.FieldValue.{FieldValue}
use Rattle.c_tree.specs.declared.def.Def.{Def}
use Rattle.c_tree.specs.declared.def.DefKind.{DefKind}
use Rattle.c_tree.specs.declared.def.DefKind.TheVariants.{TransformStruct, TransformGlobal}
use Rattle.c_definitions.specs.Lookup.{Meaning, defined, members_of}
use Rattle.c_definitions.specs.Lookup.Meaning.{AVariable}
use Rattle.c_expr_types.specs.Expressions.{number_type, is_unary_operand, is_operand, is_condition, binary, choice}
use Rattle.c_definitions.specs.Lookup.{member}
use Rattle.c_expr_types.specs.Found.{after, converts, is_comparable, kind_in, required}
use Rattle.c_expr_types.specs.declared.found.Found.{Found}
use Rattle.c_expr_types.specs.declared.found.Found.TheVariants.{Value, Null as NullValue, Nothing}
use Rattle.c_expr_types.specs.declared.found.Part.{Part}
use Rattle.c_semantics.specs.Same.{same_type}
use Rattle.c_semantics.specs.Changes.{same_layout}
use Rattle.patch_faults.specs.declared.fault.TransformFault.{TransformFault}
use Rattle.patch_faults.specs.declared.fault.TransformFault.TheVariants.{NotChanged}
use Rattle.patch_faults.specs.TransformTypes.{Old, AnObject, AValue, is_object, by_itself, type_in, field_value}
use Rattle.patch_faults.specs.TransformFaults.{of_expression, earlier}

-- `op a`
abbrev pub unary_of : UnOp → Part → Found
unary_of op a = after (required (is_unary_operand op a.found) a) (Value (Integer (unary_kind op (kind_in a))))

-- `(T) a`
abbrev pub cast_of : CType → Part → Found
cast_of t a = after (required (converts t a.found) a) (Value t)

-- `a op b`
abbrev pub binary_of : BinOp → ℕ → Part → Part → Found
binary_of op at a b = after (required (is_operand op a.found) a ++ required (is_operand op b.found) b) (binary op at a b)

-- `a ? b : c`
abbrev pub choice_of : ℕ → Part → Part → Part → Found
choice_of at a b c =
    after (required (is_condition a.found) a ++ (required (is_comparable b.found) b ++ required (is_comparable c.found) c))
    (choice at b c)

-- `a.name`, where a is `old`
abbrev pub field_of : Old → Part → Name → Found
field_of old a name = after (required (is_object old) a) (field_value (type_in old name.text) name.place)

-- an expression of its parts
abbrev pub found_alone : Old → ℕ → ExprNode Part → Found
found_alone old at (Number n) = number_type n
found_alone old at (Character n) = Value (Integer (kind_of n))
found_alone old at Null = NullValue
found_alone old at (Variable name) = by_itself old
found_alone old at (Unary op a) = unary_of op a
found_alone old at (Cast t a) = cast_of t a
found_alone old at (Binary op a b) = binary_of op at a b
found_alone old at (Choice a b c) = choice_of at a b c
found_alone old at (Dot a name) = field_of old a name
found_alone old at _ = Nothing

abbrev pub part_alone : Old → ℕ → ExprNode Part → Part
part_alone old at node = record { place = at; found = found_alone old at node }

-- an expression
abbrev pub infer_alone : Old → Expr → Part
infer_alone old = fold-Expr Part (λ e. part_alone old e.place e.node)

-- the faults of a value for a field or a global of a type
abbrev pub value_faults_alone : Old → CType → Expr → List TransformFault
value_faults_alone old t e = let value = infer_alone old e in map of_expression (required (converts t value.found) value)

-- of `f = e;` in a struct's transformer, where f has a type
abbrev pub given_faults : Old → Option CType → Expr → List TransformFault
given_faults old None e = []
given_faults old (Some t) e = value_faults_alone old t e

abbrev pub field_faults_alone : List Binding → List Binding → FieldValue → List TransformFault
field_faults_alone old new given = given_faults (AnObject old) (member new given.field.text) given.value

-- of a struct's transformer, by the fields of the struct in both texts
abbrev pub struct_faults_alone : ℕ → Option (List Binding) → Option (List Binding) → List FieldValue → List TransformFault
struct_faults_alone place (Some old) (Some new) values =
    if same_layout (map bare_binding old) (map bare_binding new)
    then NotChanged place ∷ []
    else flat_map (field_faults_alone old new) values
struct_faults_alone place _ _ values = NotChanged place ∷ []

-- the type of a variable
abbrev pub variable_type : Option Meaning → Option CType
variable_type (Some (AVariable t)) = Some t
variable_type _ = None

-- of a global's transformer, by its types in both texts
abbrev pub global_faults_alone : ℕ → Option CType → Option CType → Expr → List TransformFault
global_faults_alone place (Some old) (Some new) e =
    if same_type (bare_type old) (bare_type new) then NotChanged place ∷ [] else value_faults_alone (AValue old) new e
global_faults_alone place _ _ e = NotChanged place ∷ []

-- of a definition at a place
abbrev pub faults_at_alone : List Def → List Def → ℕ → DefKind → List TransformFault
faults_at_alone p q place (TransformStruct t) =
    struct_faults_alone place (members_of p t.name.text) (members_of q t.name.text) t.values
faults_at_alone p q place (TransformGlobal name e) =
    global_faults_alone place (variable_type (defined p name.text)) (variable_type (defined q name.text)) e
faults_at_alone p q place _ = []

-- the first of two faults that may be there, by place
abbrev pub sooner : Option TransformFault → Option TransformFault → Option TransformFault
sooner None b = b
sooner (Some a) b = Some (earlier a b)
