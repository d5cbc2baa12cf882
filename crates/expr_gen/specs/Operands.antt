-- The operands of an expression: the parts of its tree that are evaluated before what the expression does itself.
use Rattle.std.specs.Prelude.{ℕ, [], ◌∷◌, ◌++◌, Option, Some, None}
use Rattle.c_ints.specs.declared.int.Int.{Int}
use Rattle.c_semantics.specs.Texts.{Definitions}
use Rattle.c_semantics.specs.Resolved.{Expression}
use Rattle.c_semantics.specs.Resolved as tree
use Rattle.c_semantics.specs.Points.{size, size_all, size_read}
use Rattle.typed_trees.specs.ValueTypes.{Environment}
use Rattle.typed_trees.specs.ExpressionTypes.{type_of}
use Rattle.resolved_tree.specs.declared.node.NodeId.{NodeId}
use Rattle.resolved_tree.specs.declared.node.Place.{Place}
use Rattle.resolved_tree.specs.declared.node.Place.TheVariants.{Local, Global, Element, Field}
use Rattle.resolved_tree.specs.declared.node.ExpressionNode.{ExpressionNode}
use Rattle.resolved_tree.specs.declared.node.ExpressionNode.TheVariants.{Constant, Read, Unary, Binary, Convert, And, Or, Choice, Assign, Update, Postfix, Call, Print, New, Free, Create, Join, JoinInto, InitMutex, Lock, Unlock}
use Rattle.resolved_tree.specs.Nodes.{Table, expression_at, arguments_at}
use Rattle.local_evaluation.specs.Weights.{of_expression, of_expressions}
use Rattle.bytecode.specs.declared.kind.ValueKind.{ValueKind}
use Rattle.tree_code.specs.Code.{Code, kind_of_type, constant_of, value, values, copying, getting}
use Rattle.expr_gen.specs.declared.operand.Operand.{Operand}
use Rattle.expr_gen.specs.declared.operand.Operand.TheVariants.{Nothing, Value, Arguments}
use Rattle.expr_gen.specs.declared.operand.Operands.{Operands}
use Rattle.expr_gen.specs.Kinds.{int_kind}

-- one operand, two operands
abbrev pub two_operands : Operand → Operand → Operands
two_operands first second = record { first = first; second = second }

abbrev pub one_operand : Operand → Operands
one_operand first = two_operands first Nothing

-- the part of a place: its index or its handle
abbrev pub part_of : Place → Operand
part_of (Local name) = Nothing
part_of (Global name) = Nothing
part_of (Element name index) = Value index
part_of (Field tag handle name) = Value handle

-- what is converted; a constant isn't evaluated
abbrev pub unless_constant : Option Int → NodeId → Operand
unless_constant (Some n) a = Nothing
unless_constant None a = Value a

-- those of an expression; the parts of `&&`, `||` and `?:` are evaluated under tests
abbrev pub operands_of : Table → ExpressionNode → Operands
operands_of t (Constant n) = one_operand Nothing
operands_of t (Read p) = one_operand (part_of p)
operands_of t (Unary op a) = one_operand (Value a)
operands_of t (Binary op a b) = two_operands (Value a) (Value b)
operands_of t (Convert type a) = one_operand (unless_constant (constant_of (expression_at t a)) a)
operands_of t (And a b) = one_operand Nothing
operands_of t (Or a b) = one_operand Nothing
operands_of t (Choice c a b) = one_operand Nothing
operands_of t (Assign p e) = two_operands (part_of p) (Value e)
operands_of t (Update type op p e) = two_operands (part_of p) (Value e)
operands_of t (Postfix type op p) = one_operand (part_of p)
operands_of t (Call name es) = one_operand (Arguments es)
operands_of t (Print format es) = one_operand (Arguments es)
operands_of t (New tag) = one_operand Nothing
operands_of t (Free tag e) = one_operand (Value e)
operands_of t (Create p name e) = two_operands (part_of p) (Value e)
operands_of t (Join e) = one_operand (Value e)
operands_of t (JoinInto e p) = two_operands (Value e) (part_of p)
operands_of t (InitMutex name) = one_operand Nothing
operands_of t (Lock name) = one_operand Nothing
operands_of t (Unlock name) = one_operand Nothing

-- the code of an operand whose first point is n, its number of points, the kind of its value where it has one, its weight
abbrev pub operand_code : Table → Definitions → Environment → Operand → ℕ → Code
operand_code t look env Nothing n = []
operand_code t look env (Value e) n = value look env (expression_at t e) n
operand_code t look env (Arguments es) n = values look env (arguments_at t es) n

abbrev pub operand_size : Table → Operand → ℕ
operand_size t Nothing = 0
operand_size t (Value e) = size (expression_at t e)
operand_size t (Arguments es) = size_all (arguments_at t es)

abbrev pub operand_kind : Table → Definitions → Environment → Operand → ValueKind
operand_kind t look env Nothing = int_kind
operand_kind t look env (Value e) = kind_of_type (type_of look env (expression_at t e))
operand_kind t look env (Arguments es) = int_kind

abbrev pub operand_weight : Table → Operand → ℕ
operand_weight t Nothing = 0
operand_weight t (Value e) = of_expression (expression_at t e)
operand_weight t (Arguments es) = of_expressions (arguments_at t es)

-- what a compound assignment does between its operands: it reads its place, whose part is still needed
abbrev pub between : Environment → Expression → ℕ → Code
between env (tree.Update type op p e) r = copying p ++ getting env p r ∷ []
between env _ r = []

abbrev pub size_between : Expression → ℕ
size_between (tree.Update type op p e) = size_read p
size_between _ = 0
