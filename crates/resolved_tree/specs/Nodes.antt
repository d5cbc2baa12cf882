-- The trees in one table: each node is a tree whose parts are trees before it.
use Rattle.std.specs.Prelude.{ℕ, pos, List, [], ◌∷◌, ◌++◌, slice_index_or, Option}
use Rattle.std.specs.Option.{option_map}
use Rattle.c_ints.specs.declared.kind.Kind.TheVariants.{I32}
use Rattle.c_ints.specs.Number.{number}
use Rattle.c_tree.specs.BareExpr.{Bytes, BareType}
use Rattle.c_tree.specs.BareExpr as type
use Rattle.c_semantics.specs.Resolved.{Expression, Expressions, Place, Statement, Statements, NoExpressions, NoStatements}
use Rattle.c_semantics.specs.Resolved as tree
use Rattle.c_semantics.specs.Points.{size, size_all, size_stmt, size_stmts}
use Rattle.resolved_tree.specs.declared.node.NodeId.{NodeId}
use Rattle.resolved_tree.specs.declared.node.ValueType.{ValueType}
use Rattle.resolved_tree.specs.declared.node.ValueType.TheVariants.{Integer, Handle, Thread}
use Rattle.resolved_tree.specs.declared.node.Place.{Place as PlaceNode}
use Rattle.resolved_tree.specs.declared.node.Place.TheVariants.{Local, Global, Element, Field}
use Rattle.resolved_tree.specs.declared.node.ExpressionNode.{ExpressionNode}
use Rattle.resolved_tree.specs.declared.node.ExpressionNode.TheVariants.{Constant, Read, Unary, Binary, Convert, And, Or, Choice, Assign, Update, Postfix, Call, Print, New, Free, Create, Join, JoinInto, InitMutex, Lock, Unlock}
use Rattle.resolved_tree.specs.declared.node.ArgumentsNode.{ArgumentsNode}
use Rattle.resolved_tree.specs.declared.node.ArgumentsNode.TheVariants.{None as NoArguments, Then as ArgumentThen}
use Rattle.resolved_tree.specs.declared.node.StatementNode.{StatementNode}
use Rattle.resolved_tree.specs.declared.node.StatementNode.TheVariants.{Block, Empty, Evaluate, Declare, If, IfElse, While, DoWhile, For, Break, Continue, Return, UpdatePoint, Transaction}
use Rattle.resolved_tree.specs.declared.node.StatementsNode.{StatementsNode}
use Rattle.resolved_tree.specs.declared.node.StatementsNode.TheVariants.{None as Nothing, Then as StatementThen}
use Rattle.resolved_tree.specs.declared.node.Node.{Node}
use Rattle.resolved_tree.specs.declared.node.Node.TheVariants.{Expression as ExpressionIs, Arguments as ArgumentsAre, Statement as StatementIs, Statements as StatementsAre}
use Rattle.resolved_tree.specs.declared.words.Word.{Word}
use Rattle.resolved_tree.specs.Words.{text_of}

-- a tree of the table
pub data Tree : Type 0 where
  expression : Expression → Tree
  arguments : Expressions → Tree
  statement : Statement → Tree
  statements : Statements → Tree

-- a constant 0, which stands where an expression should be and isn't
abbrev pub zero_constant : Expression
zero_constant = tree.Constant (number I32 (pos 0))

-- a tree as what it should be
abbrev pub as_expression : Tree → Expression
as_expression (expression e) = e
as_expression _ = zero_constant

abbrev pub as_arguments : Tree → Expressions
as_arguments (arguments es) = es
as_arguments _ = NoExpressions

abbrev pub as_statement : Tree → Statement
as_statement (statement s) = s
as_statement _ = tree.Empty

abbrev pub as_statements : Tree → Statements
as_statements (statements ss) = ss
as_statements _ = NoStatements

-- the texts of the words, and the trees
pub record Table : Type 0 where
  pub words : List Bytes
  pub trees : List Tree

-- the tree with a number; where there is none, a constant 0 stands
abbrev pub tree_at : Table → NodeId → Tree
tree_at t id = slice_index_or t.trees id.0 (expression zero_constant)

abbrev pub expression_at : Table → NodeId → Expression
expression_at t id = as_expression (tree_at t id)

abbrev pub arguments_at : Table → NodeId → Expressions
arguments_at t id = as_arguments (tree_at t id)

abbrev pub statement_at : Table → NodeId → Statement
statement_at t id = as_statement (tree_at t id)

abbrev pub statements_at : Table → NodeId → Statements
statements_at t id = as_statements (tree_at t id)

-- and where there may be none
abbrev pub expression_if : Table → Option NodeId → Option Expression
expression_if t id = option_map (expression_at t) id

-- the bytes of a word
abbrev pub word : Table → Word → Bytes
word t w = text_of t.words w

-- a type
abbrev pub type_of : Table → ValueType → BareType
type_of t (Integer kind) = type.Integer kind
type_of t (Handle tag) = type.Handle (word t tag)
type_of t Thread = type.Thread

-- a place
abbrev pub place_of : Table → PlaceNode → Place
place_of t (Local name) = tree.Local (word t name)
place_of t (Global name) = tree.Global (word t name)
place_of t (Element name index) = tree.Element (word t name) (expression_at t index)
place_of t (Field tag handle name) = tree.Field (word t tag) (expression_at t handle) (word t name)

-- what a node is with the trees of its parts
abbrev pub expression_of : Table → ExpressionNode → Expression
expression_of t (Constant n) = tree.Constant n
expression_of t (Read p) = tree.Read (place_of t p)
expression_of t (Unary op a) = tree.Unary op (expression_at t a)
expression_of t (Binary op a b) = tree.Binary op (expression_at t a) (expression_at t b)
expression_of t (Convert type a) = tree.Convert (type_of t type) (expression_at t a)
expression_of t (And a b) = tree.And (expression_at t a) (expression_at t b)
expression_of t (Or a b) = tree.Or (expression_at t a) (expression_at t b)
expression_of t (Choice c a b) = tree.Choice (expression_at t c) (expression_at t a) (expression_at t b)
expression_of t (Assign p e) = tree.Assign (place_of t p) (expression_at t e)
expression_of t (Update type op p e) = tree.Update (type_of t type) op (place_of t p) (expression_at t e)
expression_of t (Postfix type op p) = tree.Postfix (type_of t type) op (place_of t p)
expression_of t (Call name es) = tree.Call (word t name) (arguments_at t es)
expression_of t (Print format es) = tree.Print (word t format) (arguments_at t es)
expression_of t (New tag) = tree.New (word t tag)
expression_of t (Free tag e) = tree.Free (word t tag) (expression_at t e)
expression_of t (Create p name e) = tree.Create (place_of t p) (word t name) (expression_at t e)
expression_of t (Join e) = tree.Join (expression_at t e)
expression_of t (JoinInto e p) = tree.JoinInto (expression_at t e) (place_of t p)
expression_of t (InitMutex name) = tree.InitMutex (word t name)
expression_of t (Lock name) = tree.Lock (word t name)
expression_of t (Unlock name) = tree.Unlock (word t name)

abbrev pub arguments_of : Table → ArgumentsNode → Expressions
arguments_of t NoArguments = NoExpressions
arguments_of t (ArgumentThen e es) = tree.ExpressionThen (expression_at t e) (arguments_at t es)

abbrev pub statement_of : Table → StatementNode → Statement
statement_of t (Block ss) = tree.Block (statements_at t ss)
statement_of t Empty = tree.Empty
statement_of t (Evaluate e) = tree.Evaluate (expression_at t e)
statement_of t (Declare type name e) = tree.Declare (type_of t type) (word t name) (expression_if t e)
statement_of t (If c s) = tree.If (expression_at t c) (statement_at t s)
statement_of t (IfElse c a b) = tree.IfElse (expression_at t c) (statement_at t a) (statement_at t b)
statement_of t (While c s) = tree.While (expression_at t c) (statement_at t s)
statement_of t (DoWhile s c) = tree.DoWhile (statement_at t s) (expression_at t c)
statement_of t (For first test step s) =
    tree.For (statements_at t first) (expression_if t test) (expression_if t step) (statement_at t s)
statement_of t Break = tree.Break
statement_of t Continue = tree.Continue
statement_of t (Return e) = tree.Return (expression_at t e)
statement_of t UpdatePoint = tree.UpdatePoint
statement_of t (Transaction ss) = tree.Transaction (statements_at t ss)

abbrev pub statements_of : Table → StatementsNode → Statements
statements_of t Nothing = NoStatements
statements_of t (StatementThen s ss) = tree.StatementThen (statement_at t s) (statements_at t ss)

abbrev pub made : Table → Node → Tree
made t (ExpressionIs n) = expression (expression_of t n)
made t (ArgumentsAre n) = arguments (arguments_of t n)
made t (StatementIs n) = statement (statement_of t n)
made t (StatementsAre n) = statements (statements_of t n)

-- a table with one more tree
abbrev pub with_node : Table → Node → Table
with_node t node = record t { trees = t.trees ++ made t node ∷ [] }

-- how many points a tree has
abbrev pub points_of : Tree → ℕ
points_of (expression e) = size e
points_of (arguments es) = size_all es
points_of (statement s) = size_stmt s
points_of (statements ss) = size_stmts ss
