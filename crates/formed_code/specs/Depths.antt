-- How many words the code of a tree has on the stack at most, beside those under it.
use Rattle.std.specs.Prelude.{ℕ, suc, ◌+◌, max, Option, Some, None}
use Rattle.c_semantics.specs.Resolved.{Expression, Expressions, Place, Statement, Statements, Constant, Read, Unary, Binary, Convert, And, Or, Choice, Assign, Update, Postfix, Call, Print, New, Free, Create, Join, JoinInto, InitMutex, Lock, Unlock, NoExpressions, ExpressionThen, Local, Global, Element, Field, Block, Evaluate, Declare, If, IfElse, While, DoWhile, For, Return, Transaction, NoStatements, StatementThen}

-- the words of a place's part, its index or its handle
abbrev pub part_words : Place → ℕ
part_words (Local name) = 0
part_words (Global name) = 0
part_words (Element name index) = 1
part_words (Field tag handle name) = 1

-- an expression, arguments, the parts of a place; a word that is stored in a variable is copied before
abbrev mutual
  pub depth : Expression → ℕ
  depth (Constant n) = 1
  depth (Read p) = max 1 (depth_parts p)
  depth (Unary op a) = depth a
  depth (Binary op a b) = max (depth a) (suc (depth b))
  depth (Convert type a) = depth a
  depth (And a b) = max (depth a) (depth b)
  depth (Or a b) = max (depth a) (depth b)
  depth (Choice c a b) = max (depth c) (max (depth a) (depth b))
  depth (Assign p e) = max (depth_parts p) (part_words p + max 2 (depth e))
  depth (Update type op p e) = max (depth_parts p) (part_words p + suc (depth e))
  depth (Postfix type op p) = max (depth_parts p) (part_words p + 3)
  depth (Call name arguments) = max 1 (depth_all arguments)
  depth (Print format arguments) = max 1 (depth_all arguments)
  depth (New tag) = 1
  depth (Free tag e) = depth e
  depth (Create p name e) = max (depth_parts p) (part_words p + max 2 (depth e))
  depth (Join e) = depth e
  depth (JoinInto e p) = max (depth e) (suc (max (depth_parts p) (suc (part_words p))))
  depth (InitMutex name) = 1
  depth (Lock name) = 1
  depth (Unlock name) = 1

  pub depth_all : Expressions → ℕ
  depth_all NoExpressions = 0
  depth_all (ExpressionThen e es) = max (depth e) (suc (depth_all es))

  pub depth_parts : Place → ℕ
  depth_parts (Local name) = 0
  depth_parts (Global name) = 0
  depth_parts (Element name index) = depth index
  depth_parts (Field tag handle name) = depth handle

abbrev pub depth_if : Option Expression → ℕ
depth_if None = 0
depth_if (Some e) = depth e

-- a statement, and statements in order; the first word of a variable is one
abbrev mutual
  pub depth_stmt : Statement → ℕ
  depth_stmt (Block ss) = depth_stmts ss
  depth_stmt (Evaluate e) = depth e
  depth_stmt (Declare type name e) = max 1 (depth_if e)
  depth_stmt (If c s) = max (depth c) (depth_stmt s)
  depth_stmt (IfElse c s t) = max (depth c) (max (depth_stmt s) (depth_stmt t))
  depth_stmt (While c s) = max (depth c) (depth_stmt s)
  depth_stmt (DoWhile s c) = max (depth_stmt s) (depth c)
  depth_stmt (For first test step s) = max (depth_stmts first) (max (depth_if test) (max (depth_if step) (depth_stmt s)))
  depth_stmt (Return e) = depth e
  depth_stmt (Transaction ss) = depth_stmts ss
  depth_stmt _ = 0

  pub depth_stmts : Statements → ℕ
  depth_stmts NoStatements = 0
  depth_stmts (StatementThen s ss) = max (depth_stmt s) (depth_stmts ss)
