-- The place in the text of each point of a function: the first byte of the expression or statement that makes it. That of
-- a check-in is the place of what it follows: the called name, `dsu_tx`, its closing brace, `dsu_update`; the entry's is
-- the function's name, and the closing return's the function's closing brace.
--
-- The tree with names resolved is followed along the tree with places. The first has conversions besides, and the second
-- casts, which make no point.
use Rattle.std.specs.Prelude.{ℕ, List, [], ◌∷◌, ◌++◌, map, slice_index_or, drop, Option, Some, None, unwrap_or}
use Rattle.run_types.specs.Skeleton.{PointKind}
use Rattle.c_tree.specs.declared.expr.Expr.{Expr, out-Expr, roll-Expr}
use Rattle.c_tree.specs.declared.expr.Expr.TheFolds.{fold-Expr}
use Rattle.c_tree.specs.declared.expr.ExprNode.{ExprNode}
use Rattle.c_tree.specs.declared.expr.ExprNode.TheVariants as node
use Rattle.c_tree.specs.declared.stmt.Stmt.{Stmt, out-Stmt, roll-Stmt}
use Rattle.c_tree.specs.declared.stmt.StmtNode.{StmtNode}
use Rattle.c_tree.specs.declared.stmt.StmtNode.TheVariants as stmt
use Rattle.c_tree.specs.declared.def.Function.{Function}
use Rattle.c_tree.specs.Bare.{bare_function}
use Rattle.c_semantics.specs.Texts.{Definitions}
use Rattle.c_semantics.specs.Resolved.{Expression, Expressions, Place, Statement, Statements, Constant, Read, Unary, Binary, Convert, And, Or, Choice, Assign, Update, Postfix, Call, Print, New, Free, Create, Join, JoinInto, InitMutex, Lock, Unlock, NoExpressions, ExpressionThen, Local, Global, Element, Field, Block, Empty, Evaluate, Declare, If, IfElse, While, DoWhile, For, Break, Continue, Return, UpdatePoint, Transaction, NoStatements, StatementThen}
use Rattle.c_semantics.specs.Resolution.{resolved_body}
use Rattle.c_semantics.specs.Points.{reads, writes}

-- an expression without its casts
abbrev pub stripped : ℕ → ExprNode Expr → Expr
stripped place (node.Cast to a) = a
stripped place n = roll-Expr (record { place = place; node = n })

abbrev pub without_casts : Expr → Expr
without_casts = fold-Expr Expr (λ e. stripped e.place e.node)

-- the expressions of which an expression without casts is made, in order
abbrev pub operands_of : ExprNode Expr → List Expr
operands_of (node.Unary op a) = a ∷ []
operands_of (node.Step op a) = a ∷ []
operands_of (node.Binary op a b) = a ∷ b ∷ []
operands_of (node.And a b) = a ∷ b ∷ []
operands_of (node.Or a b) = a ∷ b ∷ []
operands_of (node.Choice c a b) = c ∷ a ∷ b ∷ []
operands_of (node.Assign a b) = a ∷ b ∷ []
operands_of (node.Update op a b) = a ∷ b ∷ []
operands_of (node.Call name arguments) = arguments
operands_of (node.Element name a) = a ∷ []
operands_of (node.Arrow a name) = a ∷ []
operands_of (node.Print place format arguments) = arguments
operands_of (node.Free a) = a ∷ []
operands_of (node.Create a name b) = a ∷ b ∷ []
operands_of (node.Join a) = a ∷ []
operands_of (node.JoinInto a b) = a ∷ b ∷ []
operands_of _ = []

abbrev pub operands : Expr → List Expr
operands e = operands_of (out-Expr e).node

-- the operand of that number
abbrev pub operand : ℕ → Expr → Expr
operand k e = slice_index_or (operands e) k e

-- where an expression begins
abbrev pub place_of : Expr → ℕ
place_of e = (out-Expr e).place

-- what stands for an expression or a statement that isn't there; where the trees agree, each is there
abbrev pub nothing : Expr
nothing = roll-Expr (record { place = 0; node = node.Null })

abbrev pub no_statement : Stmt
no_statement = roll-Stmt (record { place = 0; node = stmt.Empty })

-- the place of each of some points that an expression makes itself
abbrev pub each_at : Expr → List PointKind → List ℕ
each_at e kinds = map (λ k. place_of e) kinds

-- the places of the points of an expression, of arguments, of the parts of a place
abbrev mutual
  pub expression_places : Expression → Expr → List ℕ
  expression_places (Constant v) e = []
  expression_places (Read p) e = parts_places p e ++ each_at e (reads p)
  expression_places (Unary op a) e = expression_places a (operand 0 e)
  expression_places (Binary op a b) e = expression_places a (operand 0 e) ++ expression_places b (operand 1 e)
  expression_places (Convert type a) e = expression_places a e
  expression_places (And a b) e = expression_places a (operand 0 e) ++ expression_places b (operand 1 e)
  expression_places (Or a b) e = expression_places a (operand 0 e) ++ expression_places b (operand 1 e)
  expression_places (Choice c a b) e =
      expression_places c (operand 0 e) ++ expression_places a (operand 1 e) ++ expression_places b (operand 2 e)
  expression_places (Assign p v) e =
      parts_places p (operand 0 e) ++ expression_places v (operand 1 e) ++ each_at e (writes p)
  expression_places (Update type op p v) e =
      parts_places p (operand 0 e) ++ each_at e (reads p) ++ expression_places v (operand 1 e) ++ each_at e (writes p)
  expression_places (Postfix type op p) e = parts_places p (operand 0 e) ++ each_at e (reads p) ++ each_at e (writes p)
  expression_places (Call name arguments) e = all_places arguments (operands e) ++ place_of e ∷ place_of e ∷ []
  expression_places (Print format arguments) e = all_places arguments (operands e) ++ place_of e ∷ []
  expression_places (New tag) e = place_of e ∷ []
  expression_places (Free tag v) e = expression_places v (operand 0 e) ++ place_of e ∷ []
  expression_places (Create p name v) e =
      parts_places p (operand 0 e) ++ expression_places v (operand 1 e) ++ place_of e ∷ each_at e (writes p)
  expression_places (Join v) e = expression_places v (operand 0 e) ++ place_of e ∷ []
  expression_places (JoinInto v p) e =
      expression_places v (operand 0 e) ++ parts_places p (operand 1 e) ++ place_of e ∷ each_at e (writes p)
  expression_places (InitMutex name) e = place_of e ∷ []
  expression_places (Lock name) e = place_of e ∷ []
  expression_places (Unlock name) e = place_of e ∷ []

  pub all_places : Expressions → List Expr → List ℕ
  all_places NoExpressions es = []
  all_places (ExpressionThen a more) es = expression_places a (slice_index_or es 0 nothing) ++ all_places more (drop 1 es)

  pub parts_places : Place → Expr → List ℕ
  parts_places (Local name) e = []
  parts_places (Global name) e = []
  parts_places (Element name index) e = expression_places index (operand 0 e)
  parts_places (Field tag handle name) e = expression_places handle (operand 0 e)

-- an expression of a statement
abbrev pub places_in : Expression → Option Expr → List ℕ
places_in a e = expression_places a (without_casts (unwrap_or e nothing))

abbrev pub places_if : Option Expression → Option Expr → List ℕ
places_if None e = []
places_if (Some a) e = places_in a e

-- the expression of a statement: of a `for` its condition; and the step of a `for`
abbrev pub expression_of : StmtNode Stmt → Option Expr
expression_of (stmt.Evaluate e) = Some e
expression_of (stmt.Declare d) = d.initial
expression_of (stmt.If c s) = Some c
expression_of (stmt.IfElse c s t) = Some c
expression_of (stmt.While c s) = Some c
expression_of (stmt.DoWhile s c) = Some c
expression_of (stmt.For first test step s) = test
expression_of (stmt.ReturnValue e) = Some e
expression_of _ = None

abbrev pub step_of : StmtNode Stmt → Option Expr
step_of (stmt.For first test step s) = step
step_of _ = None

-- the statements of which a statement is made, but for the first part of a `for`, and that
abbrev pub statements_of : StmtNode Stmt → List Stmt
statements_of (stmt.Block body) = body
statements_of (stmt.If c s) = s ∷ []
statements_of (stmt.IfElse c s t) = s ∷ t ∷ []
statements_of (stmt.While c s) = s ∷ []
statements_of (stmt.DoWhile s c) = s ∷ []
statements_of (stmt.For first test step s) = s ∷ []
statements_of (stmt.Transaction body end) = body
statements_of _ = []

abbrev pub first_of : StmtNode Stmt → List Stmt
first_of (stmt.For first test step s) = first
first_of _ = []

-- the statement of that number in a statement
abbrev pub inner : ℕ → Stmt → Stmt
inner k s = slice_index_or (statements_of (out-Stmt s).node) k s

-- where a statement begins, and the closing brace of a transaction
abbrev pub begins_at : Stmt → ℕ
begins_at s = (out-Stmt s).place

abbrev pub end_of : StmtNode Stmt → ℕ
end_of (stmt.Transaction body end) = end
end_of _ = 0

-- the places of the points of a statement, and of statements in order
abbrev mutual
  pub statement_places : Statement → Stmt → List ℕ
  statement_places (Block ss) s = statements_places ss (statements_of (out-Stmt s).node)
  statement_places Empty s = []
  statement_places (Evaluate e) s = places_in e (expression_of (out-Stmt s).node)
  statement_places (Declare type name e) s = places_if e (expression_of (out-Stmt s).node)
  statement_places (If c a) s = places_in c (expression_of (out-Stmt s).node) ++ statement_places a (inner 0 s)
  statement_places (IfElse c a b) s =
      places_in c (expression_of (out-Stmt s).node) ++ statement_places a (inner 0 s) ++ statement_places b (inner 1 s)
  statement_places (While c a) s =
      places_in c (expression_of (out-Stmt s).node) ++ statement_places a (inner 0 s) ++ begins_at s ∷ []
  statement_places (DoWhile a c) s =
      statement_places a (inner 0 s) ++ places_in c (expression_of (out-Stmt s).node) ++ begins_at s ∷ []
  statement_places (For first test step a) s =
      statements_places first (first_of (out-Stmt s).node) ++ places_if test (expression_of (out-Stmt s).node)
      ++ statement_places a (inner 0 s) ++ places_if step (step_of (out-Stmt s).node) ++ begins_at s ∷ []
  statement_places Break s = []
  statement_places Continue s = []
  statement_places (Return e) s = places_in e (expression_of (out-Stmt s).node) ++ begins_at s ∷ []
  statement_places UpdatePoint s = begins_at s ∷ begins_at s ∷ []
  statement_places (Transaction ss) s =
      begins_at s ∷ begins_at s ∷ statements_places ss (statements_of (out-Stmt s).node)
      ++ end_of (out-Stmt s).node ∷ end_of (out-Stmt s).node ∷ []

  pub statements_places : Statements → List Stmt → List ℕ
  statements_places NoStatements list = []
  statements_places (StatementThen a more) list =
      statement_places a (slice_index_or list 0 no_statement) ++ statements_places more (drop 1 list)

-- the places of a function's points, under the definitions of its text
abbrev pub places : Definitions → Function → List ℕ
places look f =
    f.name.place ∷ statements_places (resolved_body look (Some (bare_function f))) f.body ++ f.end ∷ []
