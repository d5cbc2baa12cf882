-- A resolved tree has at most as many check-ins as the tree without places from which it comes.
use Rattle.std.proofs.Common.{◌≡◌, ◌≤◌, ℕ, ◌+◌, List, [], ◌∷◌, Option, Some, None, refl, ap, arith}
use Rattle.std.specs.Prelude.{option_map}
use Rattle.c_tree.specs.declared.expr.StepOp.{StepOp}
use Rattle.c_tree.specs.declared.expr.StepOp.TheVariants.{PreIncrement, PreDecrement, PostIncrement, PostDecrement}
use Rattle.c_tree.specs.BareExpr.{Bytes, BareType, Integer, Handle, Thread, BareExpr, BareExprs, Number, Character, Null, Success, Error, Variable, Unary, Step, Cast, Binary, And, Or, Choice, Assign, Update, Call, Element, Arrow, Dot, Print, Calloc, Free, Create, Join, JoinInto, InitMutex, Lock, Unlock, NoExprs, ExprThen}
use Rattle.c_tree.specs.BareStmt.{BareStmt, BareStmts, BareDeclaration, Block, Empty, Evaluate, Declare, If, IfElse, While, DoWhile, For, Break, Continue, Return, ReturnValue, Transaction, NoStmts, StmtThen}
use Rattle.c_tree.specs.BareStmt as stmt
use Rattle.c_tree.specs.BareDef.{BareBinding}
use Rattle.c_semantics.specs.Texts.{Definitions, bound, parameters_of}
use Rattle.c_semantics.specs.Resolved.{Expression, Expressions, NoExpressions, ExpressionThen}
use Rattle.c_semantics.specs.Resolved as made
use Rattle.c_semantics.specs.Resolution.{Resolved, common_type, declared_by, declared_by_all, handed, passed, resolved, resolved_all, side, statement, statements, step, tree_of, variable}
use Rattle.accepted_bodies.proofs.TreeCheckIns.{in_expression, in_expressions, in_parts, in_optional, in_statement, in_statements}

-- one for each call
abbrev mutual
  pub of_expression : BareExpr → ℕ
  of_expression (Number n) = 0
  of_expression (Character n) = 0
  of_expression Null = 0
  of_expression Success = 0
  of_expression Error = 0
  of_expression (Variable name) = 0
  of_expression (Unary op a) = of_expression a
  of_expression (Step op a) = of_expression a
  of_expression (Cast to a) = of_expression a
  of_expression (Binary op a b) = of_expression a + of_expression b
  of_expression (And a b) = of_expression a + of_expression b
  of_expression (Or a b) = of_expression a + of_expression b
  of_expression (Choice c a b) = of_expression c + (of_expression a + of_expression b)
  of_expression (Assign a b) = of_expression a + of_expression b
  of_expression (Update op a b) = of_expression a + of_expression b
  of_expression (Call name es) = of_expressions es + 1
  of_expression (Element name a) = of_expression a
  of_expression (Arrow a name) = of_expression a
  of_expression (Dot a name) = of_expression a
  of_expression (Print format es) = of_expressions es
  of_expression (Calloc tag) = 0
  of_expression (Free a) = of_expression a
  of_expression (Create a name b) = of_expression a + of_expression b
  of_expression (Join a) = of_expression a
  of_expression (JoinInto a b) = of_expression a + of_expression b
  of_expression (InitMutex name) = 0
  of_expression (Lock name) = 0
  of_expression (Unlock name) = 0

  pub of_expressions : BareExprs → ℕ
  of_expressions NoExprs = 0
  of_expressions (ExprThen e es) = of_expression e + of_expressions es

abbrev pub of_optional : Option BareExpr → ℕ
of_optional None = 0
of_optional (Some e) = of_expression e

-- one for each point for an update, and two for each transaction
abbrev mutual
  pub of_statement : BareStmt → ℕ
  of_statement (Block ss) = of_block ss
  of_statement Empty = 0
  of_statement (Evaluate e) = of_expression e
  of_statement (Declare d) = of_optional d.initial
  of_statement (If c s) = of_expression c + of_statement s
  of_statement (IfElse c s t) = of_expression c + (of_statement s + of_statement t)
  of_statement (While c s) = of_expression c + of_statement s
  of_statement (DoWhile s c) = of_statement s + of_expression c
  of_statement (For first test step s) = of_block first + (of_optional test + (of_statement s + of_optional step))
  of_statement Break = 0
  of_statement Continue = 0
  of_statement Return = 0
  of_statement (ReturnValue e) = of_expression e
  of_statement stmt.Update = 1
  of_statement (Transaction ss) = of_block ss + 2

  pub of_block : BareStmts → ℕ
  of_block NoStmts = 0
  of_block (StmtThen s ss) = of_statement s + of_block ss

-- ---- expressions

-- what an expression is resolved to has so many at most, also as a place
record Few (n : ℕ) (x : Resolved) : Type 0 where
  tree : in_expression x.tree ≤ n
  place : in_parts x.place ≤ n

side_same : (t : BareType) (e : Expression) → in_expression (side t e) ≡ in_expression e
side_same (Integer k) e = refl
side_same (Handle tag) e = refl
side_same Thread e = refl

handed_same : (ps : List BareBinding) (e : Expression) → in_expression (handed ps e) ≡ in_expression e
handed_same [] e = refl
handed_same (p ∷ ps) e = refl

passed_same : (es : Expressions) (ps : List BareBinding) → in_expressions (passed es ps) ≡ in_expressions es
passed_same NoExpressions ps = refl
passed_same (ExpressionThen e es) [] = ap (λ n. in_expression e + n) (passed_same es [])
passed_same (ExpressionThen e es) (p ∷ ps) = ap (λ n. in_expression e + n) (passed_same es ps)

variable_few : (look : Definitions) (name : Bytes) (o : Option BareBinding) → Few 0 (variable look name o)
variable_few look name None = record { tree = omega arith; place = omega arith }
variable_few look name (Some b) = record { tree = omega arith; place = omega arith }

step_few : (op : StepOp) (n : ℕ) (x : Resolved) → Few n x → Few n (step op x)
step_few PreIncrement n x f = record { tree = omega (arith, f.place); place = omega arith }
step_few PreDecrement n x f = record { tree = omega (arith, f.place); place = omega arith }
step_few PostIncrement n x f = record { tree = omega (arith, f.place); place = omega arith }
step_few PostDecrement n x f = record { tree = omega (arith, f.place); place = omega arith }

module _ (look : Definitions) where
  mutual
    few : (locals : List BareBinding) (e : BareExpr) → Few (of_expression e) (resolved look locals e)
    few locals (Number n) = record { tree = omega arith; place = omega arith }
    few locals (Character n) = record { tree = omega arith; place = omega arith }
    few locals Null = record { tree = omega arith; place = omega arith }
    few locals Success = record { tree = omega arith; place = omega arith }
    few locals Error = record { tree = omega arith; place = omega arith }
    few locals (Variable name) = variable_few look name (bound locals name)
    few locals (Unary op a) = record { tree = (few locals a).tree; place = omega arith }
    few locals (Step op a) = step_few op (of_expression a) (resolved look locals a) (few locals a)
    few locals (Cast to a) = record { tree = (few locals a).tree; place = omega arith }
    few locals (Binary op a b) =
        let x = resolved look locals a in
        let y = resolved look locals b in
        let t = common_type x.type y.type in
        record { tree = omega (arith, (few locals a).tree, (few locals b).tree, side_same t x.tree, side_same t y.tree); place = omega arith }
    few locals (And a b) = record { tree = omega (arith, (few locals a).tree, (few locals b).tree); place = omega arith }
    few locals (Or a b) = record { tree = omega (arith, (few locals a).tree, (few locals b).tree); place = omega arith }
    few locals (Choice c a b) =
        record { tree = omega (arith, (few locals c).tree, (few locals a).tree, (few locals b).tree); place = omega arith }
    few locals (Assign a b) = record { tree = omega (arith, (few locals a).place, (few locals b).tree); place = omega arith }
    few locals (Update op a b) = record { tree = omega (arith, (few locals a).place, (few locals b).tree); place = omega arith }
    few locals (Call name es) = record {
      tree = omega (arith, all_few locals es, passed_same (resolved_all look locals es) (parameters_of (look name)));
      place = omega arith;
    }
    few locals (Element name a) = record { tree = (few locals a).tree; place = (few locals a).tree }
    few locals (Arrow a name) = record { tree = (few locals a).tree; place = (few locals a).tree }
    few locals (Dot a name) = record { tree = omega arith; place = omega arith }
    few locals (Print format es) = record { tree = all_few locals es; place = omega arith }
    few locals (Calloc tag) = record { tree = omega arith; place = omega arith }
    few locals (Free a) = record { tree = (few locals a).tree; place = omega arith }
    few locals (Create a name b) = record {
      tree = omega (arith, (few locals a).place, (few locals b).tree, handed_same (parameters_of (look name)) (resolved look locals b).tree);
      place = omega arith;
    }
    few locals (Join a) = record { tree = (few locals a).tree; place = omega arith }
    few locals (JoinInto a b) = record { tree = omega (arith, (few locals a).tree, (few locals b).place); place = omega arith }
    few locals (InitMutex name) = record { tree = omega arith; place = omega arith }
    few locals (Lock name) = record { tree = omega arith; place = omega arith }
    few locals (Unlock name) = record { tree = omega arith; place = omega arith }

    all_few : (locals : List BareBinding) (es : BareExprs) → in_expressions (resolved_all look locals es) ≤ of_expressions es
    all_few locals NoExprs = omega arith
    all_few locals (ExprThen e es) = omega (arith, (few locals e).tree, all_few locals es)

  optional_few : (locals : List BareBinding) (o : Option BareExpr) → in_optional (option_map (tree_of look locals) o) ≤ of_optional o
  optional_few locals None = omega arith
  optional_few locals (Some e) = (few locals e).tree

  -- ---- statements

  initial_few : (locals : List BareBinding) (t : BareType) (o : Option BareExpr)
      → in_optional (option_map (λ e. made.Convert t (tree_of look locals e)) o) ≤ of_optional o
  initial_few locals t None = omega arith
  initial_few locals t (Some e) = (few locals e).tree

  module _ (result : BareType) where
    mutual
      statement_few : (locals : List BareBinding) (s : BareStmt) → in_statement (statement look result locals s) ≤ of_statement s
      statement_few locals (Block ss) = block_few locals ss
      statement_few locals Empty = omega arith
      statement_few locals (Evaluate e) = (few locals e).tree
      statement_few locals (Declare d) = initial_few (record { declared = d.declared; name = d.name } ∷ locals) d.declared d.initial
      statement_few locals (If c s) = omega (arith, (few locals c).tree, statement_few locals s)
      statement_few locals (IfElse c s t) = omega (arith, (few locals c).tree, statement_few locals s, statement_few locals t)
      statement_few locals (While c s) = omega (arith, (few locals c).tree, statement_few locals s)
      statement_few locals (DoWhile s c) = omega (arith, (few locals c).tree, statement_few locals s)
      statement_few locals (For first test step s) =
          let inner = declared_by_all first locals in
          omega (arith, block_few locals first, optional_few inner test, optional_few inner step, statement_few inner s)
      statement_few locals Break = omega arith
      statement_few locals Continue = omega arith
      statement_few locals Return = omega arith
      statement_few locals (ReturnValue e) = (few locals e).tree
      statement_few locals stmt.Update = omega arith
      statement_few locals (Transaction ss) = omega (arith, block_few locals ss)

      pub block_few : (locals : List BareBinding) (ss : BareStmts) → in_statements (statements look result locals ss) ≤ of_block ss
      block_few locals NoStmts = omega arith
      block_few locals (StmtThen s ss) = omega (arith, statement_few locals s, block_few (declared_by s locals) ss)
