-- A weight of trees, by which the walk over them ends: a tree weighs more than its parts.
use Rattle.std.specs.Prelude.{ℕ, ◌+◌}
use Rattle.c_semantics.specs.Resolved.{Expression, Expressions, Place, Statement, Statements, Constant, Read, Unary, Binary, Convert, And, Or, Choice, Assign, Update, Postfix, Call, Print, New, Free, Create, Join, JoinInto, InitMutex, Lock, Unlock, NoExpressions, ExpressionThen, Local, Global, Element, Field, Block, Empty, Evaluate, Declare, If, IfElse, While, DoWhile, For, Break, Continue, Return, UpdatePoint, Transaction, NoStatements, StatementThen}

abbrev mutual
  pub of_expression : Expression → ℕ
  of_expression (Constant v) = 1
  of_expression (Read p) = of_parts p + 1
  of_expression (Unary op a) = of_expression a + 1
  of_expression (Binary op a b) = of_expression a + of_expression b + 1
  of_expression (Convert type a) = of_expression a + 1
  of_expression (And a b) = of_expression a + of_expression b + 1
  of_expression (Or a b) = of_expression a + of_expression b + 1
  of_expression (Choice c a b) = of_expression c + of_expression a + of_expression b + 1
  of_expression (Assign p e) = of_parts p + of_expression e + 1
  of_expression (Update type op p e) = of_parts p + of_expression e + 1
  of_expression (Postfix type op p) = of_parts p + 1
  of_expression (Call name es) = of_expressions es + 1
  of_expression (Print format es) = of_expressions es + 1
  of_expression (New tag) = 1
  of_expression (Free tag e) = of_expression e + 1
  of_expression (Create p name e) = of_parts p + of_expression e + 1
  of_expression (Join e) = of_expression e + 1
  of_expression (JoinInto e p) = of_expression e + of_parts p + 1
  of_expression (InitMutex name) = 1
  of_expression (Lock name) = 1
  of_expression (Unlock name) = 1

  pub of_expressions : Expressions → ℕ
  of_expressions NoExpressions = 0
  of_expressions (ExpressionThen e es) = of_expression e + of_expressions es + 1

  pub of_parts : Place → ℕ
  of_parts (Local name) = 0
  of_parts (Global name) = 0
  of_parts (Element name index) = of_expression index
  of_parts (Field tag handle name) = of_expression handle

abbrev mutual
  pub of_statement : Statement → ℕ
  of_statement (Block ss) = of_statements ss + 1
  of_statement Empty = 1
  of_statement (Evaluate e) = 1
  of_statement (Declare type name e) = 1
  of_statement (If c s) = of_statement s + 1
  of_statement (IfElse c a b) = of_statement a + of_statement b + 1
  of_statement (While c s) = of_statement s + 1
  of_statement (DoWhile s c) = of_statement s + 1
  of_statement (For first test step s) = of_statements first + of_statement s + 1
  of_statement Break = 1
  of_statement Continue = 1
  of_statement (Return e) = 1
  of_statement UpdatePoint = 1
  of_statement (Transaction ss) = of_statements ss + 1

  pub of_statements : Statements → ℕ
  of_statements NoStatements = 0
  of_statements (StatementThen s ss) = of_statement s + of_statements ss + 1
