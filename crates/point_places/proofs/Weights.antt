-- How many trees a tree is made of: by it the walk down a tree ends.
use Rattle.std.specs.Prelude.{ℕ, ◌+◌}
use Rattle.c_semantics.specs.Resolved.{Expression, Expressions, Place, Statement, Statements, Read, Unary, Binary, Convert, And, Or, Choice, Assign, Update, Postfix, Call, Print, Free, Create, Join, JoinInto, NoExpressions, ExpressionThen, Element, Field, Block, If, IfElse, While, DoWhile, For, Transaction, NoStatements, StatementThen}

abbrev mutual
  pub of_expression : Expression → ℕ
  of_expression (Read p) = of_parts p + 1
  of_expression (Unary op a) = of_expression a + 1
  of_expression (Binary op a b) = of_expression a + of_expression b + 1
  of_expression (Convert type a) = of_expression a + 1
  of_expression (And a b) = of_expression a + of_expression b + 1
  of_expression (Or a b) = of_expression a + of_expression b + 1
  of_expression (Choice c a b) = of_expression c + of_expression a + of_expression b + 1
  of_expression (Assign p e) = of_parts p + of_expression e + 1
  of_expression (Update type op p e) = of_parts p + of_expression e + 1
  of_expression (Postfix type op p) = of_parts p + 1
  of_expression (Call name es) = of_expressions es + 1
  of_expression (Print format es) = of_expressions es + 1
  of_expression (Free tag e) = of_expression e + 1
  of_expression (Create p name e) = of_parts p + of_expression e + 1
  of_expression (Join e) = of_expression e + 1
  of_expression (JoinInto e p) = of_expression e + of_parts p + 1
  of_expression _ = 1

  pub of_expressions : Expressions → ℕ
  of_expressions NoExpressions = 1
  of_expressions (ExpressionThen e es) = of_expression e + of_expressions es + 1

  pub of_parts : Place → ℕ
  of_parts (Element name index) = of_expression index + 1
  of_parts (Field tag handle name) = of_expression handle + 1
  of_parts _ = 1

abbrev mutual
  pub of_statement : Statement → ℕ
  of_statement (Block ss) = of_statements ss + 1
  of_statement (If c s) = of_statement s + 1
  of_statement (IfElse c a b) = of_statement a + of_statement b + 1
  of_statement (While c s) = of_statement s + 1
  of_statement (DoWhile s c) = of_statement s + 1
  of_statement (For first test step s) = of_statements first + of_statement s + 1
  of_statement (Transaction ss) = of_statements ss + 1
  of_statement _ = 1

  pub of_statements : Statements → ℕ
  of_statements NoStatements = 1
  of_statements (StatementThen s ss) = of_statement s + of_statements ss + 1
