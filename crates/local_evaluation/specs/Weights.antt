-- A weight of what is pending, by which local evaluation ends: a piece weighs more than those of which it is made.
use Rattle.std.specs.Prelude.{ℕ, ◌+◌, List, [], ◌∷◌, Option, Some, None}
use Rattle.c_semantics.specs.Resolved.{Expression, Expressions, Place, Statement, Statements, Constant, Read, Unary, Binary, Convert, And, Or, Choice, Assign, Update, Postfix, Call, Print, New, Free, Create, Join, JoinInto, InitMutex, Lock, Unlock, NoExpressions, ExpressionThen, Local, Global, Element, Field, Block, Empty, Evaluate, Declare, If, IfElse, While, DoWhile, For, Break, Continue, Return, UpdatePoint, Transaction, NoStatements, StatementThen}
use Rattle.c_semantics.specs.Pieces.{Piece, Compute, Arguments, Parts, AndThen, OrElse, Choose, Then, ThenElse, Turn, Do, Sequence, LoopTest, AfterBody, Until}

abbrev mutual
  pub of_expression : Expression → ℕ
  of_expression (Constant v) = 2
  of_expression (Read p) = of_parts p + 2
  of_expression (Unary op a) = of_expression a + 2
  of_expression (Binary op a b) = of_expression a + of_expression b + 2
  of_expression (Convert type a) = of_expression a + 2
  of_expression (And a b) = of_expression a + of_expression b + 4
  of_expression (Or a b) = of_expression a + of_expression b + 4
  of_expression (Choice c a b) = of_expression c + of_expression a + of_expression b + 2
  of_expression (Assign p e) = of_parts p + of_expression e + 2
  of_expression (Update type op p e) = of_parts p + of_expression e + 6
  of_expression (Postfix type op p) = of_parts p + 9
  of_expression (Call name es) = of_expressions es + 2
  of_expression (Print format es) = of_expressions es + 2
  of_expression (New tag) = 2
  of_expression (Free tag e) = of_expression e + 2
  of_expression (Create p name e) = of_parts p + of_expression e + 4
  of_expression (Join e) = of_expression e + 4
  of_expression (JoinInto e p) = of_expression e + of_parts p + 6
  of_expression (InitMutex name) = 2
  of_expression (Lock name) = 2
  of_expression (Unlock name) = 2

  pub of_expressions : Expressions → ℕ
  of_expressions NoExpressions = 1
  of_expressions (ExpressionThen e es) = of_expression e + of_expressions es + 1

  pub of_parts : Place → ℕ
  of_parts (Local name) = 1
  of_parts (Global name) = 1
  of_parts (Element name index) = of_expression index + 1
  of_parts (Field tag handle name) = of_expression handle + 1

-- an expression that may be absent, with the drop of its value
abbrev pub of_option : Option Expression → ℕ
of_option None = 0
of_option (Some e) = of_expression e + 1

abbrev mutual
  pub of_statement : Statement → ℕ
  of_statement (Block ss) = of_statements ss + 2
  of_statement Empty = 1
  of_statement (Evaluate e) = of_expression e + 2
  of_statement (Declare type name e) = of_option e + 2
  of_statement (If c s) = of_expression c + of_statement s + 2
  of_statement (IfElse c a b) = of_expression c + of_statement a + of_statement b + 2
  of_statement (While c s) = of_expression c + of_statement s + 6
  of_statement (DoWhile s c) = of_statement s + of_expression c + 3
  of_statement (For first test step s) = of_statements first + of_option test + of_option step + of_statement s + 6
  of_statement Break = 1
  of_statement Continue = 1
  of_statement (Return e) = of_expression e + 2
  of_statement UpdatePoint = 2
  of_statement (Transaction ss) = of_statements ss + 5

  pub of_statements : Statements → ℕ
  of_statements NoStatements = 1
  of_statements (StatementThen s ss) = of_statement s + of_statements ss + 1

abbrev pub of_piece : Piece → ℕ
of_piece (Compute e n) = of_expression e
of_piece (Arguments es n) = of_expressions es
of_piece (Parts p n) = of_parts p
of_piece (AndThen b m) = of_expression b + 3
of_piece (OrElse b m) = of_expression b + 3
of_piece (Choose a b m) = of_expression a + of_expression b + 1
of_piece (Then s m) = of_statement s + 1
of_piece (ThenElse a b m) = of_statement a + of_statement b + 1
of_piece (Turn l) = of_statement l.body + of_option l.step + 3
of_piece (Do s n) = of_statement s
of_piece (Sequence ss n) = of_statements ss
of_piece (LoopTest l) = of_option l.test + of_statement l.body + of_option l.step + 4
of_piece (AfterBody l) = of_option l.step + 2
of_piece (Until s c n) = of_expression c + 2
of_piece _ = 1

abbrev pub weight : List Piece → ℕ
weight [] = 0
weight (p ∷ ps) = of_piece p + weight ps
