-- Trees as they are written, whose constants are in the ranges of their kinds.
use Rattle.std.proofs.Common.{List, [], ◌∷◌, Option, Some, None}
use Rattle.c_tree.specs.BareExpr.{BareExpr, BareExprs, Number, Character, Unary, Step, Cast, Binary, And, Or, Choice, Assign, Update, Call, Element, Arrow, Dot, Print, Free, Create, Join, JoinInto, NoExprs, ExprThen}
use Rattle.c_tree.specs.BareStmt.{BareStmt, BareStmts, Block, Evaluate, Declare, If, IfElse, While, DoWhile, For, ReturnValue, Transaction, NoStmts, StmtThen}
use Rattle.constant_ranges.specs.Ranges.{IsRanged}

abbrev mutual
  pub BareRanged : BareExpr → Type 0
  BareRanged (Number n) = IsRanged n
  BareRanged (Character n) = IsRanged n
  BareRanged (Unary op a) = BareRanged a
  BareRanged (Step op a) = BareRanged a
  BareRanged (Cast to a) = BareRanged a
  BareRanged (Binary op a b) = BareRanged a × BareRanged b
  BareRanged (And a b) = BareRanged a × BareRanged b
  BareRanged (Or a b) = BareRanged a × BareRanged b
  BareRanged (Choice c a b) = BareRanged c × BareRanged a × BareRanged b
  BareRanged (Assign a b) = BareRanged a × BareRanged b
  BareRanged (Update op a b) = BareRanged a × BareRanged b
  BareRanged (Call name arguments) = AllBareRanged arguments
  BareRanged (Element name a) = BareRanged a
  BareRanged (Arrow a name) = BareRanged a
  BareRanged (Dot a name) = BareRanged a
  BareRanged (Print format arguments) = AllBareRanged arguments
  BareRanged (Free a) = BareRanged a
  BareRanged (Create a name b) = BareRanged a × BareRanged b
  BareRanged (Join a) = BareRanged a
  BareRanged (JoinInto a b) = BareRanged a × BareRanged b
  BareRanged _ = Unit {0}

  pub AllBareRanged : BareExprs → Type 0
  AllBareRanged NoExprs = Unit {0}
  AllBareRanged (ExprThen e es) = BareRanged e × AllBareRanged es

abbrev pub BareRangedIf : Option BareExpr → Type 0
BareRangedIf None = Unit {0}
BareRangedIf (Some e) = BareRanged e

abbrev mutual
  pub StmtRanged : BareStmt → Type 0
  StmtRanged (Block ss) = StmtsRanged ss
  StmtRanged (Evaluate e) = BareRanged e
  StmtRanged (Declare d) = BareRangedIf d.initial
  StmtRanged (If c s) = BareRanged c × StmtRanged s
  StmtRanged (IfElse c s t) = BareRanged c × StmtRanged s × StmtRanged t
  StmtRanged (While c s) = BareRanged c × StmtRanged s
  StmtRanged (DoWhile s c) = StmtRanged s × BareRanged c
  StmtRanged (For first test step s) = StmtsRanged first × BareRangedIf test × BareRangedIf step × StmtRanged s
  StmtRanged (ReturnValue e) = BareRanged e
  StmtRanged (Transaction ss) = StmtsRanged ss
  StmtRanged _ = Unit {0}

  pub StmtsRanged : BareStmts → Type 0
  StmtsRanged NoStmts = Unit {0}
  StmtsRanged (StmtThen s ss) = StmtRanged s × StmtsRanged ss
