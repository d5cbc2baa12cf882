-- Trees whose constants are in the ranges of their kinds.
use Rattle.std.specs.Prelude.{Option, Some, None}
use Rattle.c_ints.specs.declared.int.Int.{Int}
use Rattle.c_ints.specs.Kind.{InRange}
use Rattle.c_ints.specs.Number.{kind_of, value_of}
use Rattle.c_tree.specs.BareExpr.{Bytes}
use Rattle.c_semantics.specs.Resolved.{Expression, Expressions, Place, Statement, Statements, Constant, Read, Unary, Binary, Convert, And, Or, Choice, Assign, Update, Postfix, Call, Print, Free, Create, Join, JoinInto, NoExpressions, ExpressionThen, Element, Field, Block, Evaluate, Declare, If, IfElse, While, DoWhile, For, Return, Transaction, NoStatements, StatementThen}
use Rattle.c_semantics.specs.Resolution.{resolved_body}
use Rattle.c_semantics.specs.SourceTexts.{Text}
use Rattle.frame_bodies.specs.AcceptedTexts.{IsAccepted, looked_up}

-- an integer of its kind
abbrev pub IsRanged : Int → Type 0
IsRanged n = InRange (kind_of n) (value_of n)

-- an expression, arguments, a place
abbrev mutual
  pub Ranged : Expression → Type 0
  Ranged (Constant n) = IsRanged n
  Ranged (Read p) = PlaceRanged p
  Ranged (Unary op a) = Ranged a
  Ranged (Binary op a b) = Ranged a × Ranged b
  Ranged (Convert type a) = Ranged a
  Ranged (And a b) = Ranged a × Ranged b
  Ranged (Or a b) = Ranged a × Ranged b
  Ranged (Choice c a b) = Ranged c × Ranged a × Ranged b
  Ranged (Assign p e) = PlaceRanged p × Ranged e
  Ranged (Update type op p e) = PlaceRanged p × Ranged e
  Ranged (Postfix type op p) = PlaceRanged p
  Ranged (Call name arguments) = AllRanged arguments
  Ranged (Print format arguments) = AllRanged arguments
  Ranged (Free tag e) = Ranged e
  Ranged (Create p name e) = PlaceRanged p × Ranged e
  Ranged (Join e) = Ranged e
  Ranged (JoinInto e p) = Ranged e × PlaceRanged p
  Ranged _ = Unit {0}

  pub AllRanged : Expressions → Type 0
  AllRanged NoExpressions = Unit {0}
  AllRanged (ExpressionThen e es) = Ranged e × AllRanged es

  pub PlaceRanged : Place → Type 0
  PlaceRanged (Element name index) = Ranged index
  PlaceRanged (Field tag handle name) = Ranged handle
  PlaceRanged _ = Unit {0}

abbrev pub RangedIf : Option Expression → Type 0
RangedIf None = Unit {0}
RangedIf (Some e) = Ranged e

-- a statement, and statements in order
abbrev mutual
  pub StatementRanged : Statement → Type 0
  StatementRanged (Block ss) = StatementsRanged ss
  StatementRanged (Evaluate e) = Ranged e
  StatementRanged (Declare type name initial) = RangedIf initial
  StatementRanged (If c s) = Ranged c × StatementRanged s
  StatementRanged (IfElse c s t) = Ranged c × StatementRanged s × StatementRanged t
  StatementRanged (While c s) = Ranged c × StatementRanged s
  StatementRanged (DoWhile s c) = StatementRanged s × Ranged c
  StatementRanged (For first test step s) = StatementsRanged first × RangedIf test × RangedIf step × StatementRanged s
  StatementRanged (Return e) = Ranged e
  StatementRanged (Transaction ss) = StatementsRanged ss
  StatementRanged _ = Unit {0}

  pub StatementsRanged : Statements → Type 0
  StatementsRanged NoStatements = Unit {0}
  StatementsRanged (StatementThen s ss) = StatementRanged s × StatementsRanged ss

-- the body of each function of an accepted text
abbrev pub ConstantsAreInRange : Type 0
ConstantsAreInRange =
    (text : Text) (function : Bytes) → IsAccepted text
    → StatementsRanged (resolved_body (looked_up text) (looked_up text function))
