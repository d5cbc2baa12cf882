-- The trees of a function with its names resolved: which variable a name means, of which struct a field is, and
-- where a value is converted.
use Rattle.std.specs.Prelude.{Option}
use Rattle.c_ints.specs.declared.int.Int.{Int}
use Rattle.c_ints.specs.declared.operator.BinOp.{BinOp}
use Rattle.c_ints.specs.declared.operator.UnOp.{UnOp}
use Rattle.c_tree.specs.BareExpr.{Bytes, BareType}

mutual
  -- an expression; one without a value leaves the int 0, which only the end of its statement takes
  pub data Expression : Type 0 where
    Constant : Int → Expression
    Read : Place → Expression
    Unary : UnOp → Expression → Expression
    Binary : BinOp → Expression → Expression → Expression
    Convert : BareType → Expression → Expression
    And : Expression → Expression → Expression
    Or : Expression → Expression → Expression
    Choice : Expression → Expression → Expression → Expression
    Assign : Place → Expression → Expression
    Update : BareType → BinOp → Place → Expression → Expression
    Postfix : BareType → BinOp → Place → Expression
    Call : Bytes → Expressions → Expression
    Print : Bytes → Expressions → Expression
    New : Bytes → Expression
    Free : Bytes → Expression → Expression
    Create : Place → Bytes → Expression → Expression
    Join : Expression → Expression
    JoinInto : Expression → Place → Expression
    InitMutex : Bytes → Expression
    Lock : Bytes → Expression
    Unlock : Bytes → Expression

  -- the arguments of a call
  pub data Expressions : Type 0 where
    NoExpressions : Expressions
    ExpressionThen : Expression → Expressions → Expressions

  -- where a value is kept: a local variable, a global one, an element of an array, a field of the struct with a tag
  pub data Place : Type 0 where
    Local : Bytes → Place
    Global : Bytes → Place
    Element : Bytes → Expression → Place
    Field : Bytes → Expression → Bytes → Place

mutual
  -- a statement, or a declaration in a block
  pub data Statement : Type 0 where
    Block : Statements → Statement
    Empty : Statement
    Evaluate : Expression → Statement
    Declare : BareType → Bytes → Option Expression → Statement
    If : Expression → Statement → Statement
    IfElse : Expression → Statement → Statement → Statement
    While : Expression → Statement → Statement
    DoWhile : Statement → Expression → Statement
    For : Statements → Option Expression → Option Expression → Statement → Statement
    Break : Statement
    Continue : Statement
    Return : Expression → Statement
    UpdatePoint : Statement
    Transaction : Statements → Statement

  -- the statements of a block, in order
  pub data Statements : Type 0 where
    NoStatements : Statements
    StatementThen : Statement → Statements → Statements
