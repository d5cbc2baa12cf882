-- Expressions without places: what is left of a tree where only its meaning counts.
use Rattle.std.specs.Prelude.{List, ℕ}
use Rattle.c_ints.specs.declared.kind.Kind.{Kind}
use Rattle.c_ints.specs.declared.int.Int.{Int}
use Rattle.c_ints.specs.declared.operator.BinOp.{BinOp}
use Rattle.c_ints.specs.declared.operator.UnOp.{UnOp}
use Rattle.c_tree.specs.declared.expr.StepOp.{StepOp}

-- the bytes of a name or of a format
abbrev pub Bytes : Type 0
Bytes = List ℕ

-- a type: an integer's, `struct T *` with the name T, `thrd_t`
pub data BareType : Type 0 where
  Integer : Kind → BareType
  Handle : Bytes → BareType
  Thread : BareType

mutual
  -- an expression (6.5)
  pub data BareExpr : Type 0 where
    Number : Int → BareExpr
    Character : Int → BareExpr
    Null : BareExpr
    Success : BareExpr
    Error : BareExpr
    Variable : Bytes → BareExpr
    Unary : UnOp → BareExpr → BareExpr
    Step : StepOp → BareExpr → BareExpr
    Cast : BareType → BareExpr → BareExpr
    Binary : BinOp → BareExpr → BareExpr → BareExpr
    And : BareExpr → BareExpr → BareExpr
    Or : BareExpr → BareExpr → BareExpr
    Choice : BareExpr → BareExpr → BareExpr → BareExpr
    Assign : BareExpr → BareExpr → BareExpr
    Update : BinOp → BareExpr → BareExpr → BareExpr
    Call : Bytes → BareExprs → BareExpr
    Element : Bytes → BareExpr → BareExpr
    Arrow : BareExpr → Bytes → BareExpr
    Dot : BareExpr → Bytes → BareExpr
    Print : Bytes → BareExprs → BareExpr
    Calloc : Bytes → BareExpr
    Free : BareExpr → BareExpr
    Create : BareExpr → Bytes → BareExpr → BareExpr
    Join : BareExpr → BareExpr
    JoinInto : BareExpr → BareExpr → BareExpr
    InitMutex : Bytes → BareExpr
    Lock : Bytes → BareExpr
    Unlock : Bytes → BareExpr

  -- the arguments of a call
  pub data BareExprs : Type 0 where
    NoExprs : BareExprs
    ExprThen : BareExpr → BareExprs → BareExprs
