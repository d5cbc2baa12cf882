-- Statements without places.
use Rattle.std.specs.Prelude.{Option}
use Rattle.c_tree.specs.BareExpr.{Bytes, BareType, BareExpr}

-- one declared variable
pub record BareDeclaration : Type 0 where
  pub declared : BareType
  pub name : Bytes
  pub initial : Option BareExpr

mutual
  -- a statement, or a declaration in a block (6.8)
  pub data BareStmt : Type 0 where
    Block : BareStmts → BareStmt
    Empty : BareStmt
    Evaluate : BareExpr → BareStmt
    Declare : BareDeclaration → BareStmt
    If : BareExpr → BareStmt → BareStmt
    IfElse : BareExpr → BareStmt → BareStmt → BareStmt
    While : BareExpr → BareStmt → BareStmt
    DoWhile : BareStmt → BareExpr → BareStmt
    For : BareStmts → Option BareExpr → Option BareExpr → BareStmt → BareStmt
    Break : BareStmt
    Continue : BareStmt
    Return : BareStmt
    ReturnValue : BareExpr → BareStmt
    Update : BareStmt
    Transaction : BareStmts → BareStmt

  -- the statements of a block, in order
  pub data BareStmts : Type 0 where
    NoStmts : BareStmts
    StmtThen : BareStmt → BareStmts → BareStmts
