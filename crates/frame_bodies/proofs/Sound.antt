-- Bodies in which only places are assigned, and only what has a property is called and spawned.
use Rattle.std.proofs.Common.{Option, Some, None}
use Rattle.c_tree.specs.BareExpr.{Bytes, BareExpr, BareExprs}
use Rattle.c_tree.specs.BareExpr as e
use Rattle.c_tree.specs.BareStmt.{BareStmt, BareStmts}
use Rattle.c_tree.specs.BareStmt as s

-- an expression that is a place: a variable, an element, a field
abbrev pub IsPlace : BareExpr → Type 0
IsPlace (e.Variable name) = Unit {0}
IsPlace (e.Element name a) = Unit {0}
IsPlace (e.Arrow a name) = Unit {0}
IsPlace _ = ⊥

module _ (Called : Bytes → Type 0) where
  abbrev mutual
    pub Sound : BareExpr → Type 0
    Sound (e.Number n) = Unit {0}
    Sound (e.Character n) = Unit {0}
    Sound e.Null = Unit {0}
    Sound e.Success = Unit {0}
    Sound e.Error = Unit {0}
    Sound (e.Variable name) = Unit {0}
    Sound (e.Unary op a) = Sound a
    Sound (e.Step op a) = IsPlace a × Sound a
    Sound (e.Cast to a) = Sound a
    Sound (e.Binary op a b) = Sound a × Sound b
    Sound (e.And a b) = Sound a × Sound b
    Sound (e.Or a b) = Sound a × Sound b
    Sound (e.Choice c a b) = Sound c × Sound a × Sound b
    Sound (e.Assign a b) = IsPlace a × Sound a × Sound b
    Sound (e.Update op a b) = IsPlace a × Sound a × Sound b
    Sound (e.Call name arguments) = Called name × AllSound arguments
    Sound (e.Element name a) = Sound a
    Sound (e.Arrow a name) = Sound a
    Sound (e.Dot a name) = Unit {0}
    Sound (e.Print format arguments) = AllSound arguments
    Sound (e.Calloc tag) = Unit {0}
    Sound (e.Free a) = Sound a
    Sound (e.Create a name b) = Called name × IsPlace a × Sound a × Sound b
    Sound (e.Join a) = Sound a
    Sound (e.JoinInto a b) = IsPlace b × Sound a × Sound b
    Sound (e.InitMutex name) = Unit {0}
    Sound (e.Lock name) = Unit {0}
    Sound (e.Unlock name) = Unit {0}

    pub AllSound : BareExprs → Type 0
    AllSound e.NoExprs = Unit {0}
    AllSound (e.ExprThen a as') = Sound a × AllSound as'

  abbrev pub SoundIf : Option BareExpr → Type 0
  SoundIf None = Unit {0}
  SoundIf (Some a) = Sound a

  abbrev mutual
    pub SoundStmt : BareStmt → Type 0
    SoundStmt (s.Block ss) = SoundStmts ss
    SoundStmt s.Empty = Unit {0}
    SoundStmt (s.Evaluate a) = Sound a
    SoundStmt (s.Declare d) = SoundIf d.initial
    SoundStmt (s.If c a) = Sound c × SoundStmt a
    SoundStmt (s.IfElse c a b) = Sound c × SoundStmt a × SoundStmt b
    SoundStmt (s.While c a) = Sound c × SoundStmt a
    SoundStmt (s.DoWhile a c) = Sound c × SoundStmt a
    SoundStmt (s.For first test step a) = SoundStmts first × SoundIf test × SoundIf step × SoundStmt a
    SoundStmt s.Break = Unit {0}
    SoundStmt s.Continue = Unit {0}
    SoundStmt s.Return = Unit {0}
    SoundStmt (s.ReturnValue a) = Sound a
    SoundStmt s.Update = Unit {0}
    SoundStmt (s.Transaction ss) = SoundStmts ss

    pub SoundStmts : BareStmts → Type 0
    SoundStmts s.NoStmts = Unit {0}
    SoundStmts (s.StmtThen a as') = SoundStmt a × SoundStmts as'
