-- The stops of a thread.
use Rattle.std.specs.Prelude.{ℕ}
use Rattle.run_types.specs.Skeleton.{PointKind}
use Rattle.run_types.specs.Skeleton as kind
use Rattle.c_tree.specs.BareExpr.{Bytes}
use Rattle.c_semantics.specs.Names.{struct_name}

-- where a thread stops; what a stop takes and gives are the newest values
pub data Stop : Type 0 where
  ReadGlobal : Bytes → Stop
  WriteGlobal : Bytes → Stop
  ReadElement : Bytes → Stop
  WriteElement : Bytes → Stop
  ReadField : Bytes → Bytes → Stop
  WriteField : Bytes → Bytes → Stop
  New : Bytes → Stop
  Free : Bytes → Stop
  -- the format, and how many arguments
  Print : Bytes → ℕ → Stop
  InitMutex : Bytes → Stop
  Lock : Bytes → Stop
  Unlock : Bytes → Stop
  Spawn : Bytes → Stop
  Join : Stop
  -- the function, and how many arguments
  Call : Bytes → ℕ → Stop
  Return : Stop
  Back : Stop
  Begin : Stop
  End : Stop
  Update : Stop

-- what kind of point a stop is
abbrev pub kind_of : Stop → PointKind
kind_of (ReadGlobal name) = kind.ReadGlobal name
kind_of (WriteGlobal name) = kind.WriteGlobal name
kind_of (ReadElement name) = kind.ReadElement name
kind_of (WriteElement name) = kind.WriteElement name
kind_of (ReadField tag field) = kind.ReadField (struct_name tag)
kind_of (WriteField tag field) = kind.WriteField (struct_name tag)
kind_of (New tag) = kind.New (struct_name tag)
kind_of (Free tag) = kind.Free (struct_name tag)
kind_of (Print format arguments) = kind.Print
kind_of (InitMutex name) = kind.InitMutex name
kind_of (Lock name) = kind.Lock name
kind_of (Unlock name) = kind.Unlock name
kind_of (Spawn name) = kind.Spawn name
kind_of Join = kind.Join
kind_of (Call name arguments) = kind.Call name
kind_of Return = kind.Return
kind_of Back = kind.Back
kind_of Begin = kind.Begin
kind_of End = kind.End
kind_of Update = kind.Update
