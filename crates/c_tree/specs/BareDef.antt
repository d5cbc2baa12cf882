-- Definitions without places and numbers of tokens.
use Rattle.std.specs.Prelude.{List, Option}
use Rattle.c_ints.specs.declared.int.Int.{Int}
use Rattle.c_tree.specs.BareExpr.{Bytes, BareType, BareExpr}
use Rattle.c_tree.specs.BareStmt.{BareDeclaration, BareStmts}

-- a name and the type that it is declared with
pub record BareBinding : Type 0 where
  pub declared : BareType
  pub name : Bytes

-- what a prototype writes of its parameters
pub data BareParameters : Type 0 where
  Named : List BareBinding → BareParameters
  Unnamed : List BareType → BareParameters

-- `f = e;` in a struct's transformer
pub record BareFieldValue : Type 0 where
  pub field : Bytes
  pub value : BareExpr

-- one definition or declaration of a text's first level
pub data BareDef : Type 0 where
  Struct : Bytes → List BareBinding → BareDef
  Forward : Bytes → BareDef
  Mutex : Bytes → BareDef
  Function : Option BareType → Bytes → List BareBinding → BareStmts → BareDef
  Prototype : Option BareType → Bytes → BareParameters → BareDef
  Global : BareDeclaration → BareDef
  Array : BareType → Bytes → Int → Option (List BareExpr) → BareDef
  TransformStruct : Bytes → List BareFieldValue → BareDef
  TransformGlobal : Bytes → BareExpr → BareDef
