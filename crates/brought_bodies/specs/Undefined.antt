-- Texts that use a name that they don't define.
use Rattle.std.specs.Prelude.{List, Option, Some, Contains}
use Rattle.c_tree.specs.BareExpr.{Bytes, BareType}
use Rattle.c_tree.specs.BareStmt.{BareStmts}
use Rattle.c_tree.specs.BareDef.{BareBinding, BareDef, Function}
use Rattle.c_semantics.specs.Texts.{definition, names}
use Rattle.c_semantics.specs.Skeletons.{direct_uses, skeleton_of}

-- some function of a text uses a name at its points that the text doesn't define
pub record HasUndefinedUse (text : List BareDef) : Type 0 where
  pub result : Option BareType
  pub name : Bytes
  pub parameters : List BareBinding
  pub body : BareStmts
  pub is_there : Contains text (Function result name parameters body)
  pub used : Bytes
  pub uses : Contains (direct_uses (skeleton_of (definition text) (Some (Function result name parameters body)))) used
  pub undefined : ¬ Contains (names text) used
