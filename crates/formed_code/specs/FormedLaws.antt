-- What is known of the shapes of code: that of each tree is well formed.
use Rattle.std.specs.Prelude.{◌≡◌, ◌≤◌, ℕ, true, List, [], ◌∷◌, ◌++◌, length}
use Rattle.c_tree.specs.BareExpr.{BareType}
use Rattle.c_tree.specs.BareDef.{BareBinding}
use Rattle.c_semantics.specs.Texts.{Definitions}
use Rattle.c_semantics.specs.Resolved.{Statements}
use Rattle.c_semantics.specs.Leaving.{leaves_at_ends}
use Rattle.typed_trees.specs.StatementTypes.{BodyTyped}
use Rattle.tree_code.specs.Code.{HaveRoom, body_code}
use Rattle.code_kinds.specs.WordKinds.{word_kind}
use Rattle.code_kinds.specs.StopKinds.{Words}
use Rattle.code_kinds.specs.WellFormed.{FunctionCode, WellFormed, deepest, most_variables}
use Rattle.formed_code.specs.Depths.{depth_stmts}

-- the kinds of variables in the order of their numbers: the first is that of the last one in the list
abbrev pub kinds_of : List BareBinding → Words
kinds_of [] = []
kinds_of (b ∷ bs) = kinds_of bs ++ word_kind b.declared ∷ []

-- the code of a function with room for so many variables
abbrev pub function_code : Definitions → List BareBinding → BareType → ℕ → Statements → FunctionCode
function_code look parameters result most body = record {
  look = look;
  parameters = kinds_of parameters;
  result = word_kind result;
  room = most;
  code = body_code look parameters result body;
}

-- it is well formed, where its tree is typed, there is room for its variables and for its words, and transactions are left at
-- their ends
abbrev pub CodeIsWellFormed : Type 0
CodeIsWellFormed =
    (look : Definitions) (parameters : List BareBinding) (result : BareType) (most : ℕ) (body : Statements)
    → BodyTyped look result parameters body → HaveRoom most (parameters ∷ []) body
    → length parameters ≤ most → most ≤ most_variables → depth_stmts body ≤ deepest → leaves_at_ends body ≡ true
    → WellFormed (function_code look parameters result most body)
