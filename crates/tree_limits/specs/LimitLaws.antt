-- What the limits of a text mean for the code of its trees.
use Rattle.std.specs.Prelude.{◌≤◌, ℕ, suc, ◌+◌, List, map, length}
use Rattle.c_tree.specs.Bare.{bare_block, bare_stmt}
use Rattle.c_tree.specs.BareDef.{BareBinding}
use Rattle.c_tree.specs.BareExpr.{BareType}
use Rattle.c_tree.specs.declared.stmt.Stmt.{Stmt}
use Rattle.c_expr_types.specs.Need.{body_need}
use Rattle.c_types.specs.Statements.{total, variables}
use Rattle.c_semantics.specs.Texts.{Definitions}
use Rattle.c_semantics.specs.Resolution.{statements}
use Rattle.typed_trees.specs.ValueTypes.{Environment, in_scope}
use Rattle.tree_code.specs.Code.{HaveRoom}
use Rattle.formed_code.specs.Depths.{depth_stmts}

-- the tree of a body has at most one word more than its statements need, under any definitions
abbrev pub WordsAreFew : Type 0
WordsAreFew =
    (look : Definitions) (result : BareType) (locals : List BareBinding) (body : List Stmt)
    → depth_stmts (statements look result locals (bare_block (map bare_stmt body))) ≤ suc (body_need body)

-- and it has room for its variables, where those in scope and all that its statements declare have
abbrev pub RoomIsEnough : Type 0
RoomIsEnough =
    (look : Definitions) (result : BareType) (locals : List BareBinding) (env : Environment) (most : ℕ) (body : List Stmt)
    → length (in_scope env) + total (map variables body) ≤ most
    → HaveRoom most env (statements look result locals (bare_block (map bare_stmt body)))
