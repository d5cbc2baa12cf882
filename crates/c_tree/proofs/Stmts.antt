-- Statements with parts, without their places.
use Rattle.std.proofs.Common.{◌≡◌, ℕ, List, [], ◌∷◌, map, refl, ◌∙◌, ap, arith}
use Rattle.std.specs.Prelude.{Option, option_map}
use Rattle.c_tree.specs.declared.expr.Expr.{Expr}
use Rattle.c_tree.specs.declared.stmt.Stmt.{Stmt, out-Stmt}
use Rattle.c_tree.specs.declared.stmt.Stmt.TheFolds.{fold_out-Stmt, map-Stmt}
use Rattle.c_tree.specs.declared.stmt.StmtNode.{StmtNode}
use Rattle.c_tree.specs.declared.stmt.StmtNode.TheVariants.{If, IfElse, While, DoWhile, For, Transaction}
use Rattle.c_tree.specs.BareStmt.{BareStmt}
use Rattle.c_tree.specs.BareStmt as bare
use Rattle.c_tree.specs.Bare.{bare_expr, bare_block, bare_stmt_node, bare_stmt}

-- a block lists its statements in one way only
pub block_once : (xs ys : List BareStmt) → bare_block xs ≡ bare_block ys → xs ≡ ys
block_once [] [] e = refl
block_once [] (y ∷ ys) e = cc
block_once (x ∷ xs) [] e = cc
block_once (x ∷ xs) (y ∷ ys) e = grind (arith, block_once xs ys)

-- what a statement is without places, by its node
pub by_node : (s : Stmt) (node : StmtNode Stmt) → (out-Stmt s).node ≡ node →
    bare_stmt s ≡ bare_stmt_node (map-Stmt Stmt BareStmt bare_stmt (record { place = (out-Stmt s).place; node = node })).node
by_node s node is =
    fold_out-Stmt BareStmt (λ s'. bare_stmt_node s'.node) s
    ∙ ap (λ n. bare_stmt_node (map-Stmt Stmt BareStmt bare_stmt (record { place = (out-Stmt s).place; node = n })).node) is

pub of_transaction : (s : Stmt) (body : List Stmt) (end : ℕ) → (out-Stmt s).node ≡ Transaction body end →
    bare_stmt s ≡ bare.Transaction (bare_block (map bare_stmt body))
of_transaction s body end is = by_node s (Transaction body end) is

pub of_if : (s : Stmt) (c : Expr) (t : Stmt) → (out-Stmt s).node ≡ If c t → bare_stmt s ≡ bare.If (bare_expr c) (bare_stmt t)
of_if s c t is = by_node s (If c t) is

pub of_if_else : (s : Stmt) (c : Expr) (t u : Stmt) → (out-Stmt s).node ≡ IfElse c t u →
    bare_stmt s ≡ bare.IfElse (bare_expr c) (bare_stmt t) (bare_stmt u)
of_if_else s c t u is = by_node s (IfElse c t u) is

pub of_while : (s : Stmt) (c : Expr) (t : Stmt) → (out-Stmt s).node ≡ While c t →
    bare_stmt s ≡ bare.While (bare_expr c) (bare_stmt t)
of_while s c t is = by_node s (While c t) is

pub of_do_while : (s : Stmt) (t : Stmt) (c : Expr) → (out-Stmt s).node ≡ DoWhile t c →
    bare_stmt s ≡ bare.DoWhile (bare_stmt t) (bare_expr c)
of_do_while s t c is = by_node s (DoWhile t c) is

pub of_for : (s : Stmt) (first : List Stmt) (test step : Option Expr) (t : Stmt) →
    (out-Stmt s).node ≡ For first test step t →
    bare_stmt s
    ≡ bare.For (bare_block (map bare_stmt first)) (option_map bare_expr test) (option_map bare_expr step) (bare_stmt t)
of_for s first test step t is = by_node s (For first test step t) is
