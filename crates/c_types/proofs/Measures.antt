-- What is counted in a statement, by its node, and numbers that are reported up to 65.
use Rattle.std.proofs.Common.{◌≡◌, ℕ, ◌+◌, min, max, ◌∙◌, ap, arith}
use Rattle.c_tree.specs.declared.stmt.Stmt.{Stmt, out-Stmt}
use Rattle.c_tree.specs.declared.stmt.Stmt.TheFolds.{fold_out-Stmt, map-Stmt}
use Rattle.c_tree.specs.declared.stmt.StmtNode.{StmtNode}
use Rattle.c_expr_types.specs.Need.{stmt_need, stmt_node_need}
use Rattle.c_types.specs.Statements.{variables, node_variables}

pub capped_sum : (r a b x y : ℕ) → r ≡ min (a + b) 65 → a ≡ min x 65 → b ≡ min y 65 → r ≡ min (x + y) 65
capped_sum r a b x y is is_a is_b = grind arith

pub capped_max : (r a b x y : ℕ) → r ≡ max a b → a ≡ min x 65 → b ≡ min y 65 → r ≡ min (max x y) 65
capped_max r a b x y is is_a is_b = grind arith

-- by the node of a statement
pub variables_of_node : (s : Stmt) (node : StmtNode Stmt) → (out-Stmt s).node ≡ node →
    variables s ≡ node_variables (map-Stmt Stmt ℕ variables (record { place = (out-Stmt s).place; node = node })).node
variables_of_node s node is =
    fold_out-Stmt ℕ (λ s'. node_variables s'.node) s
    ∙ ap (λ n. node_variables (map-Stmt Stmt ℕ variables (record { place = (out-Stmt s).place; node = n })).node) is

pub need_of_node : (s : Stmt) (node : StmtNode Stmt) → (out-Stmt s).node ≡ node →
    stmt_need s ≡ stmt_node_need (map-Stmt Stmt ℕ stmt_need (record { place = (out-Stmt s).place; node = node })).node
need_of_node s node is =
    fold_out-Stmt ℕ (λ s'. stmt_node_need s'.node) s
    ∙ ap (λ n. stmt_node_need (map-Stmt Stmt ℕ stmt_need (record { place = (out-Stmt s).place; node = n })).node) is
