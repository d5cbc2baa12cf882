-- What the definitions give at a tree that is written out: each fold at a node of parts.
use Rattle.std.proofs.Common.{◌≡◌, ℕ, List, ap}
use Rattle.c_tree.specs.declared.expr.Expr.{Expr}
use Rattle.c_tree.specs.declared.expr.Expr.TheFolds.{fold-roll-Expr, map-Expr}
use Rattle.c_tree.specs.declared.expr.ExprNode.{ExprNode}
use Rattle.c_tree.specs.declared.stmt.Stmt.{Stmt}
use Rattle.c_tree.specs.declared.stmt.Stmt.TheFolds.{fold-roll-Stmt, map-Stmt}
use Rattle.c_tree.specs.declared.stmt.StmtNode.{StmtNode}
use Rattle.c_tree.specs.declared.def.Def.{Def}
use Rattle.c_definitions.specs.Lookup.{Names}
use Rattle.c_expr_types.specs.declared.found.Part.{Part}
use Rattle.c_expr_types.specs.Expressions.{part, infer}
use Rattle.c_expr_types.specs.Need.{node_need, need, stmt_node_need, stmt_need}
use Rattle.c_types.specs.Statements.{Around, Walked, stmt_node, walk, node_variables, variables}
use Rattle.c_types.specs.TransformSyntax.{Form, allows, names_old, form, form_of}
use Rattle.c_types.proofs.Samples.{expr, stmt}

pub infer_at : (names : Names) (place : ℕ) (node : ExprNode Expr) →
    infer names (expr place node)
    ≡ part names place (map-Expr Expr Part (infer names) (record { place = place; node = node })).node
infer_at names place node = fold-roll-Expr Part (λ e. part names e.place e.node) (record { place = place; node = node })

pub need_at : (place : ℕ) (node : ExprNode Expr) →
    need (expr place node) ≡ node_need (map-Expr Expr ℕ need (record { place = place; node = node })).node
need_at place node = fold-roll-Expr ℕ (λ e. node_need e.node) (record { place = place; node = node })

pub walk_at : (place : ℕ) (node : StmtNode Stmt) (around : Around) →
    walk (stmt place node) around
    ≡ stmt_node place (map-Stmt Stmt (Around → Walked) walk (record { place = place; node = node })).node around
walk_at place node around =
    ap (λ w. w around) (fold-roll-Stmt (Around → Walked) (λ s. stmt_node s.place s.node) (record { place = place; node = node }))

pub stmt_need_at : (place : ℕ) (node : StmtNode Stmt) →
    stmt_need (stmt place node) ≡ stmt_node_need (map-Stmt Stmt ℕ stmt_need (record { place = place; node = node })).node
stmt_need_at place node = fold-roll-Stmt ℕ (λ s. stmt_node_need s.node) (record { place = place; node = node })

pub variables_at : (place : ℕ) (node : StmtNode Stmt) →
    variables (stmt place node) ≡ node_variables (map-Stmt Stmt ℕ variables (record { place = place; node = node })).node
variables_at place node = fold-roll-Stmt ℕ (λ s. node_variables s.node) (record { place = place; node = node })

pub allowed_at : (text : List Def) (place : ℕ) (node : ExprNode Expr) →
    (form_of text (expr place node)).is_allowed
    ≡ allows text (map-Expr Expr Form (form_of text) (record { place = place; node = node })).node
allowed_at text place node =
    ap (λ f. f.is_allowed) (fold-roll-Expr Form (λ e. form text e.node) (record { place = place; node = node }))

pub old_at : (text : List Def) (place : ℕ) (node : ExprNode Expr) →
    (form_of text (expr place node)).is_old
    ≡ names_old (map-Expr Expr Form (form_of text) (record { place = place; node = node })).node
old_at text place node =
    ap (λ f. f.is_old) (fold-roll-Expr Form (λ e. form text e.node) (record { place = place; node = node }))
