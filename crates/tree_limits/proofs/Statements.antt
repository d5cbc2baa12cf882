-- The tree of a statement has at most one word more than its expressions need.
use Rattle.std.proofs.Common.{◌≤◌, ℕ, suc, List, [], ◌∷◌, map, Option, Some, None, sym, subst, subst₂, arith}
use Rattle.std.specs.Prelude.{option_map}
use Rattle.c_tree.specs.BareExpr.{BareType}
use Rattle.c_tree.specs.BareStmt.{BareStmt}
use Rattle.c_tree.specs.BareDef.{BareBinding}
use Rattle.c_tree.specs.Bare.{bare_block, bare_expr, bare_stmt, bare_stmt_node, bare_type}
use Rattle.c_tree.specs.declared.expr.Expr.{Expr}
use Rattle.c_tree.specs.declared.stmt.Stmt.{Stmt, Stmt-F}
use Rattle.c_tree.specs.declared.stmt.Stmt.TheFolds.{fold-roll-Stmt, ind-Stmt, map-Stmt}
use Rattle.c_tree.specs.declared.stmt.StmtNode.{StmtNode}
use Rattle.c_tree.specs.declared.stmt.StmtNode.TheVariants.{Block, Empty, Evaluate, Declare, If, IfElse, While, DoWhile, For, Break, Continue, Return, ReturnValue, Update, Transaction}
use Rattle.c_expr_types.specs.Need.{body_need, greatest, optional_need, stmt_need, stmt_node_need}
use Rattle.c_semantics.specs.Texts.{Definitions}
use Rattle.c_semantics.specs.Resolved.{Expression}
use Rattle.c_semantics.specs.Resolved as made
use Rattle.c_semantics.specs.Resolution.{declared_by, declared_by_all, statement, statements, tree_of}
use Rattle.formed_code.specs.Depths.{depth_if, depth_stmt, depth_stmts}
use Rattle.tree_limits.proofs.Expressions.{expression_small}

module _ (look : Definitions) (result : BareType) where
  -- an expression that may be absent; a variable's first value
  optional_small : (locals : List BareBinding) (e : Option Expr)
      → depth_if (option_map (tree_of look locals) (option_map bare_expr e)) ≤ suc (optional_need e)
  optional_small locals None = omega arith
  optional_small locals (Some e) = (expression_small look locals e).tree

  initial_small : (locals : List BareBinding) (t : BareType) (e : Option Expr)
      → depth_if (option_map (λ b. made.Convert t (tree_of look locals b)) (option_map bare_expr e)) ≤ suc (optional_need e)
  initial_small locals t None = omega arith
  initial_small locals t (Some e) = (expression_small look locals e).tree

  abbrev StmtSmall : ℕ → BareStmt → Type 0
  StmtSmall n b = (locals : List BareBinding) → depth_stmt (statement look result locals b) ≤ suc n

  -- a statement of which it is known
  abbrev Proved : Type 0
  Proved = (s : Stmt) × StmtSmall (stmt_need s) (bare_stmt s)

  block_small : (ss : List Proved) (locals : List BareBinding)
      → depth_stmts (statements look result locals (bare_block (map bare_stmt (map (λ s. s.0) ss))))
      ≤ suc (greatest (map stmt_need (map (λ s. s.0) ss)))
  block_small [] locals = omega arith
  block_small (s ∷ ss) locals = omega (arith, s.1 locals, block_small ss (declared_by (bare_stmt s.0) locals))

  abbrev Layer : Stmt-F Stmt → Type 0
  Layer x = StmtSmall (stmt_node_need (map-Stmt Stmt ℕ stmt_need x).node) (bare_stmt_node (map-Stmt Stmt BareStmt bare_stmt x).node)

  of_node : (place : ℕ) (n : StmtNode Proved) → Layer (map-Stmt Proved Stmt (λ s. s.0) (record { place = place; node = n }))
  of_node place (Block ss) locals = block_small ss locals
  of_node place Empty locals = omega arith
  of_node place (Evaluate e) locals = (expression_small look locals e).tree
  of_node place (Declare d) locals =
      omega (arith, initial_small (record { declared = bare_type d.declared; name = d.name.text } ∷ locals) (bare_type d.declared) d.initial)
  of_node place (If c s) locals = omega (arith, (expression_small look locals c).tree, s.1 locals)
  of_node place (IfElse c s t) locals = omega (arith, (expression_small look locals c).tree, s.1 locals, t.1 locals)
  of_node place (While c s) locals = omega (arith, (expression_small look locals c).tree, s.1 locals)
  of_node place (DoWhile s c) locals = omega (arith, (expression_small look locals c).tree, s.1 locals)
  of_node place (For first test step s) locals =
      let inner = declared_by_all (bare_block (map bare_stmt (map (λ x. x.0) first))) locals in
      omega (arith, block_small first locals, optional_small inner test, optional_small inner step, s.1 inner)
  of_node place Break locals = omega arith
  of_node place Continue locals = omega arith
  of_node place Return locals = omega arith
  of_node place (ReturnValue e) locals = (expression_small look locals e).tree
  of_node place Update locals = omega arith
  of_node place (Transaction ss end) locals = block_small ss locals

  pub statement_small : (s : Stmt) → StmtSmall (stmt_need s) (bare_stmt s)
  statement_small = ind-Stmt (λ s. StmtSmall (stmt_need s) (bare_stmt s)) (λ x y is.
      let layer : Layer x = subst Layer is (of_node y.place y.node) in
      subst₂ StmtSmall (sym (fold-roll-Stmt ℕ (λ s. stmt_node_need s.node) x)) (sym (fold-roll-Stmt BareStmt (λ s. bare_stmt_node s.node) x)) layer)

  pub statements_small : (locals : List BareBinding) (body : List Stmt)
      → depth_stmts (statements look result locals (bare_block (map bare_stmt body))) ≤ suc (body_need body)
  statements_small locals [] = omega arith
  statements_small locals (s ∷ ss) = omega (arith, statement_small s locals, statements_small (declared_by (bare_stmt s) locals) ss)

pub body_small : (look : Definitions) (result : BareType) (locals : List BareBinding) (body : List Stmt)
    → depth_stmts (statements look result locals (bare_block (map bare_stmt body))) ≤ suc (body_need body)
body_small = statements_small
