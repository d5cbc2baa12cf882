-- The places of the points of small trees.
use Rattle.std.proofs.Common.{◌≡◌, ℕ, [], ◌∷◌, rules, pos}
use Rattle.std.specs.Prelude.{codes}
use Rattle.c_ints.specs.declared.kind.Kind.TheVariants.{I32}
use Rattle.c_ints.specs.declared.operator.BinOp.TheVariants.{Add}
use Rattle.c_ints.specs.Number.{number}
use Rattle.c_tree.specs.declared.name.CType.TheVariants as type
use Rattle.c_tree.specs.declared.expr.Expr.{Expr, roll-Expr, the_lemmas as expr_lemmas}
use Rattle.c_tree.specs.declared.expr.Expr.TheFolds.{fold-roll-Expr, map-Expr}
use Rattle.c_tree.specs.declared.expr.ExprNode.{ExprNode}
use Rattle.c_tree.specs.declared.expr.ExprNode.TheVariants as node
use Rattle.c_tree.specs.declared.stmt.Stmt.{Stmt, roll-Stmt, the_lemmas as stmt_lemmas}
use Rattle.c_tree.specs.declared.stmt.StmtNode.{StmtNode}
use Rattle.c_tree.specs.declared.stmt.StmtNode.TheVariants as stmt_node
use Rattle.c_tree.specs.BareExpr.{Integer}
use Rattle.c_semantics.specs.Resolved.{Expression, Statement, NoExpressions, ExpressionThen, NoStatements, StatementThen}
use Rattle.c_semantics.specs.Resolved as tree
use Rattle.c_semantics.specs.Places.{stripped, without_casts, expression_places, statement_places}

abbrev expr : ℕ → ExprNode Expr → Expr
expr place n = roll-Expr (record { place = place; node = n })

abbrev stmt : ℕ → StmtNode Stmt → Stmt
stmt place n = roll-Stmt (record { place = place; node = n })

-- an expression without casts, by its parts
strip_at : (place : ℕ) (n : ExprNode Expr)
    → without_casts (expr place n) ≡ stripped place (map-Expr Expr Expr without_casts (record { place = place; node = n })).node
strip_at place n = fold-roll-Expr Expr (λ e. stripped e.place e.node) (record { place = place; node = n })

-- g = (int) f(1) + g
abbrev placed : Expr
placed =
    expr 0 (node.Assign (expr 0 (node.Variable (codes "g")))
    (expr 4 (node.Binary Add
    (expr 4 (node.Cast (type.Integer I32) (expr 10 (node.Call (codes "f") (expr 12 (node.Number (number I32 (pos 1))) ∷ [])))))
    (expr 17 (node.Variable (codes "g"))))))

abbrev resolved : Expression
resolved =
    let int = Integer I32 in
    tree.Assign (tree.Global (codes "g"))
    (tree.Convert int (tree.Binary Add
    (tree.Convert int (tree.Call (codes "f") (ExpressionThen (tree.Convert int (tree.Constant (number I32 (pos 1)))) NoExpressions)))
    (tree.Read (tree.Global (codes "g")))))

-- the call and its check-in at f, the read at the second g, the write at the first
of_an_assignment : expression_places resolved (without_casts placed) ≡ 10 ∷ 10 ∷ 17 ∷ 0 ∷ []
of_an_assignment = search (rules, expr_lemmas)

-- dsu_tx { dsu_update(); while (g) ; }   the end at the closing brace, the back edge at `while`
of_a_transaction : statement_places
    (tree.Transaction (StatementThen tree.UpdatePoint (StatementThen (tree.While (tree.Read (tree.Global (codes "g"))) tree.Empty) NoStatements)))
    (stmt 0 (stmt_node.Transaction
    (stmt 9 stmt_node.Update ∷ stmt 23 (stmt_node.While (expr 30 (node.Variable (codes "g"))) (stmt 33 stmt_node.Empty)) ∷ []) 35))
    ≡ 0 ∷ 0 ∷ 9 ∷ 9 ∷ 30 ∷ 23 ∷ 35 ∷ 35 ∷ []
of_a_transaction = search (rules, expr_lemmas, stmt_lemmas)
