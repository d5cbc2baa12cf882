-- The operand need of an expression: how many values are on an evaluator's stack at most while the expression is computed
-- from left to right.
use Rattle.std.specs.Prelude.{ℕ, suc, ◌+◌, max, List, [], ◌∷◌, map, Option, Some, None}
use Rattle.c_tree.specs.declared.expr.Expr.{Expr}
use Rattle.c_tree.specs.declared.expr.Expr.TheFolds.{fold-Expr}
use Rattle.c_tree.specs.declared.expr.ExprNode.{ExprNode}
use Rattle.c_tree.specs.declared.expr.ExprNode.TheVariants.{Unary, Step, Cast, Binary, And, Or, Choice, Assign, Update, Call, Element, Arrow, Dot, Print, Free, Create, Join, JoinInto}
use Rattle.c_tree.specs.declared.stmt.Stmt.{Stmt}
use Rattle.c_tree.specs.declared.stmt.Stmt.TheFolds.{fold-Stmt}
use Rattle.c_tree.specs.declared.stmt.StmtNode.{StmtNode}
use Rattle.c_tree.specs.declared.stmt.StmtNode.TheVariants as node

-- the greatest of some numbers; of none 0
abbrev pub greatest : List ℕ → ℕ
greatest [] = 0
greatest (n ∷ ns) = max n (greatest ns)

-- of parts that are computed one after another and kept: the greatest of the number of parts before a part and its need
abbrev pub in_turn : List ℕ → ℕ
in_turn [] = 0
in_turn (n ∷ ns) = max n (suc (in_turn ns))

-- of a call form, by its parts: at least 1
abbrev pub call_need : List ℕ → ℕ
call_need ns = max 1 (in_turn ns)

-- of an expression, by the needs of its parts. A place is a variable, or needs what its part needs
abbrev pub node_need : ExprNode ℕ → ℕ
node_need (Unary op a) = a
node_need (Step op a) = a + 2
node_need (Cast t a) = a
node_need (Binary op a b) = max a (suc b)
node_need (And a b) = max a b
node_need (Or a b) = max a b
node_need (Choice a b c) = max a (max b c)
node_need (Assign a b) = max a b + 2
node_need (Update op a b) = max a b + 2
node_need (Call name arguments) = call_need arguments
node_need (Element name a) = a
node_need (Arrow a field) = a
node_need (Dot a field) = a
node_need (Print place format arguments) = call_need arguments
node_need (Free a) = call_need (a ∷ [])
node_need (Create a name b) = call_need (a ∷ b ∷ [])
node_need (Join a) = call_need (a ∷ [])
node_need (JoinInto a b) = call_need (a ∷ b ∷ [])
node_need _ = 1

abbrev pub need : Expr → ℕ
need = fold-Expr ℕ (λ e. node_need e.node)

-- of an expression that may be absent
abbrev pub optional_need : Option Expr → ℕ
optional_need None = 0
optional_need (Some e) = need e

-- the greatest need in a statement, by those of the statements in it
abbrev pub stmt_node_need : StmtNode ℕ → ℕ
stmt_node_need (node.Block body) = greatest body
stmt_node_need (node.Evaluate e) = need e
stmt_node_need (node.Declare d) = optional_need d.initial
stmt_node_need (node.If c s) = max (need c) s
stmt_node_need (node.IfElse c s t) = max (need c) (max s t)
stmt_node_need (node.While c s) = max (need c) s
stmt_node_need (node.DoWhile s c) = max s (need c)
stmt_node_need (node.For first test step s) =
    max (greatest first) (max (optional_need test) (max (optional_need step) s))
stmt_node_need (node.ReturnValue e) = need e
stmt_node_need (node.Transaction body end) = greatest body
stmt_node_need _ = 0

abbrev pub stmt_need : Stmt → ℕ
stmt_need = fold-Stmt ℕ (λ s. stmt_node_need s.node)

-- the greatest need in the body of a function
abbrev pub body_need : List Stmt → ℕ
body_need body = greatest (map stmt_need body)
