-- The needs of calls, by their lists of arguments.
use Rattle.std.proofs.Common.{◌≡◌, ℕ, List, map, min, max, ◌∙◌, ap, arith}
use Rattle.c_tree.specs.declared.expr.Expr.{Expr, out-Expr}
use Rattle.c_tree.specs.declared.expr.Expr.TheFolds.{fold_out-Expr, map-Expr}
use Rattle.c_tree.specs.declared.expr.ExprNode.{ExprNode}
use Rattle.c_tree.specs.declared.expr.ExprNode.TheVariants.{Call, Print}
use Rattle.c_expr_types.specs.Need.{node_need, call_need, need}

-- what an expression needs, by its node
pub need_of : (e : Expr) (node : ExprNode Expr) → (out-Expr e).node ≡ node →
    need e ≡ node_need (map-Expr Expr ℕ need (record { place = (out-Expr e).place; node = node })).node
need_of e node is =
    fold_out-Expr ℕ (λ e'. node_need e'.node) e
    ∙ ap (λ n. node_need (map-Expr Expr ℕ need (record { place = (out-Expr e).place; node = n })).node) is

pub need_of_call : (e : Expr) (name : List ℕ) (list : List Expr) → (out-Expr e).node ≡ Call name list →
    need e ≡ call_need (map need list)
need_of_call e name list is = need_of e (Call name list) is

pub need_of_print : (e : Expr) (place : ℕ) (format : List ℕ) (list : List Expr) → (out-Expr e).node ≡ Print place format list →
    need e ≡ call_need (map need list)
need_of_print e place format list is = need_of e (Print place format list) is

-- bounded before or after
pub bounded : (k : ℕ) → max (min k 65) 1 ≡ min (max 1 k) 65
bounded k = grind arith
