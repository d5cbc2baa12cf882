-- What an expression is found to be, by its form.
use Rattle.std.proofs.Common.{◌≡◌, ap}
use Rattle.c_tree.specs.declared.expr.Expr.{Expr, out-Expr}
use Rattle.c_tree.specs.declared.expr.Expr.TheFolds.{map-Expr}
use Rattle.c_tree.specs.declared.expr.ExprNode.{ExprNode}
use Rattle.c_expr_types.specs.declared.found.Part.{Part}
use Rattle.c_expr_types.specs.Expressions.{part, infer}
use Rattle.c_definitions.specs.Lookup.{Names}

pub inferred_by_form : (names : Names) (e : Expr) (node : ExprNode Expr) → (out-Expr e).node ≡ node →
    (part names (out-Expr e).place (map-Expr Expr Part (infer names) (out-Expr e)).node).found
    ≡ (part names (out-Expr e).place (map-Expr Expr Part (infer names) (record { place = (out-Expr e).place; node = node })).node).found
inferred_by_form names e node is =
    ap (λ n. (part names (out-Expr e).place (map-Expr Expr Part (infer names) (record { place = (out-Expr e).place; node = n })).node).found) is
