use Rattle.std.proofs.Common.{◌≡◌, take}
use Rattle.c_tree.proofs.expr.+copy_expr.Given as goal

abbrev pub invariant-copy_exprs-loop-expr : goal.invariant-copy_exprs-loop-expr
invariant-copy_exprs-loop-expr l = l.copies.items ≡ take l.expr-index l.exprs
