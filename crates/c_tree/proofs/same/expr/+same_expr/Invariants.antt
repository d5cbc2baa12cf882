use Rattle.std.proofs.Common.{◌≡◌, map, take}
use Rattle.c_tree.specs.Bare.{bare_expr}
use Rattle.c_tree.proofs.same.expr.+same_expr.Given as goal

abbrev pub invariant-same_exprs-loop-i : goal.invariant-same_exprs-loop-i
invariant-same_exprs-loop-i l = map bare_expr (take l.i l.a) ≡ map bare_expr (take l.i l.b)
