use Rattle.std.proofs.Common.{◌≡◌, ◌≤◌, length, map, drop, min}
use Rattle.c_expr_types.specs.Need.{greatest, need}
use Rattle.c_types.proofs.size.greatest_need.Given as goal

abbrev pub invariant-loop-i : goal.invariant-loop-i
invariant-loop-i l = (l.i ≤ length l.exprs) × (l.most ≡ min (greatest (map need (drop l.i l.exprs))) 65)

abbrev pub decreases-loop-i : goal.decreases-loop-i
decreases-loop-i l = l.i
