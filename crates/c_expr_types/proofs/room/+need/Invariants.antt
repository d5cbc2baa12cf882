use Rattle.std.proofs.Common.{◌≡◌, ◌≤◌, length, map, drop, min}
use Rattle.c_expr_types.specs.Need.{in_turn, need}
use Rattle.c_expr_types.proofs.room.+need.Given as goal

abbrev pub invariant-in_turn-loop-i : goal.invariant-in_turn-loop-i
invariant-in_turn-loop-i l = (l.i ≤ length l.exprs) × (l.most ≡ min (in_turn (map need (drop l.i l.exprs))) 65)

abbrev pub decreases-in_turn-loop-i : goal.decreases-in_turn-loop-i
decreases-in_turn-loop-i l = l.i
