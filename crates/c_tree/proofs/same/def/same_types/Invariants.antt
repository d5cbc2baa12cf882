use Rattle.std.proofs.Common.{◌≡◌, map, take}
use Rattle.c_tree.specs.Bare.{bare_type}
use Rattle.c_tree.proofs.same.def.same_types.Given as goal

abbrev pub invariant-loop-i : goal.invariant-loop-i
invariant-loop-i l = map bare_type (take l.i l.a) ≡ map bare_type (take l.i l.b)
