use Rattle.std.proofs.Common.{◌≡◌, map, take}
use Rattle.c_tree.specs.Bare.{bare_binding}
use Rattle.c_tree.proofs.same.def.same_bindings.Given as goal

abbrev pub invariant-loop-i : goal.invariant-loop-i
invariant-loop-i l = map bare_binding (take l.i l.a) ≡ map bare_binding (take l.i l.b)
