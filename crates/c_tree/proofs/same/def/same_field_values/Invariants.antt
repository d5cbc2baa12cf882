use Rattle.std.proofs.Common.{◌≡◌, map, take}
use Rattle.c_tree.specs.Bare.{bare_field_value}
use Rattle.c_tree.proofs.same.def.same_field_values.Given as goal

abbrev pub invariant-loop-i : goal.invariant-loop-i
invariant-loop-i l = map bare_field_value (take l.i l.a) ≡ map bare_field_value (take l.i l.b)
