use Rattle.std.proofs.Common.{◌≡◌, take}
use Rattle.c_tree.proofs.def.copy_types.Given as goal

abbrev pub invariant-loop-declared : goal.invariant-loop-declared
invariant-loop-declared l = l.copies.items ≡ take l.declared-index l.types
