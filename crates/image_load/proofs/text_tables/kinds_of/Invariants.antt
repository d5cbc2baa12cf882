use Rattle.std.proofs.Common.{◌≡◌, map, take}
use Rattle.c_tree.specs.Bare.{bare_binding}
use Rattle.constant_values.specs.Kinds.{kind_of}
use Rattle.image_load.proofs.text_tables.kinds_of.Given as goal

abbrev pub invariant-loop-member : goal.invariant-loop-member
invariant-loop-member l = l.kinds.items ≡ map (λ b. kind_of b.declared) (map bare_binding (take l.member-index l.members))
