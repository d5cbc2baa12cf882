use Rattle.std.proofs.Common.{◌≡◌, map}
use Rattle.c_tree.specs.Bare.{bare_binding}
use Rattle.c_semantics.specs.Same.{same_binding, same_list}
use Rattle.type_transformers.proofs.Items.{from}
use Rattle.type_transformers.proofs.same_data.same_layout.Given as goal

-- the answer is that from the next field on
abbrev pub invariant-loop-i : goal.invariant-loop-i
invariant-loop-i l =
    same_list same_binding (map bare_binding l.a) (map bare_binding l.b) ≡ from bare_binding same_binding l.a l.b l.i
