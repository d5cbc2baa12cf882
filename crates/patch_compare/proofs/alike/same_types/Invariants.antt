use Rattle.std.proofs.Common.{◌≡◌, map}
use Rattle.c_tree.specs.Bare.{bare_type}
use Rattle.c_semantics.specs.Same.{same_type, same_list}
use Rattle.patch_compare.proofs.Items.{from}
use Rattle.patch_compare.proofs.alike.same_types.Given as goal

-- the answer is that from the next parameter on
abbrev pub invariant-loop-i : goal.invariant-loop-i
invariant-loop-i l =
    same_list same_type (map (λ b. bare_type b.declared) l.a) (map (λ b. bare_type b.declared) l.b)
    ≡ from (λ b. bare_type b.declared) same_type l.a l.b l.i
