use Rattle.std.proofs.Common.{◌≡◌, ℕ, List, false, length, take}
use Rattle.std.specs.List.{list_any}
use Rattle.skeleton_gen.specs.Naming.{AllKnown}
use Rattle.brought_bodies.specs.Sets.{IsSetOf, uses_one}
use Rattle.brought_bodies.proofs.uses.uses_any.Given as goal

abbrev pub invariant-loop-point : goal.invariant-loop-point
invariant-loop-point l =
    (names list : List (List ℕ)) → IsSetOf names l.set list → AllKnown (length names) l.point-items
    → list_any (λ p. uses_one names list p.kind) (take l.point-index l.point-items) ≡ false
