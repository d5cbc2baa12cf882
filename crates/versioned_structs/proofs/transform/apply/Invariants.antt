use Rattle.std.proofs.Common.{◌≡◌, map, length, take}
use Rattle.local_evaluation.specs.Values.{seen}
use Rattle.versioned_structs.specs.Transforms.{new_values}
use Rattle.versioned_structs.proofs.transform.apply.Given as goal

abbrev pub invariant-loop-change : goal.invariant-loop-change
invariant-loop-change l =
    (map seen l.new ≡ new_values (take l.change-index l.changes) (map seen l.old)) × (length l.new ≡ l.change-index)
