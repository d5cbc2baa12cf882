use Rattle.std.proofs.Common.{◌≡◌, map, take}
use Rattle.local_evaluation.specs.Values.{seen}
use Rattle.versioned_structs.specs.Transforms.{new_values}
use Rattle.source_install.proofs.install.values_by.Given as goal

abbrev pub invariant-loop-change : goal.invariant-loop-change
invariant-loop-change l = map seen l.values.items ≡ new_values (take l.change-index l.changes) (map seen l.old)
