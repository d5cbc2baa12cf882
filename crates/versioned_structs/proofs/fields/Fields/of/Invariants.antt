use Rattle.std.proofs.Common.{◌≡◌, length, take}
use Rattle.versioned_structs.proofs.fields.Fields.of.Given as goal

abbrev pub invariant-loop-value : goal.invariant-loop-value
invariant-loop-value l = (l.fields ≡ take l.value-index l.values) × (length l.fields ≡ l.value-index)
