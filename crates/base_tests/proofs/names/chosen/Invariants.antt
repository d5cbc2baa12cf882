use Rattle.std.proofs.Common.{ℕ, ◌<◌, length}
use Rattle.name_sets.specs.IdSet.{Holds}
use Rattle.base_tests.proofs.names.chosen.Given as goal

abbrev pub invariant-loop-text : goal.invariant-loop-text
invariant-loop-text l = (id : ℕ) → Holds l.set id → id < length l.names
