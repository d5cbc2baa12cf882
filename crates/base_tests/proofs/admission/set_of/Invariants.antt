use Rattle.std.proofs.Common.{ℕ, ◌<◌, length}
use Rattle.name_sets.specs.IdSet.{Holds}
use Rattle.base_tests.proofs.admission.set_of.Given as goal

abbrev pub invariant-loop-place : goal.invariant-loop-place
invariant-loop-place l = (id : ℕ) → Holds l.set id → id < length l.names
