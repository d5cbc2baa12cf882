use Rattle.std.proofs.Common.{ℕ, ◌<◌, ◌↔◌}
use Rattle.name_sets.specs.IdSet.{Holds}
use Rattle.admits_report.proofs.tested.within.Given as goal

-- the ids so far
abbrev pub invariant-loop-index : goal.invariant-loop-index
invariant-loop-index l = (id : ℕ) → Holds l.ids id ↔ (Holds l.set id × (id < l.index))
