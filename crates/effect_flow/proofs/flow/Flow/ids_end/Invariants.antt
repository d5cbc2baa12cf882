use Rattle.std.proofs.Common.{ℕ, ◌≤◌, All, take}
use Rattle.name_sets.specs.Limit.{most_names}
use Rattle.effect_flow.specs.Parts.{HasIdsBelow}
use Rattle.effect_flow.proofs.flow.Flow.ids_end.Given as goal

abbrev pub invariant-loop-point : goal.invariant-loop-point
invariant-loop-point l = record {
  above : All (HasIdsBelow l.end) (take l.point-index l.point-items);
  least : (n : ℕ) → All (HasIdsBelow n) l.point-items → l.end ≤ n;
  bound : l.end ≤ most_names;
}
