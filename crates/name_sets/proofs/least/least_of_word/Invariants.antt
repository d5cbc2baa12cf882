use Rattle.std.proofs.Common.{ℕ, ◌<◌, length}
use Rattle.std.specs.Option.{ForSome}
use Rattle.name_sets.specs.IdSet.{Holds}
use Rattle.name_sets.specs.Least.{TellsLeast}
use Rattle.name_sets.specs.Search.{TellsLeastBelow, Shows}
use Rattle.name_sets.proofs.LeastLemmas.{IsDone}
use Rattle.name_sets.proofs.least.least_of_word.Given as goal

abbrev pub invariant-loop-left : goal.invariant-loop-left
invariant-loop-left l = record {
  part : (j : ℕ) → Holds l.left j → Holds l.word j;
  known : ForSome l.least (λ id. id < length l.names);
  least : (set : ℕ) → Shows l.word set l.base → TellsLeastBelow l.names set l.base l.fn.so_far → TellsLeast l.names (IsDone set l.base l.left) l.least;
}

abbrev pub decreases-loop-left : goal.decreases-loop-left
decreases-loop-left l = l.left
