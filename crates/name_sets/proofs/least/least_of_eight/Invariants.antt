use Rattle.std.proofs.Common.{ℕ, ◌<◌, ◌+◌, ◌*◌, length}
use Rattle.std.specs.Option.{ForSome}
use Rattle.name_sets.specs.Search.{TellsLeastBelow, ShowEight}
use Rattle.name_sets.proofs.least.least_of_eight.Given as goal

abbrev pub invariant-loop-i : goal.invariant-loop-i
invariant-loop-i l = record {
  known : ForSome l.least (λ id. id < length l.names);
  least : (set : ℕ) → ShowEight l.words set l.base → TellsLeastBelow l.names set l.base l.fn.so_far → TellsLeastBelow l.names set (l.base + 64 * l.i) l.least;
}
