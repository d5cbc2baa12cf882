use Rattle.std.proofs.Common.{ℕ, ◌<◌, ◌*◌, length}
use Rattle.std.specs.Option.{ForSome}
use Rattle.name_sets.specs.Search.{TellsLeastBelow, ShowCommon}
use Rattle.name_sets.proofs.least.least_of_rows.Given as goal

abbrev pub invariant-loop-block : goal.invariant-loop-block
invariant-loop-block l = record {
  known : ForSome l.least (λ id. id < length l.names);
  least : (set : ℕ) → ShowCommon l.words l.other set → TellsLeastBelow l.names set (512 * l.block) l.least;
}
