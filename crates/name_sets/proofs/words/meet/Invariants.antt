use Rattle.std.proofs.Common.{◌≡◌, ℕ, ◌<◌, ◌*◌}
use Rattle.name_sets.specs.Row.{word_common}
use Rattle.name_sets.proofs.words.meet.Given as goal

abbrev pub invariant-loop-block : goal.invariant-loop-block
invariant-loop-block l = (j : ℕ) → j < 8 * l.block → word_common l.words l.other j ≡ 0
