use Rattle.std.proofs.Common.{◌≡◌, ℕ, ◌<◌}
use Rattle.name_sets.specs.Row.{word_common}
use Rattle.name_sets.proofs.words.meet_plain.Given as goal

abbrev pub invariant-loop-k : goal.invariant-loop-k
invariant-loop-k l = (j : ℕ) → j < l.k → word_common l.words l.other j ≡ 0
