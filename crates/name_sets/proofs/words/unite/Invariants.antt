use Rattle.std.proofs.Common.{◌≡◌, ◌≢◌, ℕ, ◌<◌, ◌≤◌, ◌*◌, length, get_or}
use Rattle.std.specs.Bool.{MatchBool}
use Rattle.name_sets.specs.Row.{word_union}
use Rattle.name_sets.proofs.words.unite.Given as goal

abbrev pub invariant-loop-block : goal.invariant-loop-block
invariant-loop-block l = record {
  long : length l.words ≡ 32;
  done : (j : ℕ) → j < 8 * l.block → get_or l.words j 0 ≡ word_union l.initial.words l.other j;
  rest : (j : ℕ) → 8 * l.block ≤ j → get_or l.words j 0 ≡ get_or l.initial.words j 0;
  grew : MatchBool l.grew ((j : ℕ) × (word_union l.initial.words l.other j ≢ get_or l.initial.words j 0)) ((j : ℕ) → j < 8 * l.block → word_union l.initial.words l.other j ≡ get_or l.initial.words j 0);
}
