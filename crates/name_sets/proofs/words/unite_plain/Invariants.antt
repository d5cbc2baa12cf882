use Rattle.std.proofs.Common.{◌≡◌, ◌≢◌, ℕ, ◌<◌, ◌≤◌, get_or}
use Rattle.std.specs.Bool.{MatchBool}
use Rattle.name_sets.specs.Row.{word_union}
use Rattle.name_sets.proofs.words.unite_plain.Given as goal

abbrev pub invariant-loop-k : goal.invariant-loop-k
invariant-loop-k l = record {
  done : (j : ℕ) → j < l.k → get_or l.words j 0 ≡ word_union l.initial.words l.other j;
  rest : (j : ℕ) → l.k ≤ j → get_or l.words j 0 ≡ get_or l.initial.words j 0;
  grew : MatchBool l.grew ((j : ℕ) × (word_union l.initial.words l.other j ≢ get_or l.initial.words j 0)) ((j : ℕ) → j < l.k → word_union l.initial.words l.other j ≡ get_or l.initial.words j 0);
}
