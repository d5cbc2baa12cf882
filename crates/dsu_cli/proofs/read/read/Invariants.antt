use Rattle.std.proofs.Common.{◌≡◌, ◌++◌, map}
use Rattle.std.specs.Prelude.{drop}
use Rattle.dsu_cli.proofs.read.read.Given as goal

-- the texts so far and the words that are left are all words
abbrev pub invariant-loop-word : goal.invariant-loop-word
invariant-loop-word l = map (λ text. text.now) l.texts.items ++ drop l.word-index l.words ≡ l.words
