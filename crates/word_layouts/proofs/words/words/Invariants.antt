use Rattle.std.proofs.Common.{◌≡◌, map, take}
use Rattle.local_evaluation.specs.Values.{seen}
use Rattle.word_layouts.specs.WordValues.{object_words}
use Rattle.word_layouts.proofs.words.words.Given as goal

abbrev pub invariant-loop-place : goal.invariant-loop-place
invariant-loop-place l = l.words ≡ object_words (map seen (take l.place l.values))
