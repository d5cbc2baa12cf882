use Rattle.std.proofs.Common.{◌≡◌, length, map, take}
use Rattle.local_evaluation.specs.Values.{seen}
use Rattle.word_layouts.specs.WordValues.{read_words}
use Rattle.word_layouts.proofs.words.fields.Given as goal

abbrev pub invariant-loop-place : goal.invariant-loop-place
invariant-loop-place l = (map seen l.fields ≡ read_words (take l.place l.kinds) l.words) × (length l.fields ≡ l.place)
