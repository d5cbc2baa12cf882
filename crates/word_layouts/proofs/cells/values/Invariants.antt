use Rattle.std.proofs.Common.{◌≡◌, map, take}
use Rattle.local_evaluation.specs.Values.{seen}
use Rattle.word_layouts.specs.WordValues.{read_word}
use Rattle.word_layouts.proofs.cells.values.Given as goal

abbrev pub invariant-loop-word : goal.invariant-loop-word
invariant-loop-word l = map seen l.values.items ≡ map (read_word l.kind) (take l.word-index l.words)
