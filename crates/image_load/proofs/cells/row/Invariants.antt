use Rattle.std.proofs.Common.{◌≡◌, map, take}
use Rattle.local_evaluation.specs.Values.{seen}
use Rattle.bytecode.specs.Words.{Naming, word_of}
use Rattle.image_load.proofs.cells.row.Given as goal

abbrev pub invariant-loop-place : goal.invariant-loop-place
invariant-loop-place l = (naming : Naming) → l.words.items ≡ map (word_of naming) (map seen (take l.place l.cells))
