use Rattle.image_load.specs.MadeTexts.{AreMadeTo}
use Rattle.image_load.proofs.texts.made_of.Given as goal

abbrev pub invariant-loop-number : goal.invariant-loop-number
invariant-loop-number l = AreMadeTo l.run l.number l.made
