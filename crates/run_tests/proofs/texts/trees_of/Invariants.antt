use Rattle.std.proofs.Common.{All}
use Rattle.run_tests.specs.ReadTexts.{IsRead}
use Rattle.run_tests.proofs.texts.trees_of.Given as goal

-- each so far was read
abbrev pub invariant-loop-offer : goal.invariant-loop-offer
invariant-loop-offer l = All IsRead l.trees.items
