use Rattle.patch_compare.proofs.comparison.compare_definitions.Goals as goal

pub returns : goal.returns
returns c = c.compare_with-answer.ensures
