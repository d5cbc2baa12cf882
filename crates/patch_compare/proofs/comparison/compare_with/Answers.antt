use Rattle.patch_compare.proofs.comparison.compare_with.Goals as goal

pub returns : goal.returns
returns c = c.compare_known-answer.ensures
