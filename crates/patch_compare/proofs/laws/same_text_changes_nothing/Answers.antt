use Rattle.patch_compare.proofs.Lists.{same_changes_nothing}
use Rattle.patch_compare.proofs.laws.same_text_changes_nothing.Goals as goal

pub returns : goal.returns
returns c = same_changes_nothing c.equal_bodies_are_equal.ensures
