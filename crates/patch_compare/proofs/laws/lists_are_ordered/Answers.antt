use Rattle.patch_compare.proofs.Lists.{lists_are_ordered as ordered}
use Rattle.patch_compare.proofs.laws.lists_are_ordered.Goals as goal

pub returns : goal.returns
returns c = ordered
