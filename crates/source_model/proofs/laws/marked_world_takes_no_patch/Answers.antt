use Rattle.source_model.proofs.Offers.{marked_decides}
use Rattle.source_model.proofs.laws.marked_world_takes_no_patch.Goals as goal

pub returns : goal.returns
returns c = marked_decides
