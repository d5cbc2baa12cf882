use Rattle.admission_laws.proofs.Covered.{transactions_share_a_version}
use Rattle.admission_laws.proofs.laws.transactions_share_a_version.Goals as goal

pub returns : goal.returns
returns c = transactions_share_a_version c.frames_go_along_skeletons.ensures.along c.least_slot_refuses.ensures
