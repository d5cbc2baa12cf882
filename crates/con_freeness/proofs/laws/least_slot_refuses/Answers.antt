use Rattle.con_freeness.proofs.Rows.{least_slot_refuses}
use Rattle.con_freeness.proofs.laws.least_slot_refuses.Goals as goal

pub returns : goal.returns
returns c = least_slot_refuses
