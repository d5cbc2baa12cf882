use Rattle.rows_in_force.proofs.LaterBodies.{mark_stays}
use Rattle.rows_in_force.proofs.laws.marks_stay.Goals as goal

pub returns : goal.returns
returns c = mark_stays
