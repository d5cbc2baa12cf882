use Rattle.con_freeness.proofs.Rows.{admits_without_obstacle}
use Rattle.con_freeness.proofs.laws.rows_admit_without_obstacle.Goals as goal

pub returns : goal.returns
returns c = admits_without_obstacle
