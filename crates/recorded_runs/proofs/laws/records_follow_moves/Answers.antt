use Rattle.recorded_runs.proofs.MovedRecords.{moves_keep_records}
use Rattle.recorded_runs.proofs.laws.records_follow_moves.Goals as goal

pub returns : goal.returns
returns c = moves_keep_records
