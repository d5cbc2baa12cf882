use Rattle.run_laws.proofs.Repeated.{replays_repeat}
use Rattle.run_laws.proofs.laws.replays_repeat_runs.Goals as goal

pub returns : goal.returns
returns c = replays_repeat c.rules_exist.ensures
