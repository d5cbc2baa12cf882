use Rattle.settled_code.proofs.Settling.{bursts_settle}
use Rattle.settled_code.proofs.laws.bursts_come_to_settled_states.Goals as goal

pub returns : goal.returns
returns c = bursts_settle
