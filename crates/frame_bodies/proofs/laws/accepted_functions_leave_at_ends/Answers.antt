use Rattle.frame_bodies.proofs.AcceptedFacts.{accepted_leave_at_ends}
use Rattle.frame_bodies.proofs.laws.accepted_functions_leave_at_ends.Goals as goal

pub returns : goal.returns
returns c = accepted_leave_at_ends
