use Rattle.frame_bodies.proofs.AcceptedFacts.{resolved_by_uses}
use Rattle.frame_bodies.proofs.laws.bodies_resolve_by_their_uses.Goals as goal

pub returns : goal.returns
returns c = resolved_by_uses
