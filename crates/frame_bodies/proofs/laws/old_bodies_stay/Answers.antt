use Rattle.frame_bodies.proofs.OldBodies.{old_bodies_stay}
use Rattle.frame_bodies.proofs.laws.old_bodies_stay.Goals as goal

pub returns : goal.returns
returns c = old_bodies_stay
