use Rattle.frame_bodies.proofs.Shapes.{begins_and_ends}
use Rattle.frame_bodies.proofs.laws.bodies_begin_and_end.Goals as goal

pub returns : goal.returns
returns c = begins_and_ends
