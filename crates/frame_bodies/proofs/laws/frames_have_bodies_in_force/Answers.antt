use Rattle.frame_bodies.proofs.Frames.{frames_have_bodies_in_force, frames_have_bodies_of_texts}
use Rattle.frame_bodies.proofs.laws.frames_have_bodies_in_force.Goals as goal

pub returns-clause-texts : goal.returns-clause-texts
returns-clause-texts c = frames_have_bodies_of_texts

pub returns-clause-bodies : goal.returns-clause-bodies
returns-clause-bodies c = frames_have_bodies_in_force
