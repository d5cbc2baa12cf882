use Rattle.source_model.proofs.Coming.{frames_come_through}
use Rattle.source_model.proofs.laws.frames_come_through_their_bodies.Goals as goal

pub returns : goal.returns
returns c = frames_come_through
