use Rattle.frame_bodies.proofs.Stores.{later_texts_leave}
use Rattle.frame_bodies.proofs.laws.later_texts_leave_bodies.Goals as goal

pub returns : goal.returns
returns c = later_texts_leave
