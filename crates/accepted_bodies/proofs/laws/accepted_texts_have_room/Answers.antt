use Rattle.accepted_bodies.proofs.RoomForBodies.{accepted_texts_have_room}
use Rattle.accepted_bodies.proofs.laws.accepted_texts_have_room.Goals as goal

pub returns : goal.returns
returns c = accepted_texts_have_room
