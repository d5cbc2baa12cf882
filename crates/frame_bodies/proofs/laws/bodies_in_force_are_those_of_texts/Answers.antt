use Rattle.frame_bodies.proofs.Stores.{each_has_a_body}
use Rattle.frame_bodies.proofs.laws.bodies_in_force_are_those_of_texts.Goals as goal

pub returns : goal.returns
returns c = each_has_a_body
