use Rattle.frame_bodies.proofs.AcceptedFacts.{texts_of_programs_are_accepted}
use Rattle.frame_bodies.proofs.laws.texts_of_programs_are_accepted.Goals as goal

pub returns : goal.returns
returns c = texts_of_programs_are_accepted
