use Rattle.frame_bodies.proofs.Shapes.{each_goes_on}
use Rattle.frame_bodies.proofs.laws.each_point_goes_on.Goals as goal

pub returns : goal.returns
returns c = each_goes_on
