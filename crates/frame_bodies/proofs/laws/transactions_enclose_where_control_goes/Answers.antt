use Rattle.frame_bodies.proofs.Shapes.{each_depth_follows}
use Rattle.frame_bodies.proofs.laws.transactions_enclose_where_control_goes.Goals as goal

pub returns : goal.returns
returns c = each_depth_follows
