use Rattle.std.proofs.Common.{rules}
use Rattle.pass_lock.proofs.Making.{lays}
use Rattle.pass_lock.proofs.seats.lay.Goals as goal

pub new-requires : goal.new-requires
new-requires g c = lays g.W.Told.history _ _ _ c.args.value (search rules) (search rules) c.requires.0 c.requires.1
