use Rattle.std.proofs.Common.{append_assoc}
use Rattle.std.proofs.lemmas.Result.{IfOk-equal}
use Rattle.point_places.proofs.access.read_and_write.Goals as goal

pub returns : goal.returns
returns c = λ t. IfOk-equal _ _ _ _ (c.access-2.ensures.write t) (rw (c.in_ok-access.ensures.read t, append_assoc))
