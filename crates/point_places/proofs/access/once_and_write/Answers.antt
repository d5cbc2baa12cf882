use Rattle.std.proofs.Common.{append_assoc}
use Rattle.std.proofs.lemmas.Result.{IfOk-equal}
use Rattle.point_places.proofs.access.once_and_write.Goals as goal

pub returns : goal.returns
returns c = λ t. IfOk-equal _ _ _ _ (c.access.ensures.write t) (rw (c.in_ok-once.ensures, append_assoc))
