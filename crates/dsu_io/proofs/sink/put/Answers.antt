use Rattle.std.proofs.Common.{rules}
use Rattle.dsu_io.proofs.Written.{Appends-more}
use Rattle.dsu_io.proofs.sink.put.Goals as goal

pub loop-done-preserved : goal.loop-done-preserved
loop-done-preserved g c =
    (search rules, search rules, Appends-more _ _ _ _ _ _ c.loop-done.invariant.2 c.in_ok-done.ensures.bytes)
