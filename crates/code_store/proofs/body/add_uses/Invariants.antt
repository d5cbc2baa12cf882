use Rattle.std.proofs.Common.{take}
use Rattle.code_store.specs.Uses.{used_ids}
use Rattle.code_store.proofs.UsedIds.{GrownBy}
use Rattle.code_store.proofs.body.add_uses.Given as goal

abbrev pub invariant-loop-point : goal.invariant-loop-point
invariant-loop-point l = GrownBy l.fn.set (used_ids (take l.point-index l.points)) l.set
