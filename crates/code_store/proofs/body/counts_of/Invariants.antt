use Rattle.std.proofs.Common.{take}
use Rattle.code_store.specs.Stored.{HasCounts}
use Rattle.code_store.proofs.body.counts_of.Given as goal

abbrev pub invariant-loop-body : goal.invariant-loop-body
invariant-loop-body l = HasCounts (take l.body-index l.bodies) l.check_ins l.tokens
