use Rattle.name_sets.specs.IdSet.{IsCommon}
use Rattle.con_freeness.proofs.PlainSearch.{TellsBelow}
use Rattle.con_freeness.proofs.plain.least_common.Given as goal

abbrev pub invariant-loop-index : goal.invariant-loop-index
invariant-loop-index l = TellsBelow l.names (IsCommon l.set l.other) l.index l.least
