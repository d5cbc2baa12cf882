use Rattle.std.proofs.Common.{take}
use Rattle.code_store.specs.Uses.{ids_used_by}
use Rattle.code_store.proofs.UsedIds.{IsSetOf}
use Rattle.code_store.proofs.store.Store.direct.Given as goal

abbrev pub invariant-loop-body : goal.invariant-loop-body
invariant-loop-body l = IsSetOf (ids_used_by l.name (take l.body-index l.body-items)) l.uses
