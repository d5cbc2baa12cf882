use Rattle.admission_laws.proofs.StackUses.{may_use_is_concrete}
use Rattle.admission_laws.proofs.laws.uses_are_concrete.Goals as goal

pub returns : goal.returns
returns c = λ bodies p version below on_behalf name stacked may. may_use_is_concrete bodies p version below on_behalf name may stacked
