use Rattle.effects.proofs.Deciding.{nested_or_not}
use Rattle.effects.proofs.Unending.{prior_is_inside, goes_on_or_ends}
use Rattle.effects.proofs.laws.effects_end.Goals as goal

pub returns-clause-prior : goal.returns-clause-prior
returns-clause-prior c = prior_is_inside

pub returns-clause-nested : goal.returns-clause-nested
returns-clause-nested c = nested_or_not

pub returns-clause-goes_on : goal.returns-clause-goes_on
returns-clause-goes_on c = goes_on_or_ends
