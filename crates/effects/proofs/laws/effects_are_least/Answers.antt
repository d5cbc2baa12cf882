use Rattle.effects.proofs.Least.{nested_least, standard_least, prior_least, future_least, concrete_least}
use Rattle.effects.proofs.laws.effects_are_least.Goals as goal

pub returns-clause-nested : goal.returns-clause-nested
returns-clause-nested c = nested_least

pub returns-clause-standard : goal.returns-clause-standard
returns-clause-standard c = standard_least

pub returns-clause-prior : goal.returns-clause-prior
returns-clause-prior c = prior_least

pub returns-clause-future : goal.returns-clause-future
returns-clause-future c = future_least

pub returns-clause-concrete : goal.returns-clause-concrete
returns-clause-concrete c = concrete_least
