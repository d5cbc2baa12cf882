use Rattle.effects.proofs.Growing.{nested_grows, standard_grows, prior_grows, future_grows, concrete_grows, rows_grow, stores_grow}
use Rattle.effects.proofs.laws.effects_grow.Goals as goal

pub returns-clause-nested : goal.returns-clause-nested
returns-clause-nested c = nested_grows

pub returns-clause-standard : goal.returns-clause-standard
returns-clause-standard c = standard_grows

pub returns-clause-prior : goal.returns-clause-prior
returns-clause-prior c = prior_grows

pub returns-clause-future : goal.returns-clause-future
returns-clause-future c = future_grows

pub returns-clause-concrete : goal.returns-clause-concrete
returns-clause-concrete c = concrete_grows

pub returns-clause-rows : goal.returns-clause-rows
returns-clause-rows c = rows_grow

pub returns-clause-stores : goal.returns-clause-stores
returns-clause-stores c = stores_grow
