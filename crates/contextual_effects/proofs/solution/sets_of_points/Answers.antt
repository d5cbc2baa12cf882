use Rattle.contextual_effects.proofs.Solutions.{begin_many}
use Rattle.contextual_effects.proofs.solution.sets_of_points.Goals as goal

pub returns-clause-many : goal.returns-clause-many
returns-clause-many c = begin_many c.requires.whole c.in_ok-sets.ensures c.truncate.ensures.items
