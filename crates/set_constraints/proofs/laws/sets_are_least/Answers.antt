use Rattle.std.proofs.Common.{◌≡◌, true}
use Rattle.set_constraints.specs.Constraints.{seeded, along}
use Rattle.set_constraints.proofs.ReachLemmas.{reached_in}
use Rattle.set_constraints.proofs.laws.sets_are_least.Goals as goal

pub returns-clause-seeds : goal.returns-clause-seeds
returns-clause-seeds c = λ seeds edges n id held. seeded n id held

pub returns-clause-edges : goal.returns-clause-edges
returns-clause-edges c = λ seeds edges e id among before. along e id among before

pub returns-clause-least : goal.returns-clause-least
returns-clause-least c = λ seeds edges family first meets. reached_in seeds edges (λ n id. family n id ≡ true) first meets
