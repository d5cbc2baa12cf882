use Rattle.contextual_effects.proofs.Solutions.{standard_sets}
use Rattle.contextual_effects.proofs.solution.standard_effects.Goals as goal

pub returns-clause-effects : goal.returns-clause-effects
returns-clause-effects c =
    standard_sets c.empty-nested.result c.requires c.in_ok-whole.ensures c.deref.ensures.value c.in_ok-sets.ensures c.deref-2.ensures.value
    c.in_ok-standard.ensures.items
