use Rattle.contextual_effects.proofs.Solutions.{effects_are}
use Rattle.contextual_effects.proofs.solution.solve.Goals as goal

pub returns-clause-effects : goal.returns-clause-effects
returns-clause-effects c =
    let s = c.in_ok-standard.ensures in
    effects_are c.of-nodes.ensures c.in_ok-nested.ensures c.in_ok-whole.ensures s.many s.effects
    _ _ _ c.deref.ensures.value c.deref-2.ensures.value c.deref-3.ensures.value
    c.in_ok-prior.ensures.sets c.in_ok-future.ensures.sets c.in_ok-concrete.ensures.sets
