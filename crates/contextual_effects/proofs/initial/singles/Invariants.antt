use Rattle.contextual_effects.specs.Steps.{AreSingles}
use Rattle.contextual_effects.proofs.initial.singles.Given as goal

abbrev pub invariant-loop-id : goal.invariant-loop-id
invariant-loop-id l = AreSingles l.id l.sets.items
