use Rattle.contextual_effects.specs.Steps.{IsMarked}
use Rattle.contextual_effects.proofs.solution.marked.Given as goal

abbrev pub invariant-loop-id : goal.invariant-loop-id
invariant-loop-id l = IsMarked l.id l.sets l.nested
