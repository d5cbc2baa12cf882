use Rattle.set_constraints.specs.Constraints.{Fit}
use Rattle.base_tests.proofs.nets.edges_of.Given as goal

abbrev pub invariant-loop-from : goal.invariant-loop-from
invariant-loop-from l = Fit l.nodes l.edges.items
