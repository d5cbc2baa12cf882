use Rattle.std.proofs.Common.{◌≤◌, ◌+◌}
use Rattle.set_constraints.specs.Passing.{room_of}
use Rattle.set_constraints.specs.Waiting.{waiting}
use Rattle.set_constraints.proofs.PassLemmas.{Passing}
use Rattle.set_constraints.proofs.solution.pass_on.Given as goal

abbrev pub invariant-loop-place : goal.invariant-loop-place
invariant-loop-place l = record {
  passing : Passing l.links.edges.items l.node l.initial.sets l.initial.queue.waits.items l.place l.sets l.queue.waits.items;
  falls : room_of l.sets + waiting l.queue.waits.items ≤ room_of l.initial.sets + waiting l.initial.queue.waits.items;
}

abbrev pub decreases-loop-place : goal.decreases-loop-place
decreases-loop-place l = l.place
