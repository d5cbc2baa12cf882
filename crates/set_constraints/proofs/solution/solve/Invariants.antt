use Rattle.std.proofs.Common.{◌≡◌, ◌+◌, length}
use Rattle.set_constraints.specs.Passing.{room_of}
use Rattle.set_constraints.specs.Waiting.{waiting}
use Rattle.set_constraints.proofs.SolveLemmas.{UnderWay}
use Rattle.set_constraints.proofs.solution.solve.Given as goal

abbrev pub invariant-loop-node : goal.invariant-loop-node
invariant-loop-node l = record {
  under_way : UnderWay l.fn.seeds.items l.links.edges.items l.sets.items l.queue.waits.items;
  sets : length l.sets.items ≡ length l.fn.seeds.items;
  waits : length l.queue.waits.items ≡ length l.fn.seeds.items;
}

abbrev pub decreases-loop-node : goal.decreases-loop-node
decreases-loop-node l = room_of l.sets.items + waiting l.queue.waits.items
