use Rattle.set_constraints.specs.Waiting.{RestFrom}
use Rattle.set_constraints.proofs.queue.Queue.scan.Given as goal

abbrev pub invariant-loop-place : goal.invariant-loop-place
invariant-loop-place l = RestFrom l.self.waits.items l.order l.from l.place
