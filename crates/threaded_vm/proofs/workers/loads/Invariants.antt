use Rattle.std.proofs.Common.{◌≡◌, ◌≤◌, length}
use Rattle.std.specs.Vec.{vec_capacity}
use Rattle.threaded_vm.proofs.workers.loads.Given as goal

abbrev pub invariant-loop-made : goal.invariant-loop-made
invariant-loop-made g l = (length l.loads.items ≡ l._made) × (l.slots ≤ vec_capacity l.loads)
