use Rattle.std.proofs.Common.{◌≡◌, length}
use Rattle.threaded_vm.specs.Crews.{AreFree}
use Rattle.threaded_vm.proofs.crew.look_at_all.Given as goal

abbrev pub invariant-loop-place : goal.invariant-loop-place
invariant-loop-place g l = AreFree l.crew.lock.table l.seats.items × (length l.seats.items ≡ length l.initial.seats.items)
