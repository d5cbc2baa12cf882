use Rattle.threaded_vm.specs.Crews.{AreFree}
use Rattle.threaded_vm.proofs.crew.work.Given as goal

abbrev pub invariant-loop : goal.invariant-loop
invariant-loop g l = AreFree l.crew.lock.table l.seats.items
