use Rattle.std.proofs.Common.{◌<◌, All, length}
use Rattle.pass_lock.specs.Passes.{IsFreeAt}
use Rattle.threaded_vm.specs.Crews.{AreFree}
use Rattle.threaded_vm.proofs.workers.run_crew.Given as goal

abbrev pub invariant-loop : goal.invariant-loop
invariant-loop g l =
    IsFreeAt l.crew.lock.table l.last × (0 < length l.workers.items)
    × All (λ w. AreFree l.crew.lock.table w.items) l.workers.items
