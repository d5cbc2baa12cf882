use Rattle.std.proofs.Common.{◌≡◌, ◌+◌, ◌<◌, ◌≤◌, All, length}
use Rattle.std.specs.Vec.{vec_capacity}
use Rattle.threaded_vm.specs.Crews.{AreFree, AreFresh}
use Rattle.threaded_vm.proofs.crew.Crew.seat_all.Given as goal

abbrev pub invariant-loop-pass : goal.invariant-loop-pass
invariant-loop-pass g l =
    AreFresh l.self.lock.table l.passes.items × (length l.passes.items ≤ 64) × (length l.loads.items ≡ length l.passes.items)
    × (0 < length l.workers.items)
    × All (λ w. AreFree l.self.lock.table w.items × (length w.items + length l.passes.items ≤ vec_capacity w)) l.workers.items

abbrev pub decreases-loop-pass : goal.decreases-loop-pass
decreases-loop-pass g l = length l.passes.items
