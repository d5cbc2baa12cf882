use Rattle.std.proofs.Common.{◌≡◌, ◌≤◌, [], All, length}
use Rattle.std.specs.Vec.{vec_capacity}
use Rattle.threaded_vm.proofs.workers.no_seats.Given as goal

abbrev pub invariant-loop-made : goal.invariant-loop-made
invariant-loop-made g l =
    (length l.workers.items ≡ l._made) × (l.count ≤ vec_capacity l.workers)
    × All (λ w. (w.items ≡ []) × (l.seats ≤ vec_capacity w)) l.workers.items
