use Rattle.std.proofs.Common.{◌≡◌, ◌+◌, ◌≤◌, ◌++◌, length, take}
use Rattle.std.specs.Vec.{vec_capacity}
use Rattle.threaded_vm.specs.Locked.{events}
use Rattle.threaded_vm.proofs.shared.add_events.Given as goal

abbrev pub invariant-loop-one : goal.invariant-loop-one
invariant-loop-one l = (l.whole.items ≡ l.initial.whole.items ++ events (take l.one-index l.noted)) × (length l.initial.whole.items + length l.noted ≤ vec_capacity l.whole)
