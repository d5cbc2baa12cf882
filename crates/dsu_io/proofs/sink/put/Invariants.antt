use Rattle.std.proofs.Common.{◌-◌, ◌≤◌, length, take}
use Rattle.std.specs.Io.KnownBytes.{Appends}
use Rattle.dsu_io.proofs.sink.put.Given as goal

-- the faults haven't fallen, and the bytes before `done` were appended
abbrev pub invariant-loop-done : goal.invariant-loop-done
invariant-loop-done g l =
    (l.done ≤ length l.bytes)
    × (g.S.Sink.faults l.initial.sink ≤ g.S.Sink.faults l.sink)
    × Appends (g.S.Sink.told l.initial.sink) (g.S.Sink.told l.sink) (take l.done l.bytes)

abbrev pub decreases-loop-done : goal.decreases-loop-done
decreases-loop-done g l = length l.bytes - l.done
