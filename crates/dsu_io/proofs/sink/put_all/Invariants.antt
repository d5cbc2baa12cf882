use Rattle.std.proofs.Common.{◌≤◌, take}
use Rattle.std.specs.Io.KnownBytes.{Appends}
use Rattle.dsu_io.specs.Sinks.{joined}
use Rattle.dsu_io.proofs.sink.put_all.Given as goal

-- the faults haven't fallen, and the pieces so far were appended
abbrev pub invariant-loop-piece : goal.invariant-loop-piece
invariant-loop-piece g l =
    (g.S.Sink.faults l.initial.sink ≤ g.S.Sink.faults l.sink)
    × Appends (g.S.Sink.told l.initial.sink) (g.S.Sink.told l.sink) (joined (take l.piece-index l.pieces))
