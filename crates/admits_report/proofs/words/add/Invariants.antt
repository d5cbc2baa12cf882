use Rattle.std.proofs.Common.{◌≡◌, ◌++◌, take}
use Rattle.dsu_io.specs.Sinks.{joined}
use Rattle.admits_report.proofs.words.add.Given as goal

-- the pieces so far were added
abbrev pub invariant-loop-piece : goal.invariant-loop-piece
invariant-loop-piece l = l.text.items ≡ l.initial.text.items ++ joined (take l.piece-index l.pieces)
