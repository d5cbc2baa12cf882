use Rattle.std.proofs.Common.{◌≡◌, ◌≤◌, ◌+◌}
use Rattle.dsu_report.specs.Places.{line_at, column_at}
use Rattle.dsu_report.proofs.place.counted.Given as goal

-- the line and the column of the place so far, which are no more than the bytes in front of it and one
abbrev pub invariant-loop-byte : goal.invariant-loop-byte
invariant-loop-byte l =
    (l.line ≡ line_at l.text l.byte-index) × (l.column ≡ column_at l.text l.byte-index)
    × (l.line ≤ l.byte-index + 1) × (l.column ≤ l.byte-index + 1)
