use Rattle.std.proofs.Common.{take}
use Rattle.checkin_rows.specs.Steps.{AreRowsOfMarks}
use Rattle.checkin_rows.proofs.gathering.gather.Given as goal

abbrev pub invariant-loop-entry : goal.invariant-loop-entry
invariant-loop-entry l = AreRowsOfMarks (take l.entry-index l.entries) l.sets l.marks.keys l.rows.items
