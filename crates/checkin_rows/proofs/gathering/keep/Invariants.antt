use Rattle.std.proofs.Common.{◌≤◌, take, length}
use Rattle.checkin_rows.specs.Rows.{AreDifferent}
use Rattle.checkin_rows.specs.Steps.{AreKept}
use Rattle.checkin_rows.proofs.gathering.keep.Given as goal

abbrev pub invariant-loop-row : goal.invariant-loop-row
invariant-loop-row l = record {
  kept : AreKept (take l.row-index l.rows) l.index.items l.kept.keys;
  different : AreDifferent l.kept.keys;
  few : length l.kept.keys ≤ l.row-index;
}
