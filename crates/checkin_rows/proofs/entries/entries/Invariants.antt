use Rattle.std.proofs.Common.{◌≡◌, ◌≤◌, take}
use Rattle.checkin_rows.specs.Marks.{check_ins_before, entries_of}
use Rattle.checkin_rows.proofs.entries.entries.Given as goal

abbrev pub invariant-loop-place : goal.invariant-loop-place
invariant-loop-place l = record {
  number : l.number ≡ check_ins_before l.points l.place;
  few : l.number ≤ l.place;
  entries : l.entries.items ≡ entries_of l.nodes.points l.nodes.names l.points (take l.place l.points);
}
