use Rattle.std.proofs.Common.{◌≡◌, [], map, take}
use Rattle.checkin_rows.specs.Marks.{with_marks}
use Rattle.checkin_rows.specs.Rows.{AreDifferent}
use Rattle.checkin_rows.proofs.entries.marks.Given as goal

abbrev pub invariant-loop-entry : goal.invariant-loop-entry
invariant-loop-entry l = record {
  marks : l.marks.keys ≡ with_marks [] (map (λ e. e.mark) (take l.entry-index l.entries));
  different : AreDifferent l.marks.keys;
}
