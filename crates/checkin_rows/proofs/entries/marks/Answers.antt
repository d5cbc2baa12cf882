use Rattle.std.proofs.lemmas.Option.{slice_get-get_or}
use Rattle.checkin_rows.proofs.Inserting.{inserted_different}
use Rattle.checkin_rows.proofs.KeyTests.{marks_same}
use Rattle.checkin_rows.proofs.MarkLemmas.{marks_more}
use Rattle.checkin_rows.proofs.entries.marks.Goals as goal

pub loop-entry-preserved : goal.loop-entry-preserved
loop-entry-preserved c = record {
  marks = marks_more _ marks_same c.loop-entry.marks.keys c.insert.new.self.keys c.args.entries.now c.loop-entry.entry-index _ c.in_ok-insert.ensures.keys
      c.loop-entry.invariant.marks (slice_get-get_or c.args.entries.now c.loop-entry.entry-index _ c.loop-entry-test.true);
  different = inserted_different _ c.loop-entry.marks.keys c.insert.new.self.keys _ marks_same c.in_ok-insert.ensures.keys c.loop-entry.invariant.different;
}
