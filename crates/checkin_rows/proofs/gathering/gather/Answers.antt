use Rattle.std.proofs.Common.{◌≡◌, ◌<◌, length, get_or, sym, ap, ◌∙◌, refl, arith}
use Rattle.std.specs.Prelude.{slice_get, Some}
use Rattle.std.specs.Option.{is_some}
use Rattle.std.proofs.lemmas.Option.{slice_get-get_or, slice_get_read}
use Rattle.checkin_rows.specs.declared.row.Mark.TheVariants.{Start}
use Rattle.checkin_rows.proofs.Inserting.{at_position, at_no_place}
use Rattle.checkin_rows.proofs.KeyTests.{mark_test, marks_same}
use Rattle.checkin_rows.proofs.RowsOfMarks.{rows_more_at, rows_same_at}
use Rattle.checkin_rows.proofs.gathering.gather.Goals as goal
use Rattle.checkin_rows.proofs.gathering.gather.Goals.{in-Some, in_default}

pub loop-entry-preserved : goal.loop-entry-preserved
loop-entry-preserved c =
    let found : slice_get c.args.entries.now c.loop-entry.entry-index ≡ Some (get_or c.args.entries.now c.loop-entry.entry-index (record { mark = Start 0; node = 0 })) =
    slice_get-get_or c.args.entries.now c.loop-entry.entry-index (record { mark = Start 0; node = 0 }) c.loop-entry-test.true in
    elim c.match-get_index_of.branch [
      | in-Some w ↦
          let k : w.in-Some.place < length c.args.marks.now.keys = w.in-Some.ensures.within in
          let many : length c.loop-entry.rows.items ≡ length c.args.marks.now.keys = c.loop-entry.invariant.many in
          let l : w.in-Some.place < length c.loop-entry.rows.items = omega (arith, k, many) in
          rows_more_at c.args.entries.now c.loop-entry.entry-index c.args.sets.now c.args.marks.now.keys c.loop-entry.rows.items c.match-get_index_of.rows.items
          w.in-Some.place (get_or c.args.entries.now c.loop-entry.entry-index (record { mark = Start 0; node = 0 })) w.index_mut.result.now w.add_entry.new.row
          c.requires c.loop-entry.invariant found
          (at_position mark_test c.args.marks.now.keys _ w.in-Some.place marks_same (sym c.get_index_of.ensures.index ∙ w.in-Some.is))
          (slice_get_read c.loop-entry.rows.items _ w.in-Some.place w.index_mut.result.now refl l w.index_mut.ensures.value)
          (ap (λ v. v.items) w.rows-is) w.add_entry.ensures
      | in_default w ↦
          rows_same_at c.args.entries.now c.loop-entry.entry-index c.args.sets.now c.args.marks.now.keys c.loop-entry.rows.items c.match-get_index_of.rows.items
          (get_or c.args.entries.now c.loop-entry.entry-index (record { mark = Start 0; node = 0 })) found
          (λ k. at_no_place mark_test c.args.marks.now.keys _ marks_same (sym c.get_index_of.ensures.found ∙ ap is_some w.in_default.is) k)
          (ap (λ v. v.items) w.rows-is) c.loop-entry.invariant
    ]
