use Rattle.std.proofs.Common.{◌+◌, ◌≤◌, length, sym, ap, ◌∙◌, subst, take, arith, refl}
use Rattle.std.specs.Prelude.{Some}
use Rattle.std.proofs.lemmas.Option.{slice_get_read}
use Rattle.checkin_rows.specs.Steps.{AreKept}
use Rattle.checkin_rows.proofs.Lists.{take_more}
use Rattle.checkin_rows.proofs.Inserting.{inserted_different, inserted_stay, inserted_few}
use Rattle.checkin_rows.proofs.KeyTests.{row_test, rows_same}
use Rattle.checkin_rows.proofs.RowsOfMarks.{kept_more}
use Rattle.checkin_rows.proofs.gathering.keep.Goals as goal

pub loop-row-preserved : goal.loop-row-preserved
loop-row-preserved c =
    let more = take_more c.args.rows.now c.loop-row.row-index c.row-item.result
    (slice_get_read c.args.rows.now _ c.loop-row.row-index c.row-item.result refl c.loop-row-test.true c.row-item.is) in
    let stored = c.in_ok-place.ensures.stored in
    let few : length c.insert_full.new.self.keys ≤ length c.loop-row.kept.keys + 1 = inserted_few row_test c.loop-row.kept.keys c.insert_full.new.self.keys c.row-item.result c.in_ok-place.ensures.keys in
    let before : length c.loop-row.kept.keys ≤ c.loop-row.row-index = c.loop-row.invariant.few in
    record {
      kept = subst (λ rows. AreKept rows c.push.new.self.items c.insert_full.new.self.keys) (sym more)
          (kept_more (take c.loop-row.row-index c.args.rows.now) c.loop-row.index.items c.push.new.self.items c.loop-row.kept.keys c.insert_full.new.self.keys
          c.row-item.result c.in_ok-place.place c.loop-row.invariant.kept c.in_ok-push.ensures.items
          (inserted_stay row_test c.loop-row.kept.keys c.insert_full.new.self.keys c.row-item.result c.in_ok-place.ensures.keys)
          (stored.1 ∙ ap Some (sym (rows_same.same c.row-item.result stored.0 stored.2))));
      different = inserted_different row_test c.loop-row.kept.keys c.insert_full.new.self.keys c.row-item.result rows_same c.in_ok-place.ensures.keys c.loop-row.invariant.different;
      few = omega arith;
    }
