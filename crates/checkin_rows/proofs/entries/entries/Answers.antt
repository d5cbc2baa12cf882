use Rattle.std.proofs.Common.{◌≡◌, ◌++◌, ◌≤◌, ◌+◌, refl, ap, ◌∙◌, arith}
use Rattle.std.proofs.lemmas.Option.{slice_get_read}
use Rattle.std.specs.Prelude.{slice_get, Some}
use Rattle.checkin_rows.specs.Marks.{there, check_in_at}
use Rattle.checkin_rows.proofs.MarkLemmas.{check_ins_more, entries_more}
use Rattle.checkin_rows.proofs.entries.entries.Goals as goal

pub loop-place-preserved : goal.loop-place-preserved
loop-place-preserved c =
    let at : slice_get c.args.points.now c.loop-place.place ≡ Some c.index-points-place.result =
    slice_get_read c.args.points.now _ c.loop-place.place c.index-points-place.result refl c.loop-place-test.true c.index-points-place.is in
    let few : c.loop-place.number ≤ c.loop-place.place = c.loop-place.invariant.few in
    let bound : c.check_ins_to-number.result ≤ c.loop-place.number + 1 = c.check_ins_to-number.ensures.bound in
    record {
      number = c.check_ins_to-number.ensures.value ∙ check_ins_more c.args.points.now c.loop-place.place c.index-points-place.result c.loop-place.number c.loop-place.invariant.number at;
      few = omega arith;
      entries = entries_more c.args.nodes.now.points c.args.nodes.now.names c.args.points.now c.loop-place.place c.index-points-place.result c.loop-place.number
          c.loop-place.entries.items c.add.new.entries.items c.add-in-loop-place.new.entries.items c.loop-place.invariant.number at
          (c.in_ok-add.ensures ∙ ap (λ o. c.loop-place.entries.items ++ there o) c.start_at.ensures)
          (c.in_ok-add-2.ensures ∙ ap (λ o. c.add.new.entries.items ++ there o) (c.check_in_at.ensures ∙ ap (λ n. check_in_at n c.loop-place.place c.index-points-place.result) c.check_ins_here-here.ensures))
          c.loop-place.invariant.entries;
    }
