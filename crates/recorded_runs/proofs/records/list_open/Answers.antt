use Rattle.std.proofs.Common.{◌+◌, ◌∷◌, ◌++◌, ◌<◌, length, ap, sym, ◌∙◌, drop, map, None, subst, arith}
use Rattle.source_model.specs.Runs.{open_of}
use Rattle.source_model.specs.Spans.{spans_from}
use Rattle.source_model.specs.Worlds.{Free}
use Rattle.std.specs.Prelude.{slice_index_or}
use Rattle.version_spans.specs.Kept.{span_of}
use Rattle.recorded_runs.specs.RecordedRuns.{IsOpen}
use Rattle.recorded_runs.proofs.KeptRecords.{item_at, kept_at, none_at, none_is, plus_one, pushed}
use Rattle.recorded_runs.proofs.records.list_open.Goals.{in-Some+in_ok-push, in_default}
use Rattle.recorded_runs.proofs.records.list_open.Goals as goal

pub loop-place-preserved : goal.loop-place-preserved
loop-place-preserved c = λ table slots newest small count each.
    let place = c.loop-place.place in
    let old = c.loop-place.spans.items in
    let within : place < length c.args.records.now = omega (arith, c.loop-place-test.true, c.min-place-end.ensures) in
    let below : place < length slots = omega (arith, within, count) in
    let at = item_at c.args.records.now place c.index-records-place.result None within c.index-records-place.is in
    let here = subst (λ o. IsOpen table o (open_of (slice_index_or slots place Free))) at (each place) in
    let before = c.loop-place.invariant table slots newest small count each in
    let later = ap (λ n. spans_from table n (drop n slots)) (plus_one place) in
    elim c.match-records-place.branch [
      | in-Some+in_ok-push w ↦
          pushed old c.match-records-place.spans.items w.span.result (spans_from table (place + 1) (drop (place + 1) slots)) _
          (ap (λ v. v.items) w.spans-is ∙ w.in_ok-push.ensures.items)
          (ap (λ xs. map span_of old ++ xs)
          (sym
          (kept_at table slots place place w.in-Some.record (span_of w.span.result) below
          (subst (λ o. IsOpen table o (open_of (slice_index_or slots place Free))) w.in-Some.is here)
          (λ uses kept. w.span.ensures table uses kept newest)
          ∙ ap (λ xs. span_of w.span.result ∷ xs) later))
          ∙ before)
      | in_default w ↦
          ap (λ v. map span_of v.items ++ spans_from table (place + 1) (drop (place + 1) slots)) w.spans-is
          ∙ ap (λ xs. map span_of old ++ xs)
          (sym
          (none_at table slots place place below
          (none_is table c.index-records-place.result (open_of (slice_index_or slots place Free)) w.in_default.not-Some here)
          ∙ later))
          ∙ before
    ]
