use Rattle.std.proofs.Common.{◌<◌, None, sym, ◌∙◌, subst, length-set, le_refl, le_trans}
use Rattle.std.specs.Prelude.{slice_index_or}
use Rattle.std.proofs.lemmas.List.{get_or-set_other}
use Rattle.source_model.specs.Versions.{current, next_table}
use Rattle.version_laws.specs.Histories.{last_text}
use Rattle.recorded_runs.specs.RecordedRuns.{IsOpen}
use Rattle.recorded_runs.proofs.KeptRecords.{item_at, later_place, one_follows, past_follows, split_at}
use Rattle.recorded_runs.proofs.records.follow_open.Goals as goal

pub loop-place-preserved : goal.loop-place-preserved
loop-place-preserved c = (
  length-set c.loop-place.records c.loop-place.place _ ∙ c.loop-place.invariant.0,
  λ k later.
      get_or-set_other c.loop-place.records c.loop-place.place k _ None (later_place c.loop-place.place k later).0
      ∙ c.loop-place.invariant.1 k (later_place c.loop-place.place k later).1,
  λ texts q table slots is main began each.
      let next = next_table (current table) (last_text texts) q table in
      let records = c.loop-place.records in
      let place = c.loop-place.place in
      let within = subst (λ n. place < n) (sym c.loop-place.invariant.0) c.loop-place-test.true in
      let read = item_at records place c.index-records-place.result None within c.index-records-place.is in
      one_follows table next slots records place c.follow_one.new.place within
      (c.follow_one.ensures texts q table (slots place) is main began (subst (λ o. IsOpen table o (slots place)) c.index-records-place.is
      (subst (λ o. IsOpen table o (slots place)) (sym (c.loop-place.invariant.1 place (le_refl place)) ∙ read) (each place))))
      (c.loop-place.invariant.2 texts q table slots is main began each),
)

pub returns-clause-kept : goal.returns-clause-kept
returns-clause-kept c = λ texts q table slots is main began each k.
    let next = next_table (current table) (last_text texts) q table in
    let place = c.loop-place.place in
    split_at (λ n. IsOpen next (slice_index_or c.loop-place.records n None) (slots n)) place
    (c.loop-place.invariant.2 texts q table slots is main began each)
    (λ n later.
    subst (λ o. IsOpen next o (slots n)) (sym (c.loop-place.invariant.1 n later))
    (past_follows table next c.args.records.now n (slots n) (le_trans c.loop-place-test.false later) (each n)))
    k
