use Rattle.std.proofs.Common.{◌<◌, ◌≤◌, refl, ap, sym, ◌∙◌, subst, length-set}
use Rattle.source_model.specs.Versions.{current, next_table}
use Rattle.version_laws.specs.Histories.{last_text}
use Rattle.version_spans.specs.Kept.{IsKept}
use Rattle.recorded_runs.proofs.KeptRecords.{all_between, between_next, got_at}
use Rattle.recorded_runs.proofs.records.follow_closed.Goals as goal

pub loop-place-init : goal.loop-place-init
loop-place-init c = (refl, λ texts q table own is main began are. are)

pub loop-place-preserved : goal.loop-place-preserved
loop-place-preserved c = (
  length-set c.loop-place.records c.loop-place.place _ ∙ c.loop-place.invariant.0,
  λ texts q table own is main began are.
      let next = next_table (current table) (last_text texts) q table in
      let records = c.loop-place.records in
      let place = c.loop-place.place in
      let read = c.index-records-place.result in
      between_next place table next records own read _
      (got_at records place read (subst (λ n. place < n) (sym c.loop-place.auto.records) c.loop-place-test.true) c.index-records-place.is)
      (ap (λ r. r.slot) (sym c.index-records-place.is)) (λ uses kept. c.follow.ensures texts q table uses is main began (subst (λ r. IsKept table uses r.kept) c.index-records-place.is kept))
      (c.loop-place.invariant.1 texts q table own is main began are),
)

pub returns-clause-kept : goal.returns-clause-kept
returns-clause-kept c = λ texts q table own is main began are.
    all_between c.loop-place.place table (next_table (current table) (last_text texts) q table) c.loop-place.records own
    (subst (λ n. n ≤ c.loop-place.place) (sym c.loop-place.auto.records) c.loop-place-test.false)
    (c.loop-place.invariant.1 texts q table own is main began are)
