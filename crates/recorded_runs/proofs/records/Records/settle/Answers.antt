use Rattle.std.proofs.Common.{ℕ, None, sym, subst, ◌∙◌, slice_index_or, slice_set}
use Rattle.std.proofs.lemmas.Result.{on_ok_weaker}
use Rattle.recorded_runs.specs.MoveRecords.{closed_by, open_by}
use Rattle.recorded_runs.specs.RecordedRuns.{AreClosed, IsOpen, changed_at, has_left, is_inside}
use Rattle.recorded_runs.proofs.KeptRecords.{set_open}
use Rattle.recorded_runs.proofs.records.Records.settle.Goals as goal

pub returns-in-Outside-clause-kept : goal.returns-in-Outside-clause-kept
returns-in-Outside-clause-kept c = λ table slots closed some within kept.
    let slot = c.args.slot in
    let items = c.args.self.now.of_slots.items in
    let new = c.replace-left.new.dest in
    let was = c.replace-left.ensures.value ∙ c.in-Some.ensures.item.3.1 None in
    on_ok_weaker c.close.result
    (λ are. record {
      of_slots =
          subst (λ s. (k : ℕ) → IsOpen table (slice_index_or (slice_set items slot new) k None) (changed_at slot (open_by (is_inside s) (slots slot)) slots k))
          (sym c.in-Outside.is)
          (set_open table slots items slot new None within (subst (λ o. IsOpen table o None) (sym c.replace-left.ensures.after) tt) kept.of_slots);
      closed_ones =
          subst (λ s. AreClosed table c.close.new.closed.items (closed_by (has_left s) slot (slots slot) closed)) (sym c.in-Outside.is) are;
    })
    (c.close.ensures table (slots slot) closed (subst (λ o. IsOpen table o (slots slot)) (sym was) (kept.of_slots slot)) kept.closed_ones)
