use Rattle.std.proofs.Common.{ℕ, None, ap, sym, subst, length, slice_index_or, arith}
use Rattle.std.proofs.lemmas.List.{with_items_is}
use Rattle.source_model.specs.Versions.{current, next_table}
use Rattle.version_laws.specs.Histories.{last_text}
use Rattle.recorded_runs.specs.RecordedRuns.{AreClosed, IsOpen}
use Rattle.recorded_runs.proofs.records.Records.follow.Goals as goal

pub returns-clause-kept : goal.returns-clause-kept
returns-clause-kept c = λ texts q table slots closed is main began kept.
    let next = next_table (current table) (last_text texts) q table in record {
      of_slots =
          subst (λ items. (k : ℕ) → IsOpen next (slice_index_or items k None) (slots k))
          (sym
          (with_items_is c.args.self.now.of_slots c.follow_open.new.records
          (omega (arith, c.follow_open.ensures.count, ap length c.as_mut_slice.ensures.value, c.args.self.now.of_slots.ok.0))))
          (c.follow_open.ensures.kept texts q table slots is main began
          (subst (λ items. (k : ℕ) → IsOpen table (slice_index_or items k None) (slots k)) (sym c.as_mut_slice.ensures.value) kept.of_slots));
      closed_ones =
          subst (λ items. AreClosed next items closed)
          (sym
          (with_items_is c.args.self.now.closed c.follow_closed.new.records
          (omega (arith, c.follow_closed.ensures.count, ap length c.as_mut_slice-2.ensures.value, c.args.self.now.closed.ok.0))))
          (c.follow_closed.ensures.kept texts q table closed is main began
          (subst (λ items. AreClosed table items closed) (sym c.as_mut_slice-2.ensures.value) kept.closed_ones));
    }
