use Rattle.std.proofs.Common.{◌≡◌, ◌∙◌, Some, refl, sym, ap}
use Rattle.noted_reports.specs.NotedReports.{Kept}
use Rattle.job_answers.specs.Calls.{call_of, output_of}
use Rattle.top_call.specs.Explained.{noted}
use Rattle.top_call.proofs.Explaining.{counted_none, done_noted, first_noted, noted_as}
use Rattle.top_call.proofs.explained.explain.Goals as goal

pub returns-clause-answers : goal.returns-clause-answers
returns-clause-answers g c =
    let outcome = c.done-outcome.result in
    let kept = c.done-outcome.new.err in
    let none : c.new-report.result.faults ≡ 0 = ap (λ (r : Kept). r.faults) c.new-report.ensures in
    let whole : kept.faults ≡ 0 = counted_none kept.faults (sym c.is_short.ensures ∙ c.if-is_short.false) in
    let out = output_of g.O.Sink.told g.O.Sink.faults c.args.out outcome.out in
    let err = output_of (λ (r : Kept). Some r.bytes) (λ (r : Kept). r.faults) c.new-report.result kept in
    let wrote = c.reported.ensures.wrote out err in
    record {
      plain = call_of outcome out err;
      after = g.F.Files.faults c.done-outcome.new.files;
      answers = c.done-outcome.ensures.answers;
      report = kept.bytes;
      began = ap (λ (r : Kept). Some r.bytes) c.new-report.ensures;
      kept = refl;
      reported = noted c.deref.result.now (whole ∙ sym none)
          (noted_as outcome.ending kept.bytes c.into_bytes.result.items c.noted-text.result.items c.deref.result.now
          c.into_bytes.ensures c.deref.ensures.value c.noted-text.ensures)
          (rw c.reported.ensures.out wrote);
    }

pub returns-clause-complete : goal.returns-clause-complete
returns-clause-complete g c = λ ready.
    let outcome = c.done-outcome.result in
    let kept = c.done-outcome.new.err in
    let out = output_of g.O.Sink.told g.O.Sink.faults c.args.out outcome.out in
    let err = output_of (λ (r : Kept). Some r.bytes) (λ (r : Kept). r.faults) c.new-report.result kept in
    done_noted (call_of outcome out err) kept.bytes c.deref.result.now _
    (noted_as outcome.ending kept.bytes c.into_bytes.result.items c.noted-text.result.items c.deref.result.now
    c.into_bytes.ensures c.deref.ensures.value c.noted-text.ensures)
    (c.reported.ensures.wrote out err) (c.done-outcome.ensures.complete ready)

pub returns-clause-first : goal.returns-clause-first
returns-clause-first g c = λ line file fault.
    let outcome = c.done-outcome.result in
    let kept = c.done-outcome.new.err in
    let none : c.new-report.result.faults ≡ 0 = ap (λ (r : Kept). r.faults) c.new-report.ensures in
    let whole : kept.faults ≡ 0 = counted_none kept.faults (sym c.is_short.ensures ∙ c.if-is_short.false) in
    let out = output_of g.O.Sink.told g.O.Sink.faults c.args.out outcome.out in
    let err = output_of (λ (r : Kept). Some r.bytes) (λ (r : Kept). r.faults) c.new-report.result kept in
    rw c.reported.ensures.out (first_noted (call_of outcome out err) kept.bytes c.deref.result.now _
    (noted_as outcome.ending kept.bytes c.into_bytes.result.items c.noted-text.result.items c.deref.result.now
    c.into_bytes.ensures c.deref.ensures.value c.noted-text.ensures)
    (c.reported.ensures.wrote out err) line file (ap (λ (r : Kept). Some r.bytes) c.new-report.ensures) refl (whole ∙ sym none) none
    (c.done-outcome.ensures.first line file fault))
