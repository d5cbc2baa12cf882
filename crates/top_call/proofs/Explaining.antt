-- A plain call whose report was kept, and the call that writes it with notes.
use Rattle.std.proofs.Common.{◌≡◌, ◌∙◌, ◌⊎◌, ℕ, List, [], Option, Some, refl, sym, ap, subst, inl, inr, arith, true, false, Bool}
use Rattle.std.specs.Prelude.{nat_le, nat_lt, if◌then◌else◌}
use Rattle.std.proofs.lemmas.Bool.{ltb-false}
use Rattle.dsu_io.specs.Causes.{Rose}
use Rattle.dsu_report.specs.declared.fault.FaultLine.{FaultLine}
use Rattle.dsu_report.specs.declared.fault.FaultLine.TheVariants.{Usage, Place, Unread, TooLong, Line, Write, Memory}
use Rattle.dsu_report.specs.Faults.{fault_line}
use Rattle.dsu_report.specs.Statuses.{status_of_line}
use Rattle.run_types.specs.declared.run.Ending.{Ending}
use Rattle.noted_reports.specs.NotedReports.{AddsNotes}
use Rattle.job_answers.specs.Answers.{IsDone, IsExcused}
use Rattle.job_answers.specs.Calls.{Call, Output, Stopped, Untouched, Writes}
use Rattle.top_call.specs.Explained.{Noted, StoppedNoted, WroteText, written, failed, unwritten}

-- ---- statuses

-- a failed report is an excuse
stays : (status : ℕ) → IsDone status ⊎ IsExcused status → IsDone (unwritten status) ⊎ IsExcused (unwritten status)
stays status h = by (nat_le status 3)
  where
    by : (few : Bool) → IsDone (if few then 13 else status) ⊎ IsExcused (if few then 13 else status)
    by true = inr (inr (inl refl))
    by false = h

excused_stays : (status : ℕ) → IsExcused status → IsExcused (unwritten status)
excused_stays status (inl e) = rw e (inl refl)
excused_stays status (inr (inl e)) = rw e (inr (inl refl))
excused_stays status (inr (inr e)) = rw e (inr (inr refl))

fault_stays : (line : FaultLine) → unwritten (status_of_line line) ≡ status_of_line line
fault_stays Usage = refl
fault_stays (Place line column word) = refl
fault_stays Unread = refl
fault_stays TooLong = refl
fault_stays (Line line word) = refl
fault_stays Write = refl
fault_stays Memory = refl

-- ---- the report that was kept

-- what was written to an empty report, where no write failed, is what it has
kept_whole : (o : Output) (report text : List ℕ) → o.before ≡ Some [] → o.now ≡ Some report → o.count ≡ o.counted → o.counted ≡ 0
    → Writes o text → report ≡ text
kept_whole o report text began kept same none (inl shows) = (rw (began, kept) at shows)
kept_whole o report text began kept same none (inr front) =
    let rose : Rose 0 0 = rw (same, none) at front.1 in absurd (omega (arith, rose))

-- ---- the call

module _ (plain : Call) (report text : List ℕ) (call : Call) (noted : Noted plain.ending report text) (wrote : WroteText plain text call) where
  pub done_noted : IsDone plain.status ⊎ IsExcused plain.status → IsDone call.status ⊎ IsExcused call.status
  done_noted h = by wrote
    where
      by : WroteText plain text call → IsDone call.status ⊎ IsExcused call.status
      by (written same shows) = rw same.status h
      by (failed un status front) = rw status (stays plain.status h)

  excused_noted : IsExcused plain.status → IsExcused call.status
  excused_noted h = by wrote
    where
      by : WroteText plain text call → IsExcused call.status
      by (written same shows) = rw same.status h
      by (failed un status front) = rw status (excused_stays plain.status h)

  stopped_noted : (line : FaultLine) (file : List ℕ) → plain.err.before ≡ Some [] → plain.err.now ≡ Some report
      → plain.err.count ≡ plain.err.counted → plain.err.counted ≡ 0 → Stopped line file plain → StoppedNoted line file call
  stopped_noted line file began kept same none stopped = by wrote
    where
      adds : AddsNotes (fault_line line file) text
      adds = subst {A = List ℕ} (λ r. AddsNotes r text) (kept_whole plain.err report (fault_line line file) began kept same none stopped.err)
          (subst {A = Option Ending} (λ e. Noted e report text) stopped.no_end.ending noted)

      by : WroteText plain text call → StoppedNoted line file call
      by (written same shows) = record {
        status = same.status ∙ stopped.status;
        history = same.history ∙ stopped.history;
        no_end = record {
          ending = same.ending ∙ stopped.no_end.ending;
          answers = same.answers ∙ stopped.no_end.answers;
          installed = same.installed ∙ stopped.no_end.installed;
        };
        out = subst {A = Output} Untouched (sym same.out) stopped.out;
        text = text;
        adds = adds;
        err = inl shows;
      }
      by (failed un status front) = record {
        status = status ∙ ap unwritten stopped.status ∙ fault_stays line;
        history = un.history ∙ stopped.history;
        no_end = un.no_end;
        out = subst {A = Output} Untouched (sym un.out) stopped.out;
        text = text;
        adds = adds;
        err = inr front;
      }

  pub first_noted : (line : FaultLine) (file : List ℕ) → plain.err.before ≡ Some [] → plain.err.now ≡ Some report
      → plain.err.count ≡ plain.err.counted → plain.err.counted ≡ 0 → IsExcused plain.status ⊎ Stopped line file plain
      → IsExcused call.status ⊎ StoppedNoted line file call
  first_noted line file began kept same none (inl excused) = inl (excused_noted excused)
  first_noted line file began kept same none (inr stopped) = inr (stopped_noted line file began kept same none stopped)

-- ---- the report that was kept, by its count

pub counted_none : (count : ℕ) → nat_lt 0 count ≡ false → count ≡ 0
counted_none count is = let few = ltb-false 0 count is in omega (arith, few)

-- notes of a report that was given as it was kept
pub noted_as : (ending : Option Ending) (kept given text made : List ℕ) → given ≡ kept → made ≡ text → Noted ending given text
    → Noted ending kept made
noted_as ending kept given text made first second noted =
    subst {A = List ℕ} (λ r. Noted ending r made) first (subst {A = List ℕ} (λ t. Noted ending given t) (sym second) noted)
