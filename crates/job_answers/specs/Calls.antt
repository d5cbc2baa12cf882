-- What a call left: its outcome, and what its outputs show.
use Rattle.std.specs.Prelude.{◌≡◌, ◌⊎◌, ℕ, List, [], Option, None}
use Rattle.std.specs.Io.KnownBytes.{Appends}
use Rattle.dsu_io.specs.Causes.{Rose}
use Rattle.dsu_io.specs.Sinks.{AppendsFront}
use Rattle.run_types.specs.declared.run.Event.{Event}
use Rattle.run_types.specs.declared.run.Ending.{Ending}
use Rattle.dsu_report.specs.declared.fault.FaultLine.{FaultLine}
use Rattle.dsu_report.specs.Faults.{fault_line}
use Rattle.dsu_report.specs.Statuses.{status_of_line}
use Rattle.source_model.specs.declared.answer.OfferAnswer.{OfferAnswer}
use Rattle.job_answers.specs.declared.outcome.InForce.{InForce}
use Rattle.job_answers.specs.declared.outcome.Outcome.{Outcome}

-- an output: what it showed before a call and shows now, where it shows what it has, and how many faults it had counted
-- before and has now
pub record Output : Type 0 where
  pub before : Option (List ℕ)
  pub now : Option (List ℕ)
  pub counted : ℕ
  pub count : ℕ

-- a call that has returned
pub record Call : Type 0 where
  pub status : ℕ
  pub history : List Event
  pub ending : Option Ending
  pub answers : List OfferAnswer
  pub installed : Option InForce
  pub out : Output
  pub err : Output

-- an output, seen by the meanings of its sink
abbrev pub output_of : {S : Type 0} → (S → Option (List ℕ)) → (S → ℕ) → S → S → Output
output_of told faults before now =
    record { before = told before; now = told now; counted = faults before; count = faults now }

-- the call that came to an outcome, with its two outputs
abbrev pub call_of : {O : Type 0} → Outcome O → Output → Output → Call
call_of outcome out err = record {
  status = outcome.status;
  history = outcome.history.items;
  ending = outcome.ending;
  answers = outcome.answers.items;
  installed = outcome.installed;
  out = out;
  err = err;
}

-- a text was appended
abbrev pub Shows : Output → List ℕ → Type 0
Shows o text = Appends o.before o.now text

-- a shorter prefix of it was, and a fault was counted
abbrev pub ShowsPrefix : Output → List ℕ → Type 0
ShowsPrefix o text = AppendsFront o.before o.now text × Rose o.counted o.count

-- the text was appended, or a shorter prefix of it where the output failed
abbrev pub Writes : Output → List ℕ → Type 0
Writes o text = Shows o text ⊎ ShowsPrefix o text

-- nothing was written
pub record Untouched (o : Output) : Type 0 where
  pub same : o.now ≡ o.before
  pub quiet : o.count ≡ o.counted

-- no ending is handed back, no answers, and no version in force
pub record NoEnd (call : Call) : Type 0 where
  pub ending : call.ending ≡ None
  pub answers : call.answers ≡ []
  pub installed : call.installed ≡ None

-- a call that came to nothing: no event, no ending, nothing on standard output, and the fault's line on standard error
pub record Stopped (fault : FaultLine) (file : List ℕ) (call : Call) : Type 0 where
  pub status : call.status ≡ status_of_line fault
  pub history : call.history ≡ []
  pub no_end : NoEnd call
  pub out : Untouched call.out
  pub err : Writes call.err (fault_line fault file)
