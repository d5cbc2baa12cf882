-- What a job came to whose report is explained: a plain call of the same job, with nothing but notes added to its report.
use Rattle.std.specs.Prelude.{◌≡◌, ℕ, nat_le, List, [], Option, Some, None, if◌then◌else◌}
use Rattle.dsu_io.specs.Causes.{FailedReads, Rose}
use Rattle.run_types.specs.declared.run.Ending.{Ending}
use Rattle.dsu_cli.specs.declared.job.Job.{Job}
use Rattle.dsu_cli.specs.declared.job.Detail.{Detail}
use Rattle.dsu_cli.specs.declared.job.Detail.TheVariants.{Plain, Explained}
use Rattle.dsu_report.specs.declared.fault.FaultLine.{FaultLine}
use Rattle.dsu_report.specs.declared.fault.FaultLine.TheVariants.{Memory}
use Rattle.dsu_report.specs.Faults.{fault_line}
use Rattle.dsu_report.specs.Statuses.{status_of_line}
use Rattle.noted_reports.specs.NotedReports.{AddsNotes, WithNotes, run_mark}
use Rattle.job_answers.specs.Answers.{Answers}
use Rattle.job_answers.specs.Calls.{Call, NoEnd, Shows, ShowsPrefix, Stopped, Untouched, Writes}
use Rattle.job_answers.specs.Jobs.{Contents}

-- the text of a report with notes: in the report of a run that ended after its lines, else after all of it: after the line of
-- a fault, or alone where a command was done whose report is empty
abbrev pub Noted : Option Ending → List ℕ → List ℕ → Type 0
Noted None report text = AddsNotes report text
Noted (Some ending) report text = WithNotes run_mark report text

-- the call came to what the plain one did, but for standard error
pub record SameCall (plain call : Call) : Type 0 where
  pub status : call.status ≡ plain.status
  pub history : call.history ≡ plain.history
  pub ending : call.ending ≡ plain.ending
  pub answers : call.answers ≡ plain.answers
  pub installed : call.installed ≡ plain.installed
  pub out : call.out ≡ plain.out

-- the call hands back no ending, with the events and the output of the plain one
pub record Unended (plain call : Call) : Type 0 where
  pub history : call.history ≡ plain.history
  pub out : call.out ≡ plain.out
  pub no_end : NoEnd call

-- the status where standard error failed at the report: that of a fault stays
abbrev pub unwritten : ℕ → ℕ
unwritten status = if nat_le status 3 then 13 else status

-- what became of a plain call when a text was written in the place of its report: all of it was written, or standard error
-- failed at it
pub data WroteText (plain : Call) (text : List ℕ) (call : Call) : Type 0 where
  written : SameCall plain call → Shows call.err text → WroteText plain text call
  failed : Unended plain call → call.status ≡ unwritten plain.status → ShowsPrefix call.err text → WroteText plain text call

-- what became of a plain call whose report was kept: the whole report was written with its notes, or there was no memory to
-- keep it
pub data Reported (plain call : Call) (report : List ℕ) : Type 0 where
  noted : (text : List ℕ) → plain.err.count ≡ plain.err.counted → Noted plain.ending report text → WroteText plain text call
      → Reported plain call report
  short : Rose plain.err.counted plain.err.count → Unended plain call → call.status ≡ 20
      → Writes call.err (fault_line Memory []) → Reported plain call report

-- a call that explains: a plain call of the same job, whose report was kept and then written with notes. The files that notes
-- are about are read once more, after the plain call
pub record Explains (job : Job) (content : Contents) (before : FailedReads) (call : Call) : Type 0 where
  pub plain : Call
  pub after : FailedReads
  pub answers : Answers job content before after plain
  pub report : List ℕ
  pub began : plain.err.before ≡ Some []
  pub kept : plain.err.now ≡ Some report
  pub reported : Reported plain call report

-- what a job came to, as it was asked for
abbrev pub Responds : Detail → Job → Contents → FailedReads → FailedReads → Call → Type 0
Responds Plain job content before now call = Answers job content before now call
Responds Explained job content before now call = Explains job content before call

-- the call reported a fault of a file, with notes after its line
pub record StoppedNoted (line : FaultLine) (file : List ℕ) (call : Call) : Type 0 where
  pub status : call.status ≡ status_of_line line
  pub history : call.history ≡ []
  pub no_end : NoEnd call
  pub out : Untouched call.out
  pub text : List ℕ
  pub adds : AddsNotes (fault_line line file) text
  pub err : Writes call.err text

-- the call reported a fault of a file, as it was asked for
abbrev pub StoppedAs : Detail → FaultLine → List ℕ → Call → Type 0
StoppedAs Plain line file call = Stopped line file call
StoppedAs Explained line file call = StoppedNoted line file call
