-- What a job came to.
use Rattle.std.specs.Prelude.{◌≡◌, ◌⊎◌, ◌≤◌, ℕ, false, List, [], Some}
use Rattle.dsu_io.specs.Causes.{FailedReads, NoneFailed}
use Rattle.run_types.specs.declared.run.Event.{Event}
use Rattle.c_tree.specs.declared.def.Program.{Program}
use Rattle.c_types.specs.Definitions.{names_of}
use Rattle.dsu_cli.specs.declared.job.Job.{Job}
use Rattle.dsu_cli.specs.declared.job.Job.TheVariants.{Run, Replay, Check, Effects, Changes, Admits, Gen}
use Rattle.dsu_report.specs.declared.fault.FaultLine.{FaultLine}
use Rattle.dsu_report.specs.declared.fault.FaultLine.TheVariants.{Write, Memory}
use Rattle.dsu_report.specs.Faults.{fault_line}
use Rattle.dsu_runs.specs.Setups.{setup_of}
use Rattle.effects_report.specs.EffectsText.{IsEffectsText}
use Rattle.changes_report.specs.ChangesText.{changes_text}
use Rattle.admits_report.specs.AdmitsText.{IsAdmitsText}
use Rattle.program_gen.specs.Generated.{program_text, offer_text}
use Rattle.input_files.specs.Sources.{HoldsProgram, IsSource}
use Rattle.input_files.specs.Journals.{HoldsEvents}
use Rattle.job_answers.specs.Calls.{Call, NoEnd, Shows, ShowsPrefix, Stopped, Untouched, Writes}
use Rattle.job_answers.specs.Plans.{BySchedule, ByJournal}
use Rattle.job_answers.specs.Reports.{names_line}
use Rattle.job_answers.specs.Runs.{Came}
use Rattle.job_answers.specs.Generated.{SummaryFailed, Summed, generated_setup}
use Rattle.job_answers.specs.Jobs.{AreSources, Contents, FileStops, IsKnownProgram, lines_of}

-- the number of a text's names was printed
pub record Checked (names : ℕ) (call : Call) : Type 0 where
  pub status : call.status ≡ 0
  pub history : call.history ≡ []
  pub no_end : NoEnd call
  pub out : Shows call.out (names_line names)
  pub err : Untouched call.err

-- it couldn't be printed whole
pub record CheckFailed (names : ℕ) (call : Call) : Type 0 where
  pub status : call.status ≡ 13
  pub history : call.history ≡ []
  pub no_end : NoEnd call
  pub out : ShowsPrefix call.out (names_line names)
  pub err : Writes call.err (fault_line Write [])

-- a text of a program's effects was printed
pub record EffectsShown (program : Program) (text : List ℕ) (call : Call) : Type 0 where
  pub status : call.status ≡ 0
  pub history : call.history ≡ []
  pub no_end : NoEnd call
  pub printed : List ℕ
  pub is_text : IsEffectsText program text printed
  pub out : Shows call.out printed
  pub err : Untouched call.err

-- it couldn't be printed whole
pub record EffectsFailed (program : Program) (text : List ℕ) (call : Call) : Type 0 where
  pub status : call.status ≡ 13
  pub history : call.history ≡ []
  pub no_end : NoEnd call
  pub printed : List ℕ
  pub is_text : IsEffectsText program text printed
  pub out : ShowsPrefix call.out printed
  pub err : Writes call.err (fault_line Write [])

-- the text of what changes from one program to another was printed, for the text of the newer one
pub record ChangesShown (program next : Program) (text : List ℕ) (call : Call) : Type 0 where
  pub status : call.status ≡ 0
  pub history : call.history ≡ []
  pub no_end : NoEnd call
  pub out : Shows call.out (changes_text program.definitions next.definitions text)
  pub err : Untouched call.err

-- it couldn't be printed whole
pub record ChangesFailed (program next : Program) (text : List ℕ) (call : Call) : Type 0 where
  pub status : call.status ≡ 13
  pub history : call.history ≡ []
  pub no_end : NoEnd call
  pub out : ShowsPrefix call.out (changes_text program.definitions next.definitions text)
  pub err : Writes call.err (fault_line Write [])

-- a text of where a run of one program could take another was printed, for the texts of both
pub record AdmitsShown (program : Program) (text : List ℕ) (next : Program) (newer : List ℕ) (call : Call) : Type 0 where
  pub status : call.status ≡ 0
  pub history : call.history ≡ []
  pub no_end : NoEnd call
  pub printed : List ℕ
  pub is_text : IsAdmitsText program text next newer printed
  pub out : Shows call.out printed
  pub err : Untouched call.err

-- it couldn't be printed whole
pub record AdmitsFailed (program : Program) (text : List ℕ) (next : Program) (newer : List ℕ) (call : Call) : Type 0 where
  pub status : call.status ≡ 13
  pub history : call.history ≡ []
  pub no_end : NoEnd call
  pub printed : List ℕ
  pub is_text : IsAdmitsText program text next newer printed
  pub out : ShowsPrefix call.out printed
  pub err : Writes call.err (fault_line Write [])

-- what a job came to whose files have no fault; the engine that makes a run changes nothing of it
abbrev pub Does : Job → Contents → Call → Type 0
Does (Run job) content call =
    (program : Program) × HoldsProgram (content job.file) program
    × (texts : List (List ℕ)) × (programs : List Program) × AreSources content job.offers texts programs
    × Came (BySchedule job.moves) (setup_of program programs (lines_of job.offers) job.objects) texts job.journal [] call
Does (Replay job) content call =
    (program : Program) × HoldsProgram (content job.file) program
    × (lines : List (ℕ × Event)) × HoldsEvents (content job.journal) lines
    × (texts : List (List ℕ)) × (programs : List Program) × AreSources content job.offers texts programs
    × Came (ByJournal lines) (setup_of program programs (lines_of job.offers) job.objects) texts false job.journal call
Does (Check file) content call =
    (program : Program) × HoldsProgram (content file) program
    × (Checked (names_of program.definitions) call ⊎ CheckFailed (names_of program.definitions) call)
Does (Effects file) content call =
    (text : List ℕ) × (program : Program) × IsSource (content file) text program
    × (EffectsShown program text call ⊎ EffectsFailed program text call)
Does (Changes old new) content call =
    (program : Program) × HoldsProgram (content old) program
    × (text : List ℕ) × (next : Program) × IsSource (content new) text next
    × (ChangesShown program next text call ⊎ ChangesFailed program next text call)
Does (Admits old new) content call =
    (text : List ℕ) × (program : Program) × IsSource (content old) text program
    × (newer : List ℕ) × (next : Program) × IsSource (content new) newer next
    × (AdmitsShown program text next newer call ⊎ AdmitsFailed program text next newer call)
Does (Gen seed size engine) content call =
    (program : Program) × IsKnownProgram (Some (program_text seed size)) program
    × (next : Program) × IsKnownProgram (Some (offer_text seed size)) next
    × (Summed seed size (generated_setup size program next) call ⊎ SummaryFailed seed size (generated_setup size program next) call)

-- what a job came to: it was done as far as outputs, journal and memory let it, a file of it has a fault, or memory ran
-- out before anything was printed; a read of a file failed in between only where the fault says so
pub data Answers (job : Job) (content : Contents) (before now : FailedReads) (call : Call) : Type 0 where
  did : NoneFailed before now → Does job content call → Answers job content before now call
  stopped : (line : FaultLine) (file : List ℕ) → FileStops job content before now line file → Stopped line file call
      → Answers job content before now call
  short : NoneFailed before now → Stopped Memory [] call → Answers job content before now call

-- the job was done to its end
abbrev pub IsDone : ℕ → Type 0
IsDone status = status ≤ 3

-- a file, an output or memory failed
abbrev pub IsExcused : ℕ → Type 0
IsExcused status = (status ≡ 12) ⊎ ((status ≡ 13) ⊎ (status ≡ 20))
