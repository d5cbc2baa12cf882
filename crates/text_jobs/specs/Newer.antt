-- What the private functions say that go on with a newer text once the older one was read.
use Rattle.std.specs.Prelude.{◌⊎◌, ℕ, List, []}
use Rattle.dsu_io.specs.Causes.{FailedReads, NoneFailed}
use Rattle.c_tree.specs.declared.def.Program.{Program}
use Rattle.dsu_report.specs.declared.fault.FaultLine.{FaultLine}
use Rattle.dsu_report.specs.declared.fault.FaultLine.TheVariants.{Memory}
use Rattle.input_files.specs.Sources.{IsSource}
use Rattle.job_answers.specs.Answers.{AdmitsFailed, AdmitsShown, ChangesFailed, ChangesShown}
use Rattle.job_answers.specs.Calls.{Call, Stopped}
use Rattle.job_answers.specs.Jobs.{Contents, IsProgramFault}

-- what came of the file of the newer text, and of what was printed of it, whole or not
abbrev pub NewerTo : (Shown Failed : Program → List ℕ → Call → Type 0) → Contents → FailedReads → FailedReads → List ℕ → Call → Type 0
NewerTo Shown Failed content before now new call =
    (NoneFailed before now
    × (((text : List ℕ) × (next : Program) × IsSource (content new) text next × (Shown next text call ⊎ Failed next text call))
    ⊎ Stopped Memory [] call))
    ⊎ ((line : FaultLine) × IsProgramFault new (content new) before now line × Stopped line new call)

-- the text of what changes was printed
abbrev pub ChangesTo : Contents → FailedReads → FailedReads → Program → List ℕ → Call → Type 0
ChangesTo content before now program new call = NewerTo (ChangesShown program) (ChangesFailed program) content before now new call

-- the text of where a run of the older one could take the newer one was printed
abbrev pub AdmitsTo : Contents → FailedReads → FailedReads → Program → List ℕ → List ℕ → Call → Type 0
AdmitsTo content before now program text new call =
    NewerTo (AdmitsShown program text) (AdmitsFailed program text) content before now new call
