-- What the private functions say that go on with a job once a file of it was read.
use Rattle.std.specs.Prelude.{◌⊎◌, ℕ, Bool, false, List, []}
use Rattle.dsu_io.specs.Causes.{FailedReads, NoneFailed}
use Rattle.run_types.specs.declared.run.Event.{Event}
use Rattle.c_tree.specs.declared.def.Program.{Program}
use Rattle.dsu_cli.specs.declared.job.Offer.{Offer}
use Rattle.dsu_cli.specs.declared.job.ReplayJob.{ReplayJob}
use Rattle.dsu_report.specs.declared.fault.FaultLine.{FaultLine}
use Rattle.dsu_report.specs.declared.fault.FaultLine.TheVariants.{Memory}
use Rattle.dsu_runs.specs.Setups.{setup_of}
use Rattle.input_files.specs.Journals.{HoldsEvents}
use Rattle.job_answers.specs.Calls.{Call, Stopped}
use Rattle.job_answers.specs.Jobs.{AreSources, Contents, JournalStops, OfferStops, lines_of}
use Rattle.job_answers.specs.Plans.{Plan, ByJournal}
use Rattle.job_answers.specs.Runs.{Came}

-- what came of the files of offers, and of a run with them
abbrev pub RunsWith : Plan → Contents → FailedReads → FailedReads → Program → List Offer → ℕ → Bool → List ℕ → Call → Type 0
RunsWith plan content before now program offers objects journal file call =
    (NoneFailed before now
    × (((texts : List (List ℕ)) × (programs : List Program) × AreSources content offers texts programs
    × Came plan (setup_of program programs (lines_of offers) objects) texts journal file call)
    ⊎ Stopped Memory [] call))
    ⊎ ((line : FaultLine) × (at : List ℕ) × OfferStops offers content before now line at × Stopped line at call)

-- what came of the file of a journal, of those of the offers, and of a run by the journal
abbrev pub ReplaysWith : Contents → FailedReads → FailedReads → Program → ReplayJob → Call → Type 0
ReplaysWith content before now program job call =
    (NoneFailed before now
    × (((lines : List (ℕ × Event)) × HoldsEvents (content job.journal) lines
    × (texts : List (List ℕ)) × (programs : List Program) × AreSources content job.offers texts programs
    × Came (ByJournal lines) (setup_of program programs (lines_of job.offers) job.objects) texts false job.journal call)
    ⊎ Stopped Memory [] call))
    ⊎ ((line : FaultLine) × (at : List ℕ) × JournalStops job.journal job.offers content before now line at × Stopped line at call)
