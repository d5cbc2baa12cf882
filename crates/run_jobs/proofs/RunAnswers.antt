-- What a call answers that read offers, or a journal and then offers.
use Rattle.std.proofs.Common.{◌≡◌, ◌⊎◌, inl, inr, Bool, false, ℕ, List, [], ◌∷◌, sym, ◌∙◌, subst}
use Rattle.run_types.specs.declared.run.Event.{Event}
use Rattle.c_tree.specs.declared.def.Program.{Program}
use Rattle.dsu_io.specs.Causes.{FailedReads, NoneFailed}
use Rattle.dsu_cli.specs.declared.job.Job.TheVariants.{Replay, Run}
use Rattle.dsu_cli.specs.declared.job.Offer.{Offer}
use Rattle.dsu_cli.specs.declared.job.RunJob.{RunJob}
use Rattle.dsu_cli.specs.declared.job.ReplayJob.{ReplayJob}
use Rattle.dsu_report.specs.declared.fault.FaultLine.{FaultLine}
use Rattle.dsu_report.specs.declared.fault.FaultLine.TheVariants.{Memory}
use Rattle.dsu_runs.specs.Setups.{setup_of}
use Rattle.input_files.specs.Files.{IsShort}
use Rattle.input_files.specs.Journals.{HoldsEvents, IsNoJournal, journal_limit}
use Rattle.input_files.specs.Sources.{HoldsProgram, IsFirstOf, IsSource, text_limit}
use Rattle.job_answers.specs.Answers.{Answers, IsExcused, did, short, stopped}
use Rattle.job_answers.specs.Calls.{Call, Stopped}
use Rattle.job_answers.specs.Jobs.{AreKnownPrograms, AreSources, Contents, IsJournalFault, IsKnownJournal, IsKnownProgram, JournalStops, KnownJournalFault, KnownOfferFault, KnownProgramFault, KnownReplayFault, OfferStops, OutOfMemory, lines_of}
use Rattle.job_answers.specs.Plans.{Plan, ByJournal, BySchedule}
use Rattle.run_jobs.specs.Remaining.{ReplaysWith, RunsWith}
use Rattle.job_answers.specs.Runs.{Came}
use Rattle.job_answers.proofs.FailedReads.{none_then}
use Rattle.job_answers.proofs.Reading.{IsAnswered}
use Rattle.job_answers.proofs.Stopping.{out_of_memory, answered, excused, first_stopped, fault_since}

-- ---- offers

-- the same of offers
offers_since : (offers : List Offer) (content mid : Contents) (before at now : FailedReads) (line : FaultLine) (file : List ℕ)
    → ((other : List ℕ) → mid other ≡ content other) → NoneFailed before at → OfferStops offers mid at now line file
    → OfferStops offers content before now line file
offers_since [] content mid before at now line file same none stops = absurd stops
offers_since (o ∷ offers) content mid before at now line file same none (inl (is, fault)) =
    inl (is, fault_since text_limit IsFirstOf o.file (content o.file) (mid o.file) before at now line (same o.file) none fault)
offers_since (o ∷ offers) content mid before at now line file same none (inr (program, holds, stops)) =
    inr (
      program,
      subst (λ c. HoldsProgram c program) (same o.file) holds,
      offers_since offers content mid before at now line file same none stops,
    )

-- what is known of some files doesn't change while others are read
sources_since : (offers : List Offer) (content mid : Contents) (texts : List (List ℕ)) (programs : List Program)
    → ((other : List ℕ) → mid other ≡ content other) → AreSources mid offers texts programs → AreSources content offers texts programs
sources_since [] content mid [] [] same all = tt
sources_since [] content mid [] (p ∷ ps) same all = absurd all
sources_since [] content mid (t ∷ ts) ps same all = absurd all
sources_since (o ∷ offers) content mid [] ps same all = absurd all
sources_since (o ∷ offers) content mid (t ∷ ts) [] same all = absurd all
sources_since (o ∷ offers) content mid (t ∷ ts) (p ∷ ps) same (one, all) =
    (subst (λ c. IsSource c t p) (same o.file) one, sources_since offers content mid ts ps same all)

pub known_since : (offers : List Offer) (content mid : Contents) (programs : List Program) → ((other : List ℕ) → mid other ≡ content other)
    → AreKnownPrograms content offers programs → AreKnownPrograms mid offers programs
known_since [] content mid [] same all = tt
known_since [] content mid (p ∷ ps) same all = absurd all
known_since (o ∷ offers) content mid [] same all = absurd all
known_since (o ∷ offers) content mid (p ∷ ps) same (one, all) =
    (subst (λ c. IsKnownProgram c p) (sym (same o.file)) one, known_since offers content mid ps same all)

pub fault_known_since : (offers : List Offer) (content mid : Contents) (line : FaultLine) (file : List ℕ)
    → ((other : List ℕ) → mid other ≡ content other) → KnownOfferFault offers content line file → KnownOfferFault offers mid line file
fault_known_since [] content mid line file same fault = absurd fault
fault_known_since (o ∷ offers) content mid line file same (inl (is, fault)) =
    inl (is, subst (λ c. KnownProgramFault c line) (sym (same o.file)) fault)
fault_known_since (o ∷ offers) content mid line file same (inr (program, known, fault)) =
    inr (
      program,
      subst (λ c. IsKnownProgram c program) (sym (same o.file)) known,
      fault_known_since offers content mid line file same fault,
    )

-- offers aren't read. The name of the file is that of the fault
pub offers_stop : (plan : Plan) (content : Contents) (before now : FailedReads) (program : Program) (offers : List Offer) (objects : ℕ)
    (journal : Bool) (file : List ℕ) (call : Call) (line : FaultLine) (at : List ℕ) → Stopped line at call
    → OutOfMemory before now line ⊎ OfferStops offers content before now line at
    → RunsWith plan content before now program offers objects journal file call
offers_stop plan content before now program offers objects journal file call line at s (inl (none, is)) =
    inl (none, inr (out_of_memory line at call is s))
offers_stop plan content before now program offers objects journal file call line at s (inr stops) = inr (line, at, stops, s)

-- a run with offers that were read
pub offers_run : (plan : Plan) (content : Contents) (before now : FailedReads) (program : Program) (offers : List Offer) (objects : ℕ)
    (journal : Bool) (file : List ℕ) (call : Call) (texts : List (List ℕ)) (programs : List Program) (lines : List ℕ)
    → AreSources content offers texts programs → lines ≡ lines_of offers → NoneFailed before now
    → Came plan (setup_of program programs lines objects) texts journal file call ⊎ Stopped Memory [] call
    → RunsWith plan content before now program offers objects journal file call
offers_run plan content before now program offers objects journal file call texts programs lines sources same none (inl came) =
    inl (
      none,
      inl (
        texts,
        programs,
        sources,
        subst {A = List ℕ} (λ ns. Came plan (setup_of program programs ns objects) texts journal file call) same came,
      ),
    )
offers_run plan content before now program offers objects journal file call texts programs lines sources same none (inr s) = inl (none, inr s)

-- the same, where the offers were read after another file
runs_since : (plan : Plan) (content mid : Contents) (before at now : FailedReads) (program : Program) (offers : List Offer) (objects : ℕ)
    (journal : Bool) (file : List ℕ) (call : Call) → ((other : List ℕ) → mid other ≡ content other) → NoneFailed before at
    → RunsWith plan mid at now program offers objects journal file call
    → RunsWith plan content before now program offers objects journal file call
runs_since plan content mid before at now program offers objects journal file call same none (inl (later, inl (texts, programs, sources, came))) =
    inl (none_then before at now none later, inl (texts, programs, sources_since offers content mid texts programs same sources, came))
runs_since plan content mid before at now program offers objects journal file call same none (inl (later, inr s)) =
    inl (none_then before at now none later, inr s)
runs_since plan content mid before at now program offers objects journal file call same none (inr (line, name, stops, s)) =
    inr (line, name, offers_since offers content mid before at now line name same none stops, s)

pub run_answers : (job : RunJob) (content mid : Contents) (before at now : FailedReads) (call : Call) (program : Program)
    → HoldsProgram (content job.file) program → ((other : List ℕ) → mid other ≡ content other) → NoneFailed before at
    → RunsWith (BySchedule job.moves) mid at now program job.offers job.objects job.journal [] call
    → Answers (Run job) content before now call
run_answers job content mid before at now call program holds same none runs =
    by (runs_since (BySchedule job.moves) content mid before at now program job.offers job.objects job.journal [] call same none runs)
  where
    by : RunsWith (BySchedule job.moves) content before now program job.offers job.objects job.journal [] call
        → Answers (Run job) content before now call
    by (inl (never, inl (texts, programs, sources, came))) = did never (program, holds, texts, programs, sources, came)
    by (inl (never, inr s)) = short never s
    by (inr (line, name, stops, s)) = stopped line name (inr (program, holds, stops)) s

-- a journal was read, and then the offers. The name of its file was taken from the job
pub journal_runs : (job : ReplayJob) (content mid : Contents) (before at now : FailedReads) (call : Call) (program : Program)
    (lines : List (ℕ × Event)) → HoldsEvents (content job.journal) lines → ((other : List ℕ) → mid other ≡ content other)
    → NoneFailed before at → RunsWith (ByJournal lines) mid at now program job.offers job.objects false job.journal call
    → ReplaysWith content before now program job call
journal_runs job content mid before at now call program lines holds same none runs =
    by (runs_since (ByJournal lines) content mid before at now program job.offers job.objects false job.journal call same none runs)
  where
    by : RunsWith (ByJournal lines) content before now program job.offers job.objects false job.journal call
        → ReplaysWith content before now program job call
    by (inl (never, inl (texts, programs, sources, came))) = inl (never, inl (lines, holds, texts, programs, sources, came))
    by (inl (never, inr s)) = inl (never, inr s)
    by (inr (line, name, stops, s)) = inr (line, name, inr (lines, holds, stops), s)

journal_since : (journal : List ℕ) (offers : List Offer) (content mid : Contents) (before at now : FailedReads) (line : FaultLine) (file : List ℕ)
    → ((other : List ℕ) → mid other ≡ content other) → NoneFailed before at → JournalStops journal offers mid at now line file
    → JournalStops journal offers content before now line file
journal_since journal offers content mid before at now line file same none (inl (is, fault)) =
    inl (is, fault_since journal_limit IsNoJournal journal (content journal) (mid journal) before at now line (same journal) none fault)
journal_since journal offers content mid before at now line file same none (inr (lines, holds, stops)) =
    inr (
      lines,
      subst (λ c. HoldsEvents c lines) (same journal) holds,
      offers_since offers content mid before at now line file same none stops,
    )

pub replay_answers : (job : ReplayJob) (content mid : Contents) (before at now : FailedReads) (call : Call) (program : Program)
    → HoldsProgram (content job.file) program → ((other : List ℕ) → mid other ≡ content other) → NoneFailed before at
    → ReplaysWith mid at now program job call → Answers (Replay job) content before now call
replay_answers job content mid before at now call program holds same none (inl (later, inl (lines, events, texts, programs, sources, came))) =
    did (none_then before at now none later) (
      program,
      holds,
      lines,
      subst (λ c. HoldsEvents c lines) (same job.journal) events,
      texts,
      programs,
      sources_since job.offers content mid texts programs same sources,
      came,
    )
replay_answers job content mid before at now call program holds same none (inl (later, inr s)) = short (none_then before at now none later) s
replay_answers job content mid before at now call program holds same none (inr (line, file, stops, s)) =
    stopped line file
    (inr (program, holds, journal_since job.journal job.offers content mid before at now line file same none stops)) s

-- a journal isn't read. The name of its file was taken from the job
pub journal_stops : (job : ReplayJob) (content : Contents) (before now : FailedReads) (call : Call) (program : Program) (line : FaultLine)
    (file : List ℕ) → file ≡ job.journal → Stopped line file call
    → OutOfMemory before now line ⊎ IsJournalFault file (content file) before now line → ReplaysWith content before now program job call
journal_stops job content before now call program line file same s (inl (none, is)) = inl (none, inr (out_of_memory line file call is s))
journal_stops job content before now call program line file same s (inr wrong) =
    inr (
      line,
      file,
      inl (same, subst (λ f. IsJournalFault f (content f) before now line) same wrong),
      s,
    )

-- where the journal is known, the file or memory failed
pub journal_excused : (content : Contents) (line : FaultLine) (file named : List ℕ) → file ≡ named → (call : Call) → Stopped line file call
    → ((lines : List (ℕ × Event)) → IsKnownJournal (content file) lines → IsShort line)
    → (lines : List (ℕ × Event)) → IsKnownJournal (content named) lines → IsExcused call.status
journal_excused content line file named same call s complete lines known =
    excused call line file s (complete lines (subst (λ f. IsKnownJournal (content f) lines) (sym same) known))

-- where its fault or that of an offer is known, that fault is answered, or the file or memory failed
pub journal_first : (content : Contents) (line : FaultLine) (file named : List ℕ) → file ≡ named → (offers : List Offer) (call : Call)
    → Stopped line file call → ((lines : List (ℕ × Event)) → IsKnownJournal (content file) lines → IsShort line)
    → ((known : FaultLine) → KnownJournalFault (content file) known → IsAnswered known line)
    → (known : FaultLine) (at : List ℕ) → KnownReplayFault named offers content known at → IsExcused call.status ⊎ Stopped known at call
journal_first content line file named same offers call s complete first known at (inl (is, fault)) =
    subst (λ f. IsExcused call.status ⊎ Stopped known f call) (same ∙ sym is)
    (first_stopped call line known file s (first known (subst (λ f. KnownJournalFault (content f) known) (sym same) fault)))
journal_first content line file named same offers call s complete first known at (inr (lines, is, later)) =
    inl (journal_excused content line file named same call s complete lines is)

pub replay_known_since : (journal : List ℕ) (offers : List Offer) (content mid : Contents) (line : FaultLine) (file : List ℕ)
    → ((other : List ℕ) → mid other ≡ content other) → KnownReplayFault journal offers content line file
    → KnownReplayFault journal offers mid line file
replay_known_since journal offers content mid line file same (inl (is, fault)) =
    inl (is, subst (λ c. KnownJournalFault c line) (sym (same journal)) fault)
replay_known_since journal offers content mid line file same (inr (lines, known, fault)) =
    inr (
      lines,
      subst (λ c. IsKnownJournal c lines) (sym (same journal)) known,
      fault_known_since offers content mid line file same fault,
    )
