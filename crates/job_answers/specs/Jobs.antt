-- The jobs that are built, and what their files have.
use Rattle.std.specs.Prelude.{◌≡◌, ◌⊎◌, ◌≤◌, ◌<◌, ℕ, ⊤, Bool, true, List, [], ◌∷◌, length, map, codes, Option, Some, Ok, Err}
use Rattle.std.specs.Option.{is_none}
use Rattle.dsu_io.specs.Causes.{FailedReads, NoneFailed, ReadFailed}
use Rattle.run_types.specs.declared.run.Event.{Event}
use Rattle.c_tree.specs.declared.def.Program.{Program}
use Rattle.c_front.specs.Accepted.{Accepted}
use Rattle.source_model.specs.Guards.{Rules}
use Rattle.source_model.specs.Journals.{IsLegal}
use Rattle.dsu_journal.specs.Journals.{journal_in}
use Rattle.dsu_journal.specs.declared.fault.JournalFault.{JournalFault}
use Rattle.dsu_cli.specs.declared.job.Job.{Job}
use Rattle.dsu_cli.specs.declared.job.Job.TheVariants.{Run, Replay, Check, Effects, Changes, Admits, Gen}
use Rattle.dsu_cli.specs.declared.job.Offer.{Offer}
use Rattle.dsu_report.specs.declared.fault.FaultLine.{FaultLine}
use Rattle.dsu_report.specs.declared.fault.FaultLine.TheVariants.{Unread, TooLong, Memory}
use Rattle.effects.specs.Rows.{AreRows}
use Rattle.dsu_runs.specs.Replays.{events_of}
use Rattle.dsu_runs.specs.Setups.{setup_of}
use Rattle.program_gen.specs.Generated.{program_text, offer_text}
use Rattle.input_files.specs.Files.{Exceeds}
use Rattle.input_files.specs.Sources.{HoldsProgram, IsFirstLine, IsFirstOf, IsSource, text_limit}
use Rattle.input_files.specs.Journals.{HoldsEvents, IsNoJournal, journal_limit, line_of_journal}

-- the contents of files by name, as far as they are known
abbrev pub Contents : Type 0
Contents = List ℕ → Option (List ℕ)

-- the job is built: `--workers` isn't
abbrev pub is_built : Job → Bool
is_built (Run job) = is_none job.workers
is_built (Replay job) = true
is_built (Check file) = true
is_built (Effects file) = true
is_built (Changes old new) = true
is_built (Admits old new) = true
is_built (Gen seed size engine) = true

-- ---- offers

-- how many lines must have been printed before each offer
abbrev pub lines_of : List Offer → List ℕ
lines_of offers = map (λ o. o.lines) offers

-- the files of offers, as far as their contents are known, have these texts, which are accepted as these programs
abbrev pub AreSources : Contents → List Offer → List (List ℕ) → List Program → Type 0
AreSources content [] [] [] = ⊤
AreSources content (o ∷ offers) (text ∷ texts) (program ∷ programs) =
    IsSource (content o.file) text program × AreSources content offers texts programs
AreSources content _ _ _ = ⊥

-- ---- texts that are known

-- a known text that is accepted as a program
pub record IsKnownProgram (content : Option (List ℕ)) (program : Program) : Type 0 where
  pub text : List ℕ
  pub known : content ≡ Some text
  pub fits : length text ≤ text_limit
  pub accepted : Accepted text program

-- a known text is too long for a program, or it has this first fault
pub data KnownProgramFault (content : Option (List ℕ)) : FaultLine → Type 0 where
  long : (text : List ℕ) → content ≡ Some text → text_limit < length text → KnownProgramFault content TooLong
  first : (text : List ℕ) (line : FaultLine) → content ≡ Some text → length text ≤ text_limit → IsFirstLine text line
      → KnownProgramFault content line

-- the first fault of the texts of a generated program and its offer, and the name by which it is reported
abbrev pub GeneratedFault : List ℕ → List ℕ → FaultLine → List ℕ → Type 0
GeneratedFault text offer line file =
    ((file ≡ codes "generated program") × KnownProgramFault (Some text) line)
    ⊎ ((program : Program) × IsKnownProgram (Some text) program
    × (file ≡ codes "generated offer") × KnownProgramFault (Some offer) line)

-- ---- the first fault of the files

-- why the program of a file isn't read: its reading failed, and no other; or none failed, and it is too long, or its text has a
-- first fault
abbrev pub IsProgramFault : List ℕ → Option (List ℕ) → FailedReads → FailedReads → FaultLine → Type 0
IsProgramFault name content before now line =
    ((line ≡ Unread) × ReadFailed name before now)
    ⊎ (NoneFailed before now × (((line ≡ TooLong) × Exceeds text_limit content) ⊎ IsFirstOf content line))

-- why the events of a file aren't read
abbrev pub IsJournalFault : List ℕ → Option (List ℕ) → FailedReads → FailedReads → FaultLine → Type 0
IsJournalFault name content before now line =
    ((line ≡ Unread) × ReadFailed name before now)
    ⊎ (NoneFailed before now × (((line ≡ TooLong) × Exceeds journal_limit content) ⊎ IsNoJournal content line))

-- memory ran out, and no read of a file failed
abbrev pub OutOfMemory : FailedReads → FailedReads → FaultLine → Type 0
OutOfMemory before now line = NoneFailed before now × (line ≡ Memory)

-- the file of the program has the fault
abbrev pub ProgramStops : List ℕ → Contents → FailedReads → FailedReads → FaultLine → List ℕ → Type 0
ProgramStops named content before now line file = (file ≡ named) × IsProgramFault named (content named) before now line

-- the first file of some offers with a fault, and that fault
abbrev pub OfferStops : List Offer → Contents → FailedReads → FailedReads → FaultLine → List ℕ → Type 0
OfferStops [] content before now line file = ⊥
OfferStops (o ∷ offers) content before now line file =
    ProgramStops o.file content before now line file
    ⊎ ((program : Program) × HoldsProgram (content o.file) program × OfferStops offers content before now line file)

-- the journal of a replay has a fault, or an offer after it
abbrev pub JournalStops : List ℕ → List Offer → Contents → FailedReads → FailedReads → FaultLine → List ℕ → Type 0
JournalStops journal offers content before now line file =
    ((file ≡ journal) × IsJournalFault journal (content journal) before now line)
    ⊎ ((lines : List (ℕ × Event)) × HoldsEvents (content journal) lines × OfferStops offers content before now line file)

-- the file of an older text has a fault, or that of a newer one, which is read after it
abbrev pub PairStops : List ℕ → List ℕ → Contents → FailedReads → FailedReads → FaultLine → List ℕ → Type 0
PairStops old new content before now line file =
    ProgramStops old content before now line file
    ⊎ ((program : Program) × HoldsProgram (content old) program × ProgramStops new content before now line file)

-- the first file of a job with a fault, and that fault; a journal is read after its program, offers after both, in the order
-- of the words, and a newer text after the older one; generated texts are read in the place of files
abbrev pub FileStops : Job → Contents → FailedReads → FailedReads → FaultLine → List ℕ → Type 0
FileStops (Run job) content before now line file =
    ProgramStops job.file content before now line file
    ⊎ ((program : Program) × HoldsProgram (content job.file) program × OfferStops job.offers content before now line file)
FileStops (Replay job) content before now line file =
    ProgramStops job.file content before now line file
    ⊎ ((program : Program) × HoldsProgram (content job.file) program
    × JournalStops job.journal job.offers content before now line file)
FileStops (Check named) content before now line file = ProgramStops named content before now line file
FileStops (Effects named) content before now line file = ProgramStops named content before now line file
FileStops (Changes old new) content before now line file = PairStops old new content before now line file
FileStops (Admits old new) content before now line file = PairStops old new content before now line file
FileStops (Gen seed size engine) content before now line file =
    NoneFailed before now × GeneratedFault (program_text seed size) (offer_text seed size) line file

-- ---- files whose contents are known

-- a known text that is a journal
pub record IsKnownJournal (content : Option (List ℕ)) (lines : List (ℕ × Event)) : Type 0 where
  pub text : List ℕ
  pub known : content ≡ Some text
  pub fits : length text ≤ journal_limit
  pub are : journal_in text ≡ Ok lines

-- the known texts of offers are accepted as these programs
abbrev pub AreKnownPrograms : Contents → List Offer → List Program → Type 0
AreKnownPrograms content [] [] = ⊤
AreKnownPrograms content (o ∷ offers) (program ∷ programs) =
    IsKnownProgram (content o.file) program × AreKnownPrograms content offers programs
AreKnownPrograms content _ _ = ⊥

-- the known texts of two files are accepted
abbrev pub IsReadyPair : List ℕ → List ℕ → Contents → Type 0
IsReadyPair old new content =
    ((program : Program) × IsKnownProgram (content old) program) × ((next : Program) × IsKnownProgram (content new) next)

-- the files of a job, or its generated texts, are known and have no fault, and each event of its journal can happen when it
-- comes
abbrev pub IsReady : Job → Contents → Type 0
IsReady (Run job) content =
    ((program : Program) × IsKnownProgram (content job.file) program)
    × ((programs : List Program) × AreKnownPrograms content job.offers programs)
IsReady (Replay job) content =
    (program : Program) × IsKnownProgram (content job.file) program
    × (lines : List (ℕ × Event)) × IsKnownJournal (content job.journal) lines
    × (programs : List Program) × AreKnownPrograms content job.offers programs
    × ((rules : Rules) → AreRows rules.row
    → IsLegal rules (setup_of program programs (lines_of job.offers) job.objects) (events_of lines))
IsReady (Check file) content = (program : Program) × IsKnownProgram (content file) program
IsReady (Effects file) content = (program : Program) × IsKnownProgram (content file) program
IsReady (Changes old new) content = IsReadyPair old new content
IsReady (Admits old new) content = IsReadyPair old new content
IsReady (Gen seed size engine) content =
    ((program : Program) × IsKnownProgram (Some (program_text seed size)) program)
    × ((next : Program) × IsKnownProgram (Some (offer_text seed size)) next)

-- a known text is too long for a journal, or it is none
pub data KnownJournalFault (content : Option (List ℕ)) : FaultLine → Type 0 where
  long : (text : List ℕ) → content ≡ Some text → journal_limit < length text → KnownJournalFault content TooLong
  first : (text : List ℕ) (fault : JournalFault) → content ≡ Some text → length text ≤ journal_limit
      → journal_in text ≡ Err fault → KnownJournalFault content (line_of_journal fault)

-- the first fault of the files of offers, where they are known
abbrev pub KnownOfferFault : List Offer → Contents → FaultLine → List ℕ → Type 0
KnownOfferFault [] content line file = ⊥
KnownOfferFault (o ∷ offers) content line file =
    ((file ≡ o.file) × KnownProgramFault (content o.file) line)
    ⊎ ((program : Program) × IsKnownProgram (content o.file) program × KnownOfferFault offers content line file)

-- the first fault of a known journal and of the known offers after it
abbrev pub KnownReplayFault : List ℕ → List Offer → Contents → FaultLine → List ℕ → Type 0
KnownReplayFault journal offers content line file =
    ((file ≡ journal) × KnownJournalFault (content journal) line)
    ⊎ ((lines : List (ℕ × Event)) × IsKnownJournal (content journal) lines × KnownOfferFault offers content line file)

-- the first fault of two known files, the older text before the newer one
abbrev pub KnownPairFault : List ℕ → List ℕ → Contents → FaultLine → List ℕ → Type 0
KnownPairFault old new content line file =
    ((file ≡ old) × KnownProgramFault (content old) line)
    ⊎ ((program : Program) × IsKnownProgram (content old) program × (file ≡ new) × KnownProgramFault (content new) line)

-- the first fault of a job's files, where they are known
abbrev pub IsKnownFault : Job → Contents → FaultLine → List ℕ → Type 0
IsKnownFault (Run job) content line file =
    ((file ≡ job.file) × KnownProgramFault (content job.file) line)
    ⊎ ((program : Program) × IsKnownProgram (content job.file) program × KnownOfferFault job.offers content line file)
IsKnownFault (Replay job) content line file =
    ((file ≡ job.file) × KnownProgramFault (content job.file) line)
    ⊎ ((program : Program) × IsKnownProgram (content job.file) program
    × KnownReplayFault job.journal job.offers content line file)
IsKnownFault (Check named) content line file = (file ≡ named) × KnownProgramFault (content named) line
IsKnownFault (Effects named) content line file = (file ≡ named) × KnownProgramFault (content named) line
IsKnownFault (Changes old new) content line file = KnownPairFault old new content line file
IsKnownFault (Admits old new) content line file = KnownPairFault old new content line file
IsKnownFault (Gen seed size engine) content line file =
    GeneratedFault (program_text seed size) (offer_text seed size) line file
