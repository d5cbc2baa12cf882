-- A run of a generated program whose summary was printed.
use Rattle.std.proofs.Common.{◌≡◌, ◌⊎◌, inl, inr, ℕ, List, [], ◌∷◌, Option, Some, refl, sym, ◌∙◌, ap, subst}
use Rattle.std.specs.Prelude.{false, length}
use Rattle.dsu_io.specs.Causes.{FailedReads, NoneFailed}
use Rattle.run_types.specs.declared.run.Event.{Event}
use Rattle.run_types.specs.declared.run.Ending.{Ending}
use Rattle.c_tree.specs.declared.def.Program.{Program}
use Rattle.program_gen.specs.Generated.{program_text, offer_text}
use Rattle.source_model.specs.Endings.{ending as ending_of}
use Rattle.source_model.specs.Guards.{Guard, Setup}
use Rattle.source_model.specs.Journals.{answers}
use Rattle.source_model.specs.JournalLaws.{JournalIsARun, SeatsAlwaysFit}
use Rattle.accepted_runs.specs.AcceptedRuns.{TransactionsShareAVersion, TextsAreAccepted}
use Rattle.typed_journals.specs.TypedJournals.{DeadlockedThreadsWait, MainsResultIsAnInt}
use Rattle.dsu_cli.specs.declared.job.EngineKind.{EngineKind}
use Rattle.dsu_cli.specs.declared.job.Job.TheVariants.{Gen}
use Rattle.dsu_report.specs.Statuses.{status_of_ending}
use Rattle.dsu_report.specs.declared.fault.FaultLine.{FaultLine}
use Rattle.dsu_report.specs.declared.fault.FaultLine.TheVariants.{Memory}
use Rattle.c_front.specs.Accepted.{Accepted}
use Rattle.frame_bodies.specs.AcceptedTexts.{TextsOfProgramsAreAccepted}
use Rattle.dsu_runs.specs.Rows.{RulesExist}
use Rattle.dsu_runs.specs.Setups.{setup_of}
use Rattle.dsu_runs.specs.declared.ran.Ran.{Ran}
use Rattle.dsu_runs.specs.declared.ran.StopCause.TheVariants.{Ended}
use Rattle.job_answers.specs.Answers.{Answers, IsDone, IsExcused, did, short}
use Rattle.job_answers.specs.Calls.{Call, Shows, Stopped}
use Rattle.gen_job.specs.Parts.{IsOnlyOffer, Printed}
use Rattle.job_answers.specs.Generated.{SummaryFailed, Summed, Unprinted, generated_plan, generated_setup, generated_summary, lines_in, summary_text}
use Rattle.job_answers.specs.Jobs.{Contents, IsKnownProgram, OutOfMemory}
use Rattle.job_answers.specs.Plans.{Ends}
use Rattle.job_answers.specs.Reports.{run_text}
use Rattle.job_answers.specs.Runs.{HandsBack, Made, report_of}
use Rattle.reported_runs.specs.Schedules.{EndedBy, RanBy}
use Rattle.reported_runs.specs.declared.offers.Offers.{Offers}
use Rattle.reported_runs.proofs.Accepting.{texts_are_accepted}
use Rattle.job_answers.proofs.FailedReads.{none_yet}
use Rattle.reported_runs.proofs.HandedBack.{done_by}
use Rattle.reported_runs.proofs.Reporting.{ends_as, made, stopped}

-- what the command came to, of a run with that setup
abbrev pub Comes : ℕ → ℕ → Setup → Call → Type 0
Comes seed size setup call = Summed seed size setup call ⊎ SummaryFailed seed size setup call ⊎ Stopped Memory [] call

module _ {T : Type 0} (setup : Setup) (is_at : Guard → T → Type 0) (told : T → Option (List ℕ)) (faults : T → ℕ) (engine : T)
    (r : Ran T) (exist : RulesExist) (run : JournalIsARun) (whole : TransactionsShareAVersion) (ints : MainsResultIsAnInt)
    (waits : DeadlockedThreadsWait) (accepted : TextsAreAccepted setup) (by : RanBy generated_plan setup is_at told faults engine r)
    (seed size : ℕ) (texts : List (List ℕ)) (one : texts ≡ offer_text seed size ∷ []) (end : Ending) (is : r.cause ≡ Ended end) where
  -- the run that was made, up to its guard
  abbrev MadeOf : List Event → Type 0
  MadeOf history =
      (m : Made generated_plan setup history) × Ends generated_plan setup history m.guard × (m.guard ≡ by.guard)
      × (m.machine.output ≡ by.guard.world.output)

  s : EndedBy generated_plan setup is_at told by.guard end engine r
  s = stopped generated_plan setup is_at told faults engine r exist run whole ints waits accepted by (Ended end) is

  -- the ending is that of the guard
  end_is : end ≡ ending_of by.guard
  end_is = ends_as generated_plan setup is_at told faults engine r exist run whole ints waits accepted by end s

  made_of : MadeOf r.history.items
  made_of = (made generated_plan setup is_at told faults engine r exist run whole ints waits accepted by, s.ends, refl, refl)

  abbrev summary : List ℕ
  summary = summary_text seed size (lines_in by.guard.world.output) (run_text false [] (answers setup by.guard) texts end by.guard.world)

  -- the summary, where the run is that
  same_summary : (history : List Event) (output : List ℕ) (g : Guard) → g ≡ by.guard → output ≡ by.guard.world.output
      → summary ≡ generated_summary seed size setup history output g
  same_summary history output g at printed =
      ap (λ lines. summary_text seed size (lines_in lines) (run_text false [] (answers setup by.guard) texts end by.guard.world)) (sym printed)
      ∙ ap (λ ts. summary_text seed size (lines_in output) (run_text false [] (answers setup by.guard) ts end by.guard.world)) one
      ∙ ap (λ e. summary_text seed size (lines_in output) (run_text false [] (answers setup by.guard) (offer_text seed size ∷ []) e by.guard.world))
      end_is
      ∙ ap (λ (x : Guard). summary_text seed size (lines_in output) (report_of false history setup (offer_text seed size ∷ []) x)) (sym at)

  summed_by : (call : Call) → Printed setup (λ x. is_at x r.engine) r.history.items end summary call → MadeOf call.history
      → Summed seed size setup call
  summed_by call printed (m, ends, at, shown) = record {
    made = m;
    ends = ends;
    ending = printed.ending ∙ ap Some (end_is ∙ ap ending_of (sym at));
    status = printed.status ∙ ap status_of_ending (end_is ∙ ap ending_of (sym at));
    versions = subst {A = Guard} (λ x. HandsBack setup x call.answers call.installed) (sym at) (printed.versions by.guard s.there);
    out = subst {A = List ℕ} (λ text. Shows call.out text) (same_summary call.history m.machine.output m.guard at shown) printed.out;
    err = printed.err;
  }

  summed : (call : Call) → Printed setup (λ x. is_at x r.engine) r.history.items end summary call → Summed seed size setup call
  summed call printed = summed_by call printed (subst {A = List Event} MadeOf (sym printed.history_is) made_of)

  failed : (call : Call) → Unprinted summary call → SummaryFailed seed size setup call
  unfolding made_of
  failed call unprinted = record {
    events = r.history.items;
    made = made_of.0;
    ends = made_of.1;
    failed = subst {A = List ℕ} (λ text. Unprinted text call) (same_summary r.history.items by.guard.world.output by.guard refl refl) unprinted;
  }

  by_print : (call : Call) → Printed setup (λ x. is_at x r.engine) r.history.items end summary call ⊎ Unprinted summary call ⊎ Stopped Memory [] call
      → Comes seed size setup call
  by_print call (inl printed) = inl (summed call printed)
  by_print call (inr (inl unprinted)) = inr (inl (failed call unprinted))
  by_print call (inr (inr stop)) = inr (inr stop)

  -- a run that ended comes to that
  pub summarized : SeatsAlwaysFit → (call : Call)
      → ((g : Guard) → is_at g r.engine → length g.seats ≡ length g.world.slots
      → let text = summary_text seed size (lines_in g.world.output) (run_text false [] (answers setup g) texts end g.world) in
      Printed setup (λ x. is_at x r.engine) r.history.items end text call ⊎ Unprinted text call ⊎ Stopped Memory [] call)
      → Comes seed size setup call
  summarized fit call print =
      by_print call (print by.guard s.there (fit exist.0 setup r.history.items by.guard (by.legal exist.0 exist.1)).count)

-- ---- the answer of the command

-- a fault of a generated text isn't one of a file
pub no_file_failed : {Fault : Type 0} (faults : FailedReads) (line : FaultLine) → (line ≡ Memory) ⊎ Fault
    → OutOfMemory faults faults line ⊎ (NoneFailed faults faults × Fault)
no_file_failed faults line (inl is) = inl (none_yet faults, is)
no_file_failed faults line (inr wrong) = inr (none_yet faults, wrong)

module _ (seed size : ℕ) (program next : Program) (call : Call) where
  pub gen_answers : (engine : EngineKind) (content : Contents) (faults : FailedReads) → IsKnownProgram (Some (program_text seed size)) program
      → IsKnownProgram (Some (offer_text seed size)) next → Comes seed size (generated_setup size program next) call
      → Answers (Gen seed size engine) content faults faults call
  gen_answers engine content faults first second (inl s) = did (none_yet faults) (program, first, next, second, inl s)
  gen_answers engine content faults first second (inr (inl s)) = did (none_yet faults) (program, first, next, second, inr s)
  gen_answers engine content faults first second (inr (inr s)) = short (none_yet faults) s

  pub gen_done : Comes seed size (generated_setup size program next) call → IsDone call.status ⊎ IsExcused call.status
  gen_done (inl s) = inl (done_by call.status _ s.status)
  gen_done (inr (inl s)) = inr (inr (inl s.failed.status))
  gen_done (inr (inr s)) = inr (inr (inr s.status))

-- what was printed, where the text is known by another word
pub by_text : (setup : Setup) (at : Guard → Type 0) (history : List Event) (end : Ending) (text other : List ℕ) (call : Call) → text ≡ other
    → Printed setup at history end text call ⊎ Unprinted text call
    → Printed setup at history end other call ⊎ Unprinted other call ⊎ Stopped Memory [] call
by_text setup at history end text other call same (inl printed) = inl (subst {A = List ℕ} (λ t. Printed setup at history end t call) same printed)
by_text setup at history end text other call same (inr unprinted) = inr (inl (subst {A = List ℕ} (λ t. Unprinted t call) same unprinted))

-- the texts of a run with one offer that is known are accepted
pub only_offer_is_accepted : TextsOfProgramsAreAccepted → (program next : Program) → ((text : List ℕ) × Accepted text program)
    → (text : List ℕ) (lines objects : ℕ) → IsKnownProgram (Some text) next
    → TextsAreAccepted (setup_of program (next ∷ []) (lines ∷ []) objects)
only_offer_is_accepted law program next first text lines objects known =
    texts_are_accepted law (λ file. Some known.text) program first (record { file = []; lines = lines } ∷ []) (known.text ∷ []) (next ∷ [])
    (lines ∷ []) objects (record { read = refl; fits = known.fits; accepted = known.accepted }, tt)

-- so they are where that offer was read
pub read_offer_is_accepted : TextsOfProgramsAreAccepted → (program : Program) → ((text : List ℕ) × Accepted text program)
    → (text : List ℕ) (lines objects : ℕ) (offers : Offers) → IsOnlyOffer text lines offers
    → TextsAreAccepted (setup_of program offers.programs.items offers.lines.items objects)
read_offer_is_accepted law program first text lines objects offers o =
    subst {A = List Program} (λ ps. TextsAreAccepted (setup_of program ps offers.lines.items objects)) (sym o.programs)
    (subst {A = List ℕ} (λ ns. TextsAreAccepted (setup_of program (o.next ∷ []) ns objects)) (sym o.counts)
    (only_offer_is_accepted law program o.next first text lines objects o.known))

-- and the command came to the same with the offer that is known
pub comes_with_offer : (seed size : ℕ) (program next : Program) (text : List ℕ) (lines objects : ℕ) (offers : Offers) (call : Call)
    → IsOnlyOffer text lines offers → offers.programs.items ≡ next ∷ []
    → Comes seed size (setup_of program offers.programs.items offers.lines.items objects) call
    → Comes seed size (setup_of program (next ∷ []) (lines ∷ []) objects) call
comes_with_offer seed size program next text lines objects offers call o is came =
    subst {A = List ℕ} (λ ns. Comes seed size (setup_of program (next ∷ []) ns objects) call) o.counts
    (subst {A = List Program} (λ ps. Comes seed size (setup_of program ps offers.lines.items objects) call) is came)
