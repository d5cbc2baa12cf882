-- A run of an engine that was reported is one to which a call came.
use Rattle.std.proofs.Common.{◌≡◌, inl, inr, ℕ, Bool, List, [], Option, Some, None, refl, sym, ◌∙◌, ap, subst}
use Rattle.std.specs.Prelude.{length, option_map}
use Rattle.std.proofs.lemmas.Bool.{false≢true}
use Rattle.run_types.specs.declared.run.Ending.{Ending}
use Rattle.source_model.specs.declared.answer.OfferAnswer.{OfferAnswer}
use Rattle.source_model.specs.Guards.{Guard, Setup}
use Rattle.source_model.specs.Endings.{ending as ending_of}
use Rattle.source_model.specs.Journals.{answers}
use Rattle.source_model.specs.JournalLaws.{JournalIsARun, SeatsAlwaysFit}
use Rattle.source_model.specs.Runs.{result}
use Rattle.accepted_runs.specs.AcceptedRuns.{TransactionsShareAVersion, TextsAreAccepted}
use Rattle.typed_journals.specs.TypedJournals.{DeadlockedThreadsWait, MainsResultIsAnInt}
use Rattle.dsu_report.specs.declared.fault.FaultLine.TheVariants as fault
use Rattle.dsu_report.specs.declared.fault.LineWord.TheVariants as word
use Rattle.dsu_report.specs.Faults.{fault_line}
use Rattle.dsu_report.specs.Statuses.{status_of_ending}
use Rattle.dsu_runs.specs.Rows.{RulesExist}
use Rattle.dsu_runs.specs.declared.ran.Ran.{Ran}
use Rattle.dsu_runs.specs.declared.ran.StopCause.{StopCause}
use Rattle.dsu_runs.specs.declared.ran.StopCause.TheVariants.{Ended, SinkFailed, CannotHappen, Memory, Misused, UndefinedName}
use Rattle.reported_runs.specs.declared.finish.Finish.{Finish}
use Rattle.job_answers.specs.declared.outcome.InForce.{InForce}
use Rattle.job_answers.specs.Calls.{Call, NoEnd, Output, Shows, ShowsPrefix, Writes, output_of}
use Rattle.reported_runs.specs.Schedules.{EndedBy, Hands, IsReported, RanBy, StoppedBy, run_call}
use Rattle.job_answers.specs.Plans.{Plan}
use Rattle.job_answers.specs.Reports.{run_text}
use Rattle.job_answers.specs.Runs.{Came, HandsBack, Made, ran, print_failed, report_failed, refused, short}
use Rattle.reported_runs.proofs.DefinedUses.{accepted_offers_have_none}
use Rattle.reported_runs.proofs.NamedWaits.{each_named}

-- the report of a fault
pub record Faulted (line : List ℕ) (status : ℕ) (finish : Finish) (err : Output) : Type 0 where
  pub status_is : finish.status ≡ status
  pub ending : finish.ending ≡ None
  pub shown : Writes err line

module _ {T : Type 0} (plan : Plan) (setup : Setup) (is_at : Guard → T → Type 0) (told : T → Option (List ℕ)) (faults : T → ℕ)
    (engine : T) (r : Ran T) (exist : RulesExist) (run : JournalIsARun) (whole : TransactionsShareAVersion) (ints : MainsResultIsAnInt)
    (waits : DeadlockedThreadsWait) (accepted : TextsAreAccepted setup) (by : RanBy plan setup is_at told faults engine r) where
  abbrev pub made : Made plan setup r.history.items
  made = record {
    guard = by.guard;
    machine = result by.guard.world;
    legal = by.legal;
    same = refl;
    moved = ap (option_map result) (run exist.0 setup r.history.items by.guard (by.legal exist.0 exist.1));
    consistent = whole exist.0 setup r.history.items by.guard exist.1 accepted (by.legal exist.0 exist.1);
    each_waits =
        each_named by.guard (whole exist.0 setup r.history.items by.guard exist.1 accepted (by.legal exist.0 exist.1)).unmisused
        (λ t th. waits exist.0 setup r.history.items by.guard t th exist.1 accepted (by.legal exist.0 exist.1));
    follows = by.follows;
  }

  pub stopped : (cause : StopCause) → r.cause ≡ cause → StoppedBy plan setup is_at told faults engine r by.guard cause
  stopped cause is = subst (StoppedBy plan setup is_at told faults engine r by.guard) is by.stopped

  -- no definition is misused, so no run stops for that
  pub never_misused : (line : ℕ) → r.cause ≡ Misused line → ⊥
  never_misused line is =
      false≢true (sym (whole exist.0 setup r.history.items by.guard exist.1 accepted (by.legal exist.0 exist.1)).unmisused ∙ stopped (Misused line) is)

  -- nor does an offer's text use a name that it doesn't define
  pub never_undefined : (line : ℕ) → r.cause ≡ UndefinedName line → ⊥
  never_undefined line is = let u = stopped (UndefinedName line) is in accepted_offers_have_none setup u.0 accepted u.1

  -- the ending is that of the guard, with main's number as it is
  pub ends_as : (end : Ending) → EndedBy plan setup is_at told by.guard end engine r → end ≡ ending_of by.guard
  ends_as end s = s.ending ∙ ints exist.0 setup r.history.items by.guard accepted (by.legal exist.0 exist.1)

  -- nothing is handed back without an ending
  nothing : (at : Guard → Type 0) (ending : Option Ending) (given : List OfferAnswer) (installed : Option InForce) → ending ≡ None
      → Hands setup at ending given installed → (given ≡ []) × (installed ≡ None)
  nothing at ending given installed is hands = subst (λ e. Hands setup at e given installed) is hands

  something : (at : Guard → Type 0) (ending : Option Ending) (given : List OfferAnswer) (installed : Option InForce) (end : Ending)
      → ending ≡ Some end → Hands setup at ending given installed → (g : Guard) → at g → HandsBack setup g given installed
  something at ending given installed end is hands = subst (λ e. Hands setup at e given installed) is hands

  module _ (texts : List (List ℕ)) (journal : Bool) (file : List ℕ) (finish : Finish) (err : Output) (given : List OfferAnswer)
      (installed : Option InForce) (hands : Hands setup (λ g. is_at g r.engine) finish.ending given installed) where
    abbrev call : Call
    call = run_call finish r given installed (output_of told faults engine r.engine) err

    no_end : finish.ending ≡ None → NoEnd call
    no_end is =
        let none = nothing (λ g. is_at g r.engine) finish.ending given installed is hands in
        record { ending = is; answers = none.0; installed = none.1 }

    reported : (end : Ending) → EndedBy plan setup is_at told by.guard end engine r
        → IsReported (run_text journal r.history.items (answers setup by.guard) texts end by.guard.world) end finish err
        → Came plan setup texts journal file call
    reported end s (inl report) =
        ran (record {
          made = made;
          ends = s.ends;
          ending = report.ending ∙ ap Some (ends_as end s);
          status = report.status ∙ ap status_of_ending (ends_as end s);
          versions = something (λ g. is_at g r.engine) finish.ending given installed end report.ending hands by.guard s.there;
          out = s.printed;
          err = subst (λ e. Shows err (run_text journal r.history.items (answers setup by.guard) texts e by.guard.world)) (ends_as end s)
              report.shown;
        })
    reported end s (inr report) =
        report_failed (record {
          made = made;
          ends = s.ends;
          no_end = no_end report.ending;
          status = report.status;
          out = s.printed;
          err = subst (λ e. ShowsPrefix err (run_text journal r.history.items (answers setup by.guard) texts e by.guard.world)) (ends_as end s)
              report.shown;
        })

    pub ended : SeatsAlwaysFit → (end : Ending) → r.cause ≡ Ended end
        → ((g : Guard) → is_at g r.engine → length g.seats ≡ length g.world.slots
        → IsReported (run_text journal r.history.items (answers setup g) texts end g.world) end finish err)
        → Came plan setup texts journal file call
    ended fit end is report =
        let s = stopped (Ended end) is in
        reported end s (report by.guard s.there (fit exist.0 setup r.history.items by.guard (by.legal exist.0 exist.1)).count)

    pub sink_failed : r.cause ≡ SinkFailed → Faulted (fault_line fault.Write []) 13 finish err → Came plan setup texts journal file call
    sink_failed is report =
        print_failed (record {
          made = made;
          failed = stopped SinkFailed is;
          no_end = no_end report.ending;
          status = report.status_is;
          err = report.shown;
        })

    pub cannot_happen : (line : ℕ) → r.cause ≡ CannotHappen line
        → Faulted (fault_line (fault.Line line word.CannotHappen) file) 14 finish err → Came plan setup texts journal file call
    cannot_happen line is report =
        let s = stopped (CannotHappen line) is in
        refused (record {
          made = made;
          line = line;
          impossible = s.impossible;
          no_end = no_end report.ending;
          status = report.status_is;
          out = s.printed;
          err = report.shown;
        })

    pub out_of_memory : r.cause ≡ Memory → Faulted (fault_line fault.Memory []) 20 finish err → Came plan setup texts journal file call
    out_of_memory is report =
        short (record {
          made = made;
          no_end = no_end report.ending;
          status = report.status_is;
          out = stopped Memory is;
          err = report.shown;
        })
