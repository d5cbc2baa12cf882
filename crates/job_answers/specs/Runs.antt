-- What a call made of a run: its events, what the source machine comes to by them, and how the call ended.
use Rattle.std.specs.Prelude.{◌≡◌, ℕ, Bool, List, [], length, map, Option, Some}
use Rattle.run_types.specs.declared.run.Event.{Event}
use Rattle.source_model.specs.declared.answer.OfferAnswer.{OfferAnswer}
use Rattle.source_model.specs.Answers.{answer_seen}
use Rattle.source_model.specs.Runs.{Result, source_run}
use Rattle.source_model.specs.Guards.{Guard, Rules, Setup}
use Rattle.source_model.specs.Journals.{answers, guard_after, moves}
use Rattle.source_model.specs.JournalLaws.{texts_of}
use Rattle.source_model.specs.Endings.{ending as ending_of}
use Rattle.source_model.specs.Patches.{all_names}
use Rattle.patch_build.specs.Versions.{IsTableOf}
use Rattle.admission_laws.specs.AdmissionLaws.{IsVersionConsistent}
use Rattle.dsu_report.specs.declared.fault.FaultLine.TheVariants.{Line, Write, Memory}
use Rattle.dsu_report.specs.declared.fault.LineWord.TheVariants.{CannotHappen}
use Rattle.dsu_report.specs.Faults.{fault_line}
use Rattle.dsu_report.specs.Statuses.{status_of_ending}
use Rattle.effects.specs.Rows.{AreRows}
use Rattle.dsu_runs.specs.Ran.{FailedAt}
use Rattle.job_answers.specs.declared.outcome.InForce.{InForce}
use Rattle.job_answers.specs.Calls.{Call, NoEnd, Shows, ShowsPrefix, Writes}
use Rattle.job_answers.specs.Plans.{Plan, Follows, Ends, Impossible}
use Rattle.job_answers.specs.Reports.{DeadlockNamesEach, run_text}

-- the events of a run so far are a legal journal and those of the plan; the source machine, moved by them, comes to this
-- result: its world is the guard's, no definition was misused, and those that each transaction recorded share a version. In a
-- deadlock each thread that lives waits, and the report says for what
pub record Made (plan : Plan) (setup : Setup) (history : List Event) : Type 0 where
  pub guard : Guard
  pub machine : Result
  pub legal : (rules : Rules) → AreRows rules.row → guard_after rules setup history ≡ Some guard
  pub same : machine.world ≡ guard.world
  pub moved : source_run (texts_of setup) setup.limits (moves guard.answers history) ≡ Some machine
  pub consistent : IsVersionConsistent machine
  pub each_waits : DeadlockNamesEach guard
  pub follows : Follows plan setup history guard

-- what is handed back of the versions of a run: the number of the one in force, the names of all versions so far, each once,
-- and an answer to each offer, whose ids stand for these names
pub record HandsBack (setup : Setup) (g : Guard) (given : List OfferAnswer) (installed : Option InForce) : Type 0 where
  pub names : List (List ℕ)
  pub named : IsTableOf (all_names g.versions) names
  pub in_force : installed ≡ Some (record { version = length g.versions; names = names })
  pub answered : map (answer_seen names) given ≡ answers setup g

-- the report of a run as it is at a guard; `texts` are those of the offers
abbrev pub report_of : Bool → List Event → Setup → List (List ℕ) → Guard → List ℕ
report_of journal history setup texts g =
    run_text journal history (answers setup g) texts (ending_of g) g.world

-- the run ended and was reported: the output has what the source machine printed, the ending is its run's, and so are the
-- answers and the version in force
pub record Ran (plan : Plan) (setup : Setup) (texts : List (List ℕ)) (journal : Bool) (call : Call) : Type 0 where
  pub made : Made plan setup call.history
  pub ends : Ends plan setup call.history made.guard
  pub ending : call.ending ≡ Some (ending_of made.guard)
  pub status : call.status ≡ status_of_ending (ending_of made.guard)
  pub versions : HandsBack setup made.guard call.answers call.installed
  pub out : Shows call.out made.machine.output
  pub err : Shows call.err (report_of journal call.history setup texts made.guard)

-- standard output failed at a move that printed something: it has what was printed before the move, and not all of what the
-- move printed
pub record PrintFailed (plan : Plan) (setup : Setup) (call : Call) : Type 0 where
  pub made : Made plan setup call.history
  pub failed : FailedAt setup call.history made.guard call.out.before call.out.now call.out.counted call.out.count
  pub no_end : NoEnd call
  pub status : call.status ≡ 13
  pub err : Writes call.err (fault_line Write [])

-- the run ended, and standard error failed at its report
pub record ReportFailed (plan : Plan) (setup : Setup) (texts : List (List ℕ)) (journal : Bool) (call : Call) : Type 0 where
  pub made : Made plan setup call.history
  pub ends : Ends plan setup call.history made.guard
  pub no_end : NoEnd call
  pub status : call.status ≡ 13
  pub out : Shows call.out made.machine.output
  pub err : ShowsPrefix call.err (report_of journal call.history setup texts made.guard)

-- the event of a line of the journal, which is in that file, can't happen
pub record Refused (plan : Plan) (setup : Setup) (file : List ℕ) (call : Call) : Type 0 where
  pub made : Made plan setup call.history
  pub line : ℕ
  pub impossible : Impossible plan setup call.history made.guard line
  pub no_end : NoEnd call
  pub status : call.status ≡ 14
  pub out : Shows call.out made.machine.output
  pub err : Writes call.err (fault_line (Line line CannotHappen) file)

-- memory ran out; the events are those that were made so far
pub record Short (plan : Plan) (setup : Setup) (call : Call) : Type 0 where
  pub made : Made plan setup call.history
  pub no_end : NoEnd call
  pub status : call.status ≡ 20
  pub out : Shows call.out made.machine.output
  pub err : Writes call.err (fault_line Memory [])

-- what a run came to that began; `texts` are those of the offers
pub data Came (plan : Plan) (setup : Setup) (texts : List (List ℕ)) (journal : Bool) (file : List ℕ) (call : Call) : Type 0 where
  ran : Ran plan setup texts journal call → Came plan setup texts journal file call
  print_failed : PrintFailed plan setup call → Came plan setup texts journal file call
  report_failed : ReportFailed plan setup texts journal call → Came plan setup texts journal file call
  refused : Refused plan setup file call → Came plan setup texts journal file call
  short : Short plan setup call → Came plan setup texts journal file call
