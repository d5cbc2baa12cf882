-- What a schedule hands back, by its plan. The functions that report a run cite this.
use Rattle.std.specs.Prelude.{◌≡◌, ◌⊎◌, ℕ, true, List, [], Option, Some, None}
use Rattle.run_types.specs.declared.run.Ending.{Ending}
use Rattle.source_model.specs.declared.answer.OfferAnswer.{OfferAnswer}
use Rattle.source_model.specs.Guards.{Guard, Rules, Setup}
use Rattle.source_model.specs.Journals.{guard_after}
use Rattle.source_model.specs.Endings.{ending, int_ending}
use Rattle.dsu_report.specs.Statuses.{status_of_ending}
use Rattle.effects.specs.Rows.{AreRows}
use Rattle.dsu_runs.specs.Ran.{FailedAt, Printed}
use Rattle.dsu_runs.specs.UndefinedNames.{UsesUndefined}
use Rattle.dsu_runs.specs.declared.ran.Ran.{Ran}
use Rattle.dsu_runs.specs.declared.ran.StopCause.{StopCause}
use Rattle.dsu_runs.specs.declared.ran.StopCause.TheVariants.{Ended, SinkFailed, CannotHappen, Memory, Misused, UndefinedName}
use Rattle.reported_runs.specs.declared.finish.Finish.{Finish}
use Rattle.job_answers.specs.declared.outcome.InForce.{InForce}
use Rattle.job_answers.specs.Calls.{Call, Output, Shows, ShowsPrefix}
use Rattle.job_answers.specs.Plans.{Plan, Ends, Follows, Impossible}
use Rattle.job_answers.specs.Runs.{HandsBack}

-- the run ended so, as the engine is; of texts that are accepted main's number is an int's, so the conversion changes nothing
pub record EndedBy {T : Type 0} (plan : Plan) (setup : Setup) (is_at : Guard → T → Type 0) (told : T → Option (List ℕ))
    (g : Guard) (end : Ending) (engine : T) (ran : Ran T) : Type 0 where
  pub ends : Ends plan setup ran.history.items g
  pub ending : end ≡ int_ending (ending g)
  pub there : is_at g ran.engine
  pub printed : Printed (told engine) (told ran.engine) g

-- the next event of the plan can't happen
pub record RefusedBy {T : Type 0} (plan : Plan) (setup : Setup) (told : T → Option (List ℕ)) (g : Guard) (line : ℕ)
    (engine : T) (ran : Ran T) : Type 0 where
  pub impossible : Impossible plan setup ran.history.items g line
  pub printed : Printed (told engine) (told ran.engine) g

-- by why no further event was made; that a definition was misused, or that an offer's text uses a name that it doesn't define,
-- comes of no run of accepted texts
abbrev pub StoppedBy : {T : Type 0} (plan : Plan) (setup : Setup) (is_at : Guard → T → Type 0) (told : T → Option (List ℕ))
    (faults : T → ℕ) → T → Ran T → Guard → StopCause → Type 0
StoppedBy plan setup is_at told faults engine ran g (Ended end) = EndedBy plan setup is_at told g end engine ran
StoppedBy plan setup is_at told faults engine ran g SinkFailed =
    FailedAt setup ran.history.items g (told engine) (told ran.engine) (faults engine) (faults ran.engine)
StoppedBy plan setup is_at told faults engine ran g (CannotHappen line) = RefusedBy plan setup told g line engine ran
StoppedBy plan setup is_at told faults engine ran g Memory = Printed (told engine) (told ran.engine) g
StoppedBy plan setup is_at told faults engine ran g (Misused line) = g.world.misused ≡ true
StoppedBy plan setup is_at told faults engine ran g (UndefinedName line) = (k : ℕ) × UsesUndefined setup k

-- the events of a plan were made by an engine, up to why no further one was
pub record RanBy {T : Type 0} (plan : Plan) (setup : Setup) (is_at : Guard → T → Type 0) (told : T → Option (List ℕ))
    (faults : T → ℕ) (engine : T) (ran : Ran T) : Type 0 where
  pub guard : Guard
  pub legal : (rules : Rules) → AreRows rules.row → guard_after rules setup ran.history.items ≡ Some guard
  pub follows : Follows plan setup ran.history.items guard
  pub stopped : StoppedBy plan setup is_at told faults engine ran guard ran.cause

-- the report of a run that ended so was written
pub record Reported (text : List ℕ) (end : Ending) (finish : Finish) (err : Output) : Type 0 where
  pub status : finish.status ≡ status_of_ending end
  pub ending : finish.ending ≡ Some end
  pub shown : Shows err text

-- standard error failed at it
pub record Unreported (text : List ℕ) (finish : Finish) (err : Output) : Type 0 where
  pub status : finish.status ≡ 13
  pub ending : finish.ending ≡ None
  pub shown : ShowsPrefix err text

abbrev pub IsReported : List ℕ → Ending → Finish → Output → Type 0
IsReported text end finish err = Reported text end finish err ⊎ Unreported text finish err

-- ---- what a call hands back

-- the call that reported a run so, and hands back these answers and this version in force
abbrev pub run_call : {T : Type 0} → Finish → Ran T → List OfferAnswer → Option InForce → Output → Output → Call
run_call finish ran answers installed out err = record {
  status = finish.status;
  history = ran.history.items;
  ending = finish.ending;
  answers = answers;
  installed = installed;
  out = out;
  err = err;
}

-- with an ending, what an engine left; without one nothing
abbrev pub IsKept : Option Ending → List OfferAnswer → InForce → List OfferAnswer → Option InForce → Type 0
IsKept None left in_force answers installed = (answers ≡ []) × (installed ≡ None)
IsKept (Some end) left in_force answers installed = (answers ≡ left) × (installed ≡ Some in_force)

-- with an ending, what is handed back at each guard at which an engine may be; without one nothing
abbrev pub Hands : Setup → (Guard → Type 0) → Option Ending → List OfferAnswer → Option InForce → Type 0
Hands setup at None answers installed = (answers ≡ []) × (installed ≡ None)
Hands setup at (Some end) answers installed = (g : Guard) → at g → HandsBack setup g answers installed
