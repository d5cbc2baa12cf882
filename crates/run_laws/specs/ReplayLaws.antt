-- The replay of a run's own journal makes the same run.
use Rattle.std.specs.Prelude.{◌≡◌, ℕ, Bool, List, map}
use Rattle.run_types.specs.declared.run.Event.{Event}
use Rattle.source_model.specs.Answers.{answer_seen}
use Rattle.source_model.specs.Guards.{Setup}
use Rattle.dsu_runs.specs.Replays.{events_of}
use Rattle.job_answers.specs.Calls.{Call}
use Rattle.job_answers.specs.Plans.{Plan, ByJournal}
use Rattle.job_answers.specs.Runs.{Ran, report_of}

-- two calls made one run: of both the events, the output, the ending, the status, the number of the version in force and the
-- meaning of the answers are the same, and so is the report, with the journal or without it
pub record SameRun (one_plan other_plan : Plan) (setup : Setup) (texts : List (List ℕ)) (j k : Bool) (one other : Call)
    (a : Ran one_plan setup texts j one) (b : Ran other_plan setup texts k other) : Type 0 where
  pub history : other.history ≡ one.history
  pub output : b.made.machine.output ≡ a.made.machine.output
  pub ending : other.ending ≡ one.ending
  pub status : other.status ≡ one.status
  pub answers : map (answer_seen b.versions.names) other.answers ≡ map (answer_seen a.versions.names) one.answers
  pub report : (journal : Bool) → report_of journal other.history setup texts b.made.guard ≡ report_of journal one.history setup texts a.made.guard

-- so it is with a run that was made and reported, by whatever plan, and the replay of a journal that has its events
abbrev pub ReplaysRepeat : Type 0
ReplaysRepeat =
    (plan : Plan) (lines : List (ℕ × Event)) (setup : Setup) (texts : List (List ℕ)) (j k : Bool) (one other : Call)
    (a : Ran plan setup texts j one) (b : Ran (ByJournal lines) setup texts k other)
    → events_of lines ≡ one.history → SameRun plan (ByJournal lines) setup texts j k one other a b
