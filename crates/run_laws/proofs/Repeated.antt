-- The replay of a run's own journal makes the same run.
use Rattle.std.proofs.Common.{◌≡◌, Some, sym, ◌∙◌, ap}
use Rattle.std.proofs.lemmas.Option.{same_Some}
use Rattle.source_model.specs.Endings.{ending as ending_of}
use Rattle.source_model.specs.Journals.{answers, guard_after, moves}
use Rattle.source_model.specs.JournalLaws.{texts_of}
use Rattle.source_model.specs.Runs.{source_run}
use Rattle.dsu_report.specs.Statuses.{status_of_ending}
use Rattle.dsu_runs.specs.Rows.{RulesExist}
use Rattle.job_answers.specs.Runs.{report_of}
use Rattle.run_laws.specs.ReplayLaws.{ReplaysRepeat}

pub replays_repeat : RulesExist → ReplaysRepeat
replays_repeat exist plan lines setup texts j k one other a b events = record {
  history = history;
  output = ap (λ m. m.output) machine;
  ending = b.ending ∙ ap (λ x. Some (ending_of x)) guard ∙ sym a.ending;
  status = b.status ∙ ap (λ x. status_of_ending (ending_of x)) guard ∙ sym a.status;
  answers = b.versions.answered ∙ ap (λ x. answers setup x) guard ∙ sym a.versions.answered;
  report = λ journal.
      ap (λ es. report_of journal es setup texts b.made.guard) history
      ∙ ap (λ x. report_of journal one.history setup texts x) guard;
}
  where
    history : other.history ≡ one.history
    history = b.ends ∙ events

    guard : b.made.guard ≡ a.made.guard
    guard =
        same_Some b.made.guard a.made.guard
        (sym (b.made.legal exist.0 exist.1) ∙ ap (guard_after exist.0 setup) history ∙ a.made.legal exist.0 exist.1)

    machine : b.made.machine ≡ a.made.machine
    machine =
        same_Some b.made.machine a.made.machine
        (sym b.made.moved
        ∙ ap (λ es. source_run (texts_of setup) setup.limits (moves b.made.guard.answers es)) history
        ∙ ap (λ x. source_run (texts_of setup) setup.limits (moves x.answers one.history)) guard
        ∙ a.made.moved)
