use Rattle.std.proofs.Common.{Some, sym, ap, subst, ◌∙◌}
use Rattle.std.specs.Prelude.{option_map}
use Rattle.source_model.specs.Runs.{Move}
use Rattle.source_programs.specs.Programs.{name_of}
use Rattle.source_runner.specs.SourceRuns.{CameBy}
use Rattle.recorded_runs.proofs.Runs.{goes, with_run}
use Rattle.recorded_runs.proofs.run.RecordedRun.make_move.Goals as goal

pub returns-in_ok-record_move-in-Done-clause-stepped : goal.returns-in_ok-record_move-in-Done-clause-stepped
returns-in_ok-record_move-in-Done-clause-stepped c = λ texts limits moves h.
    let slot = c.args.slot in
    let run = c.args.self.now.run in
    let made = subst (CameBy texts limits moves (Move slot) c.step.new.self) c.in-Done.is (c.in_ok-step.ensures.stepped texts limits moves h.run).came in
    record {
      came = c.in_ok-record_move-in-Done.ensures.moved texts limits moves run h made
          (c.next_use-used.ensures texts limits moves h.run (goes texts limits moves slot run c.step.new.self h.run made)
          ∙ ap (λ t. Some (option_map (name_of t) c.next_use-used.result)) (sym c.in_ok-step.ensures.same.1));
    }

pub returns-in-CannotMove-clause-stepped : goal.returns-in-CannotMove-clause-stepped
returns-in-CannotMove-clause-stepped c = λ texts limits moves h.
    let came = subst (CameBy texts limits moves (Move c.args.slot) c.step.new.self) c.in-CannotMove.is
    (c.in_ok-step.ensures.stepped texts limits moves h.run).came in
    record { came = (with_run texts limits moves c.args.self.now c.step.new.self h came.0, came.1) }
