use Rattle.job_answers.specs.Plans.{BySchedule}
use Rattle.reported_runs.proofs.Planned.{ran_by_schedule}
use Rattle.run_jobs.proofs.run.run_engine.Goals as goal

pub returns : goal.returns
returns g c = λ asks setup accepted at given installed hands.
    let e = g.T.Engine in
    let moves = c.args.job.now.moves in
    c.report_run-finish.ensures (c.solo-ran.ensures.asked asks) (BySchedule moves) setup c.args.engine accepted
    (ran_by_schedule setup (e.is_at setup) e.told e.faults c.args.engine c.solo_schedule_is_prompt.ensures.prompt moves c.solo-ran.result
    (c.solo-ran.ensures.ran asks setup at)) given installed hands
