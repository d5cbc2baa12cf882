use Rattle.job_answers.specs.Plans.{ByJournal}
use Rattle.reported_runs.proofs.Planned.{ran_by_journal}
use Rattle.run_jobs.proofs.replay.replay_engine.Goals as goal

pub returns : goal.returns
returns g c = λ asks setup accepted at given installed hands.
    let e = g.T.Engine in
    c.report_run-finish.ensures (c.replay-ran.ensures.asked asks) (ByJournal c.args.lines.now) setup c.args.engine accepted
    (ran_by_journal setup (e.is_at setup) e.told e.faults c.args.engine c.args.lines.now c.replay-ran.result
    (c.replay-ran.ensures.replayed asks setup at)) given installed hands
