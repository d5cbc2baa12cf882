use Rattle.std.proofs.Common.{false, refl, sym}
use Rattle.job_answers.specs.Calls.{output_of}
use Rattle.job_answers.specs.Plans.{ByJournal}
use Rattle.run_jobs.proofs.Outcomes.{came_as, same_output}
use Rattle.run_jobs.proofs.replay.replay_over.Goals as goal

pub returns : goal.returns
returns g c = λ asks setup accepted at.
    let out = g.O.Sink in
    let ran = c.replay_engine-ran in
    let done = c.outcome_of_run in
    came_as (ByJournal c.args.lines.now) setup c.args.texts.now false c.args.file.now ran.result.1 ran.result.0 done.result
    (output_of out.told out.faults c.args.engine.sink ran.result.0.engine.sink)
    (output_of out.told out.faults c.args.engine.sink done.result.out)
    (output_of g.E.Sink.told g.E.Sink.faults c.args.err.now ran.new.err) done.ensures.status done.ensures.ending done.ensures.history
    (same_output out.told out.faults _ _ _ _ refl (sym done.ensures.out))
    (ran.ensures asks setup accepted at done.result.answers.items done.result.installed (done.ensures.versions setup))
