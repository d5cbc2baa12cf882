use Rattle.std.proofs.Common.{◌∙◌}
use Rattle.reported_runs.proofs.HandedBack.{hands_back}
use Rattle.run_jobs.proofs.outcome.outcome_of_run.Goals as goal

pub returns-clause-out : goal.returns-clause-out
returns-clause-out g c = c.outcome_of.ensures.out ∙ c.into_parts-out.ensures.sink

pub returns-clause-versions : goal.returns-clause-versions
returns-clause-versions g c = λ setup.
    let parts = c.into_parts-out in
    let done = c.outcome_of in
    hands_back setup _ c.args.finish.ending parts.result.1.items done.result.answers.items _ done.result.installed done.ensures.versions
    (c.version-version.ensures setup) (parts.ensures.named setup) (parts.ensures.answered setup)
