use Rattle.std.proofs.Common.{◌∙◌, ap}
use Rattle.job_answers.specs.Generated.{summary_text}
use Rattle.gen_job.proofs.Generating.{if_ok_map}
use Rattle.gen_job.proofs.summary.summary_of.Goals as goal

pub returns-in-Ok : goal.returns-in-Ok
returns-in-Ok g c =
    if_ok_map c.summary.result _ _
    (λ summary is asks setup x at same.
    is ∙ ap (summary_text c.args.seed c.args.size c.args.lines) (c.deref.ensures.value ∙ c.in-Ok.ensures asks setup x at same))
    c.summary.ensures
