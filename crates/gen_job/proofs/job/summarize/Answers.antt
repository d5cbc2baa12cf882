use Rattle.std.proofs.Common.{◌∙◌, ap, false, []}
use Rattle.source_model.specs.Journals.{answers}
use Rattle.job_answers.specs.Generated.{summary_text}
use Rattle.job_answers.specs.Reports.{run_text}
use Rattle.gen_job.proofs.Summing.{by_text}
use Rattle.gen_job.proofs.job.summarize.Goals as goal

pub returns-in-Ok : goal.returns-in-Ok
returns-in-Ok g c = λ asks setup x at same.
    let a = c.args in
    by_text setup _ _ _ _ _ _
    (c.deref.ensures.value ∙ c.in-Ok.ensures asks setup x at same
    ∙ ap (λ lines. summary_text a.seed a.size lines (run_text false [] (answers setup x) a.texts.now a.ending x.world))
    (c.lines_written-lines.ensures setup x at))
    (c.print_summary.ensures setup)
