use Rattle.std.proofs.Common.{inr, refl}
use Rattle.dsu_cli.specs.declared.job.Job.TheVariants.{Effects}
use Rattle.job_answers.proofs.Stopping.{answered, at_program, program_excused}
use Rattle.text_jobs.proofs.TextAnswers.{effects_answers, effects_done}
use Rattle.text_jobs.proofs.effects_job.effects_file.Goals as goal

pub returns-in-Ok-clause-answers : goal.returns-in-Ok-clause-answers
returns-in-Ok-clause-answers g c =
    effects_answers c.args.file.now (g.F.Files.content c.args.files.now) _ _ _ _ _ c.in-Ok.ensures.read c.in-Ok.ensures.none_failed c.print_effects.ensures

pub returns-in-Ok-clause-complete : goal.returns-in-Ok-clause-complete
returns-in-Ok-clause-complete g c = λ ready. effects_done _ _ _ c.print_effects.ensures

pub returns-in-Err-clause-answers : goal.returns-in-Err-clause-answers
returns-in-Err-clause-answers g c =
    let content = g.F.Files.content c.args.files.now in
    let file = c.args.file.now in
    answered (Effects file) content _ _ _ c.in-Err.line file c.stop.ensures
    (at_program content c.in-Err.line file file refl _ _ c.in-Err.ensures.fault)

pub returns-in-Err-clause-complete : goal.returns-in-Err-clause-complete
returns-in-Err-clause-complete g c = λ ready.
    let content = g.F.Files.content c.args.files.now in
    let file = c.args.file.now in
    inr (program_excused content c.in-Err.line file file refl _ c.stop.ensures c.in-Err.ensures.complete ready.0 ready.1)
