use Rattle.std.proofs.Common.{inr, refl, subst, sym}
use Rattle.dsu_cli.specs.declared.job.Job.TheVariants.{Admits}
use Rattle.job_answers.specs.Jobs.{IsKnownProgram, KnownProgramFault}
use Rattle.job_answers.proofs.Stopping.{answered, at_program, first_of_two, or_else, program_excused}
use Rattle.text_jobs.proofs.TextAnswers.{admits_answers}
use Rattle.job_answers.proofs.Reading.{is_answered}
use Rattle.text_jobs.proofs.admits_job.admits_files.Goals as goal

pub returns-in-Ok-clause-answers : goal.returns-in-Ok-clause-answers
returns-in-Ok-clause-answers g c =
    admits_answers c.args.old.now c.args.new.now (g.F.Files.content c.args.files.now) (g.F.Files.content c.source_in.new.files) _ _ _ _
    c.in-Ok.source.text.items c.in-Ok.source.typed c.in-Ok.ensures.read c.in-Ok.ensures.same c.in-Ok.ensures.none_failed c.admits_from.ensures.answers

pub returns-in-Ok-clause-complete : goal.returns-in-Ok-clause-complete
returns-in-Ok-clause-complete g c = λ ready.
    c.admits_from.ensures.complete ready.1.0
    (subst (λ k. IsKnownProgram k ready.1.0) (sym (c.in-Ok.ensures.same c.args.new.now)) ready.1.1)

pub returns-in-Err-clause-answers : goal.returns-in-Err-clause-answers
returns-in-Err-clause-answers g c =
    let content = g.F.Files.content c.args.files.now in
    let old = c.args.old.now in
    answered (Admits old c.args.new.now) content (g.F.Files.faults c.args.files.now) (g.F.Files.faults c.source_in.new.files) _ c.in-Err.line old
    c.stop.ensures (or_else (at_program content c.in-Err.line old old refl _ _ c.in-Err.ensures.fault))

pub returns-in-Err-clause-complete : goal.returns-in-Err-clause-complete
returns-in-Err-clause-complete g c = λ ready.
    let old = c.args.old.now in
    inr (program_excused (g.F.Files.content c.args.files.now) c.in-Err.line old old refl _ c.stop.ensures c.in-Err.ensures.complete
    ready.0.0 ready.0.1)

pub returns-in-Err-clause-first : goal.returns-in-Err-clause-first
returns-in-Err-clause-first g c = λ line at fault.
    let content = g.F.Files.content c.args.files.now in
    let old = c.args.old.now in
    first_of_two content c.in-Err.line old old refl (KnownProgramFault (content c.args.new.now)) c.args.new.now _ c.stop.ensures
    c.in-Err.ensures.complete (λ known is. is_answered known c.in-Err.line (c.in-Err.ensures.first known is)) line at fault
