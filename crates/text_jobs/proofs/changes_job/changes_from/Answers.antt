use Rattle.std.proofs.Common.{inr, refl}
use Rattle.job_answers.specs.Answers.{ChangesFailed, ChangesShown}
use Rattle.text_jobs.proofs.TextAnswers.{changes_done, newer_printed, newer_stops}
use Rattle.job_answers.proofs.Stopping.{program_excused}
use Rattle.text_jobs.proofs.changes_job.changes_from.Goals as goal

pub returns-in-Ok-clause-answers : goal.returns-in-Ok-clause-answers
returns-in-Ok-clause-answers g c =
    newer_printed (ChangesShown c.args.program.now) (ChangesFailed c.args.program.now) (g.F.Files.content c.args.files.now) _ _ c.args.new.now _ _ _
    c.in-Ok.ensures.read c.in-Ok.ensures.none_failed c.print_changes.ensures

pub returns-in-Ok-clause-complete : goal.returns-in-Ok-clause-complete
returns-in-Ok-clause-complete g c = λ next known. changes_done _ _ _ _ c.print_changes.ensures

pub returns-in-Err-clause-answers : goal.returns-in-Err-clause-answers
returns-in-Err-clause-answers g c =
    newer_stops (ChangesShown c.args.program.now) (ChangesFailed c.args.program.now) (g.F.Files.content c.args.files.now) _ _ c.args.new.now _
    c.in-Err.line c.stop.ensures c.in-Err.ensures.fault

pub returns-in-Err-clause-complete : goal.returns-in-Err-clause-complete
returns-in-Err-clause-complete g c = λ next known.
    let new = c.args.new.now in
    inr (program_excused (g.F.Files.content c.args.files.now) c.in-Err.line new new refl _ c.stop.ensures c.in-Err.ensures.complete next known)
