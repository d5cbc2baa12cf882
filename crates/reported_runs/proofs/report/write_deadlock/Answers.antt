use Rattle.std.proofs.lemmas.Result.{err_from_is_err_and}
use Rattle.run_types.specs.declared.run.Ending.TheVariants.{Deadlock}
use Rattle.dsu_journal.proofs.Pieces.{AppendsFront-first, PutAppends-then}
use Rattle.dsu_report.specs.Endings.{report_text}
use Rattle.job_answers.specs.Reports.{waits_text}
use Rattle.reported_runs.proofs.report.write_deadlock.Goals as goal

pub returns-in_err-write_ending-clause-bytes : goal.returns-in_err-write_ending-clause-bytes
returns-in_err-write_ending-clause-bytes g c = λ asks setup x at same.
    let p = err_from_is_err_and c.from_residual.result c.from_residual.ensures.1 in
    rw p.1 (AppendsFront-first _ _ (report_text Deadlock) (waits_text x.world) c.in_err-write_ending.ensures.bytes)

pub returns-clause-bytes : goal.returns-clause-bytes
returns-clause-bytes g c = λ asks setup x at same.
    PutAppends-then _ _ _ c.write_waits.result (report_text Deadlock) (waits_text x.world) c.in_ok-write_ending.ensures.bytes
    (c.write_waits.ensures.bytes asks setup x at same)
