use Rattle.std.proofs.lemmas.Result.{err_from_is_err_and}
use Rattle.source_model.specs.Journals.{answers}
use Rattle.dsu_journal.proofs.Pieces.{AppendsFront-first, PutAppends-then}
use Rattle.dsu_report.specs.Answers.{answers_text}
use Rattle.job_answers.specs.Reports.{ending_text}
use Rattle.reported_runs.proofs.Printing.{answers_front, answers_whole}
use Rattle.reported_runs.proofs.report.write_result.Goals as goal

pub returns-in_err-write_answers-clause-bytes : goal.returns-in_err-write_answers-clause-bytes
returns-in_err-write_answers-clause-bytes g c = λ asks setup x at same.
    let p = err_from_is_err_and c.from_residual.result c.from_residual.ensures.1 in
    rw p.1 (AppendsFront-first _ _ (answers_text (answers setup x) c.args.texts.now) (ending_text c.args.ending x.world)
    (answers_front _ _ _ _ _ (answers setup x) c.args.texts.now c.names.ensures (c.answers.ensures setup x at) c.in_err-write_answers.ensures.bytes))

pub returns-clause-bytes : goal.returns-clause-bytes
returns-clause-bytes g c = λ asks setup x at same.
    PutAppends-then _ _ _ c.write_end.result (answers_text (answers setup x) c.args.texts.now) (ending_text c.args.ending x.world)
    (answers_whole _ _ _ _ _ (answers setup x) c.args.texts.now c.names.ensures (c.answers.ensures setup x at) c.in_ok-write_answers.ensures.bytes)
    (c.write_end.ensures.bytes asks setup x at same)
