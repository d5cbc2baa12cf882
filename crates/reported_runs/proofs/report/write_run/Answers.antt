use Rattle.std.proofs.lemmas.Result.{err_from_is_err_and}
use Rattle.source_model.specs.Journals.{answers}
use Rattle.dsu_journal.specs.Journals.{journal_text}
use Rattle.dsu_journal.proofs.Pieces.{AppendsFront-first, PutAppends-then}
use Rattle.reported_runs.proofs.Printing.{result_text, with_journal}
use Rattle.reported_runs.proofs.report.write_run.Goals as goal

pub returns-in_err-print_journal-clause-bytes : goal.returns-in_err-print_journal-clause-bytes
returns-in_err-print_journal-clause-bytes g c = λ asks setup x at same.
    let p = err_from_is_err_and c.from_residual.result c.from_residual.ensures.1 in
    let a = c.args in
    rw (p.1, with_journal a.journal a.history.now (answers setup x) a.texts.now a.ending x.world c.if-not-journal.false)
    (AppendsFront-first _ _ (journal_text a.history.now) (result_text (answers setup x) a.texts.now a.ending x.world)
    c.in_err-print_journal.ensures.bytes)

pub returns-clause-bytes : goal.returns-clause-bytes
returns-clause-bytes g c = λ asks setup x at same.
    let a = c.args in
    rw (with_journal a.journal a.history.now (answers setup x) a.texts.now a.ending x.world c.if-not-journal.false)
    (PutAppends-then _ _ _ c.write_result-2.result (journal_text a.history.now) (result_text (answers setup x) a.texts.now a.ending x.world)
    c.in_ok-print_journal.ensures.bytes (c.write_result-2.ensures.bytes asks setup x at same))
