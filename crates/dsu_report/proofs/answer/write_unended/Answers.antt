use Rattle.std.proofs.Common.{◌++◌, codes}
use Rattle.std.specs.Fmt.{decimal}
use Rattle.std.proofs.lemmas.Result.{err_from_is_err_and}
use Rattle.source_model.specs.Answers.{answer_seen}
use Rattle.dsu_report.specs.Answers.{answer_words}
use Rattle.dsu_journal.proofs.Pieces.{AppendsFront-first, PutAppends-then}
use Rattle.dsu_report.proofs.answer.write_unended.Goals as goal

pub returns-in_err-write_number-clause-bytes : goal.returns-in_err-write_number-clause-bytes
returns-in_err-write_number-clause-bytes g c =
    let p = err_from_is_err_and c.from_residual.result c.from_residual.ensures.1 in
    rw p.1 (AppendsFront-first _ _ (codes "# offer " ++ decimal c.args.number ++ codes " ")
    (answer_words (answer_seen c.args.names.now c.args.answer.now) c.args.text.now) c.in_err-write_number.ensures.bytes)

pub returns-clause-bytes : goal.returns-clause-bytes
returns-clause-bytes g c =
    PutAppends-then _ _ _ c.write_words.result (codes "# offer " ++ decimal c.args.number ++ codes " ")
    (answer_words (answer_seen c.args.names.now c.args.answer.now) c.args.text.now) c.in_ok-write_number.ensures.bytes c.write_words.ensures.bytes
