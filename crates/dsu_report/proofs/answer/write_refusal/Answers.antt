use Rattle.std.proofs.Common.{◌++◌, codes}
use Rattle.std.specs.Fmt.{decimal}
use Rattle.std.proofs.lemmas.Result.{err_from_is_err_and}
use Rattle.con_freeness.specs.Verdicts.{effect_seen}
use Rattle.dsu_report.specs.Answers.{effect_words}
use Rattle.dsu_journal.proofs.Pieces.{AppendsFront-first, PutAppends-then}
use Rattle.dsu_report.proofs.answer.write_refusal.Goals as goal

pub returns-in_err-write_thread-clause-bytes : goal.returns-in_err-write_thread-clause-bytes
returns-in_err-write_thread-clause-bytes g c =
    let p = err_from_is_err_and c.from_residual.result c.from_residual.ensures.1 in
    let r = c.args.refusal.now in
    rw p.1 (AppendsFront-first _ _ (codes "refused: thread " ++ decimal r.slot ++ codes " ") (effect_words (effect_seen c.args.names.now r.effect))
    c.in_err-write_thread.ensures.bytes)

pub returns-clause-bytes : goal.returns-clause-bytes
returns-clause-bytes g c =
    let r = c.args.refusal.now in
    PutAppends-then _ _ _ c.write_effect.result (codes "refused: thread " ++ decimal r.slot ++ codes " ")
    (effect_words (effect_seen c.args.names.now r.effect)) c.in_ok-write_thread.ensures.bytes c.write_effect.ensures.bytes
