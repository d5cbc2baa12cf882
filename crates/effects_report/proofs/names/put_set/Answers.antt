use Rattle.std.proofs.lemmas.Result.{err_from_is_err_and}
use Rattle.effects_report.specs.EffectsText.{names_text}
use Rattle.effects_report.specs.Shown.{names_in}
use Rattle.dsu_journal.proofs.Pieces.{AppendsFront-first, PutAppends-then}
use Rattle.effects_report.proofs.Putting.{put_failed}
use Rattle.effects_report.proofs.names.put_set.Goals as goal

pub returns-in_err-put-clause-bytes : goal.returns-in_err-put-clause-bytes
returns-in_err-put-clause-bytes g c =
    let p' = err_from_is_err_and c.from_residual.result c.from_residual.ensures.1 in
    put_failed _ _ _ _ p'.0 p'.1
    (AppendsFront-first _ _ c.args.word.now (names_text (names_in c.args.names.now c.args.set.now)) c.in_err-put.ensures.bytes)

pub returns-clause-bytes : goal.returns-clause-bytes
returns-clause-bytes g c =
    PutAppends-then _ _ _ _ c.args.word.now (names_text (names_in c.args.names.now c.args.set.now)) c.in_ok-put.ensures.bytes c.put_names.ensures.bytes
