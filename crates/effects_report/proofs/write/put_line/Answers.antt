use Rattle.std.proofs.lemmas.Result.{err_from_is_err_and}
use Rattle.skeletons.specs.Meaning.{check_in_of}
use Rattle.check_in_places.specs.CheckIns.{head_text}
use Rattle.effects_report.specs.EffectsText.{row_text}
use Rattle.effects_report.specs.Shown.{row_at}
use Rattle.dsu_journal.proofs.Pieces.{AppendsFront-first, PutAppends-then}
use Rattle.effects_report.proofs.Putting.{put_failed}
use Rattle.effects_report.proofs.write.put_line.Goals as goal

pub returns-in_err-put_head-clause-bytes : goal.returns-in_err-put_head-clause-bytes
returns-in_err-put_head-clause-bytes g c =
    let names = c.args.names.now in
    let sets = c.args.effects.now in
    let p' = err_from_is_err_and c.from_residual.result c.from_residual.ensures.1 in
    put_failed _ _ _ _ p'.0 p'.1
    (AppendsFront-first _ _ (head_text c.args.lines.now.text.now c.args.spot.at (check_in_of c.args.spot.kind)) (row_text (row_at names sets c.args.spot.point)) c.in_err-put_head.ensures.bytes)

pub returns-clause-bytes : goal.returns-clause-bytes
returns-clause-bytes g c =
    let names = c.args.names.now in
    let sets = c.args.effects.now in
    PutAppends-then _ _ _ _ (head_text c.args.lines.now.text.now c.args.spot.at (check_in_of c.args.spot.kind)) (row_text (row_at names sets c.args.spot.point))
    c.in_ok-put_head.ensures.bytes c.put_row.ensures.bytes
