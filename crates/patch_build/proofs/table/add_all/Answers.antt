use Rattle.std.proofs.Common.{◌≡◌, Err, ap, ◌∙◌}
use Rattle.std.proofs.lemmas.Result.{err_from_is_err_and}
use Rattle.name_sets.specs.declared.table.NamesFault.TheVariants.{Full}
use Rattle.patch_build.proofs.Tables.{added_more, too_many}
use Rattle.patch_build.proofs.table.add_all.Goals as goal

pub returns-in_err-add-clause-full : goal.returns-in_err-add-clause-full
returns-in_err-add-clause-full c =
    let p = err_from_is_err_and c.from_residual.result c.from_residual.ensures.1 in
    rw (p.1, p.2) (λ is_full.
    let same : c.in_err-add.field-0.0 ≡ Full = cc in
    let full = c.in_err-add.ensures.full.0 (ap Err same) in
    too_many c.args.table.now c.loop-text.table c.args.texts.now c.loop-text.text-index c.text-item.result c.as_str.result.now
    c.loop-text-test.true c.text-item.is c.as_str.ensures.value c.loop-text.invariant full.0 full.1)

pub loop-text-preserved : goal.loop-text-preserved
loop-text-preserved c =
    c.in_ok-add.ensures.texts
    ∙ added_more c.args.table.now c.loop-text.table c.args.texts.now c.loop-text.text-index c.text-item.result c.as_str.result.now
    c.loop-text-test.true c.text-item.is c.as_str.ensures.value c.loop-text.invariant
