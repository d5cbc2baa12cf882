use Rattle.std.proofs.Common.{ap, ◌∙◌, refl}
use Rattle.name_sets.specs.Texts.{with_text}
use Rattle.patch_build.proofs.Tables.{copied_more}
use Rattle.patch_build.proofs.table.copied.Goals as goal

pub loop-index-preserved : goal.loop-index-preserved
loop-index-preserved c =
    c.in-Ok.ensures.texts
    ∙ ap (λ texts. with_text texts c.text_at.result.now) c.loop-index.invariant
    ∙ copied_more c.args.table.now c.loop-index.index c.loop-index.index c.text_at.result.now c.len-index-end.ensures.table refl c.text_at.ensures
