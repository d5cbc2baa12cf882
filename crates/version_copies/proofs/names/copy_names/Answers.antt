use Rattle.std.proofs.Common.{ap, ◌∙◌}
use Rattle.name_sets.specs.Texts.{with_text}
use Rattle.version_copies.proofs.CopiedNames.{copied_more}
use Rattle.version_copies.proofs.names.copy_names.Goals as goal

pub loop-index-preserved : goal.loop-index-preserved
loop-index-preserved c =
    c.in-Ok.ensures.texts
    ∙ ap (λ texts. with_text texts c.text_at.result.now) c.loop-index.invariant
    ∙ copied_more c.args.names.now c.loop-index.index c.text_at.result.now c.len-index-end.ensures.table c.text_at.ensures
