use Rattle.std.proofs.Common.{sym, ◌∙◌}
use Rattle.version_spans.proofs.AmongTexts.{among_keys}
use Rattle.version_spans.proofs.texts.TextSet.has.Goals as goal

pub returns : goal.returns
returns c =
    rw (← c.self.view_is) (c.is_some.ensures ∙ c.get_index_of.ensures.found ∙ sym (among_keys c.args.text.now c.self.inside.texts.keys))
