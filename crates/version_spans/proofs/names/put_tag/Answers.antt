use Rattle.std.proofs.Common.{◌||◌, sym, ap, ◌∙◌}
use Rattle.std.proofs.lemmas.Result.{on_ok_weaker}
use Rattle.name_sets.specs.NameLists.{is_among}
use Rattle.version_spans.proofs.AmongTexts.{among_with}
use Rattle.version_spans.proofs.names.put_tag.Goals as goal

pub returns-in-Some : goal.returns-in-Some
returns-in-Some c =
    on_ok_weaker c.put.result
    (λ is tag. ap (λ l. is_among l tag) is ∙ among_with c.args.tags.now c.in-Some.tag.now tag
    ∙ ap (λ b. b || is_among c.args.tags.now tag) (sym (c.in-Some.ensures tag)))
    c.put.ensures.texts

pub returns-in-None : goal.returns-in-None
returns-in-None c = λ tag. ap (λ b. b || is_among c.args.tags.now tag) (sym (c.in-None.ensures tag))
