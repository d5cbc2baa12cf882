use Rattle.std.proofs.Common.{◌+◌, ◌||◌, sym, ap, ◌∙◌}
use Rattle.name_sets.specs.NameLists.{is_among}
use Rattle.version_spans.proofs.AmongTexts.{some_from, some_here, some_nowhere}
use Rattle.version_spans.proofs.texts.some_is_in.Goals as goal

pub loop-text-preserved : goal.loop-text-preserved
loop-text-preserved c =
    let p = is_among c.args.set.now in
    c.loop-text.invariant
    ∙ some_here p c.args.texts.now c.loop-text.text-index c.text-item.result c.loop-text-test.true c.text-item.is
    ∙ ap (λ b. b || some_from p c.args.texts.now (c.loop-text.text-index + 1)) (sym (c.has.ensures ∙ ap p c.as_str.ensures.value) ∙ c.if-has.false)

pub returns-then-has : goal.returns-then-has
returns-then-has c =
    let p = is_among c.args.set.now in
    sym
    (c.loop-text.invariant
    ∙ some_here p c.args.texts.now c.loop-text.text-index c.text-item.result c.loop-text-test.true c.text-item.is
    ∙ ap (λ b. b || some_from p c.args.texts.now (c.loop-text.text-index + 1)) (sym (c.has.ensures ∙ ap p c.as_str.ensures.value) ∙ c.if-has.true))

pub returns : goal.returns
returns c = sym (c.loop-text.invariant ∙ some_nowhere (is_among c.args.set.now) c.args.texts.now c.loop-text.text-index c.loop-text-test.false)
