use Rattle.std.proofs.Common.{◌≡◌, ◌+◌, ◌≤◌, List, length, Option, slice_get, sym, ap, subst, ◌∙◌, arith}
use Rattle.std.specs.Option.{option_flatten}
use Rattle.word_layouts.specs.declared.layout.Layout.{Layout}
use Rattle.word_layouts.specs.TextLayouts.{IsLayoutOf}
use Rattle.word_layouts.proofs.Versions.{ArePrepared, prepared_all, prepared_more, prepared_none}
use Rattle.word_layouts.proofs.preparation.prepare.Goals as goal

pub loop-place-init : goal.loop-place-init
loop-place-init c = λ p q tags was is named are.
    subst (ArePrepared p q tags 0) (sym c.in_ok-structs.ensures.items) (prepared_none p q tags)

pub loop-place-preserved : goal.loop-place-preserved
loop-place-preserved c = λ p q tags was is named are.
    let place = c.loop-place.place in
    let at : (rows : List (Option Layout)) (n : _) → n ≡ place → option_flatten (slice_get rows n) ≡ option_flatten (slice_get rows place) =
    λ rows n here. ap (λ k. option_flatten (slice_get rows k)) here in
    subst (ArePrepared p q tags (place + 1)) (sym c.in_ok-push.ensures.items)
    (prepared_more p q tags place c.loop-place.structs.items c.in_ok-change.change (c.loop-place.invariant p q tags was is named are)
    (λ tag known here.
    c.in_ok-change.ensures p q tag
    (subst (IsLayoutOf p tag) (at c.args.old.now _ here ∙ sym c.layout_at-was.ensures) (was.each tag known))
    (subst (IsLayoutOf q tag) (at c.args.new.now _ here ∙ sym c.layout_at-is.ensures) (is.each tag known))
    named are))

pub returns : goal.returns
returns c = λ p q tags was is named are.
    let count = is.count in
    let enough : length tags ≤ c.loop-place.place = omega (arith, count, c.loop-place-test.false) in
    prepared_all p q tags c.loop-place.place _ enough (c.loop-place.invariant p q tags was is named are)
