use Rattle.std.proofs.Common.{◌≡◌, ◌||◌, Bool, false, List, length, get_or, sym, ap, subst, ◌∙◌, arith}
use Rattle.std.specs.List.{list_any}
use Rattle.std.proofs.lemmas.List.{take_all}
use Rattle.std.proofs.lemmas.List.Elements.{All-get_or}
use Rattle.std.proofs.lemmas.List.Folds.{list_any_more, list_any_at}
use Rattle.skeletons.specs.declared.point.Point.{Point}
use Rattle.skeleton_gen.specs.Naming.{IsKnown, AllKnown}
use Rattle.brought_bodies.specs.Sets.{uses_one}
use Rattle.brought_bodies.proofs.NamesUsed.{any_direct}
use Rattle.brought_bodies.proofs.uses.uses_any.Goals as goal

pub loop-point-preserved : goal.loop-point-preserved
loop-point-preserved c = λ names list is known.
    let points = c.deref-point-items.result.now in
    let i = c.loop-point.point-index in
    let point = c.point-item.result in
    let f : Point → Bool = λ p. uses_one names list p.kind in
    let one : IsKnown (length names) point.kind =
    subst (λ (p : Point). IsKnown (length names) p.kind) (sym c.point-item.is)
    (All-get_or (λ (p : Point). IsKnown (length names) p.kind) points i point c.loop-point-test.true known)
    in
    let here : f (get_or points i point) ≡ false =
    ap f (sym c.point-item.is) ∙ sym (c.uses.ensures names list is one) ∙ c.if-uses.false
    in
    list_any_more f points i point c.loop-point-test.true
    ∙ ap (λ s. s || f (get_or points i point)) (c.loop-point.invariant names list is known) ∙ here

pub returns : goal.returns
returns c = λ names list is known.
    let points = c.deref-point-items.result.now in
    let i = c.loop-point.point-index in
    let f : Point → Bool = λ p. uses_one names list p.kind in
    let all : AllKnown (length names) points =
    subst {A = List Point} (AllKnown (length names)) (sym c.deref-point-items.ensures.value) known
    in
    sym (any_direct names list c.args.skeleton.now
    ∙ ap (list_any f) (sym c.deref-point-items.ensures.value)
    ∙ ap (list_any f) (sym (take_all i points (omega arith)))
    ∙ c.loop-point.invariant names list is all)

pub returns-then-uses : goal.returns-then-uses
returns-then-uses c = λ names list is known.
    let points = c.deref-point-items.result.now in
    let i = c.loop-point.point-index in
    let point = c.point-item.result in
    let f : Point → Bool = λ p. uses_one names list p.kind in
    let all : AllKnown (length names) points =
    subst {A = List Point} (AllKnown (length names)) (sym c.deref-point-items.ensures.value) known
    in
    let one : IsKnown (length names) point.kind =
    subst (λ (p : Point). IsKnown (length names) p.kind) (sym c.point-item.is)
    (All-get_or (λ (p : Point). IsKnown (length names) p.kind) points i point c.loop-point-test.true all)
    in
    sym (any_direct names list c.args.skeleton.now
    ∙ ap (list_any f) (sym c.deref-point-items.ensures.value)
    ∙ list_any_at f points i point c.loop-point-test.true
    (ap f (sym c.point-item.is) ∙ sym (c.uses.ensures names list is one) ∙ c.if-uses.true))
