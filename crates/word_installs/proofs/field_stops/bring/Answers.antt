use Rattle.std.proofs.Common.{◌≡◌, ℕ, ◌+◌, ◌≤◌, Some, None, is_some, option_copied, refl, subst, sym, ap, ◌∙◌}
use Rattle.std.specs.FinMap.{get}
use Rattle.object_store.specs.declared.object.Object.{Object}
use Rattle.word_installs.proofs.Freshening.{new_enough, none_there, one_brought}
use Rattle.word_installs.proofs.field_stops.bring.Goals as goal

pub returns-in_default-clause-freshens : goal.returns-in_default-clause-freshens
returns-in_default-clause-freshens c = λ names texts seen words tag uses all last known numbers.
    let d = c.args.shared.now in
    let none : get d.objects.live c.args.handle ≡ None = sym c.object.ensures ∙ ap option_copied c.in_default.is in
    none_there texts names seen words d d tag c.args.handle uses refl none

pub returns-then-own-version-clause-freshens : goal.returns-then-own-version-clause-freshens
returns-then-own-version-clause-freshens c = λ names texts seen words tag uses all last known numbers.
    let d = c.args.shared.now in
    let own = c.in-Some.own.now in
    let there : get d.objects.live c.args.handle ≡ Some own = sym c.object.ensures ∙ ap option_copied c.in-Some.is in
    let above : d.version ≤ own.layout = subst (λ (v : ℕ). v ≤ own.layout) c.version-version.ensures c.if-own-version.true in
    new_enough texts names seen words d d tag c.args.handle uses own refl there known above

pub returns-clause-freshens : goal.returns-clause-freshens
returns-clause-freshens c = λ names texts seen words tag uses all last known numbers.
    let d = c.args.shared.now in
    let own = c.in-Some.own.now in
    let there : get d.objects.live c.args.handle ≡ Some own = sym c.object.ensures ∙ ap option_copied c.in-Some.is in
    one_brought texts names seen words d c.set_object.new.self tag c.args.handle uses own c.bring.new.object there
    (c.set_object.ensures.changed (c.set_object.ensures.there ∙ ap is_some there))
    (ap (λ (o : Object). o.tag) c.bring.ensures.words)
    (ap (λ (o : Object). o.layout) c.bring.ensures.words ∙ c.version-version.ensures)
    last numbers
    (c.bring.ensures.brings texts names.tags tag all (ap (λ (v : ℕ). v + 1) c.version-version.ensures ∙ last))

pub returns-clause-version : goal.returns-clause-version
returns-clause-version c =
    let there : get c.args.shared.now.objects.live c.args.handle ≡ Some c.in-Some.own.now = sym c.object.ensures ∙ ap option_copied c.in-Some.is in
    ap (λ d. d.version) (c.set_object.ensures.changed (c.set_object.ensures.there ∙ ap is_some there))

pub returns-clause-created : goal.returns-clause-created
returns-clause-created c =
    let there : get c.args.shared.now.objects.live c.args.handle ≡ Some c.in-Some.own.now = sym c.object.ensures ∙ ap option_copied c.in-Some.is in
    ap (λ d. d.objects.created) (c.set_object.ensures.changed (c.set_object.ensures.there ∙ ap is_some there))
