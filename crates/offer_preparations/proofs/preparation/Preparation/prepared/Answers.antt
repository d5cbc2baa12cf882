use Rattle.std.proofs.Common.{refl, sym, ◌∙◌}
use Rattle.offer_preparations.specs.Preparations.{trees_of}
use Rattle.offer_preparations.proofs.Made.{found, made_is}
use Rattle.offer_preparations.proofs.preparation.Preparation.prepared.Goals as goal

pub returns-in-Ok : goal.returns-in-Ok
returns-in-Ok c = λ own.
    let p = c.args.self.now in
    made_is p _ _ c.in-Ok.prepared refl refl refl
    (found c.text_at.result c.in-Some.last (trees_of p) p.last c.text_at.ensures c.in-Some.is)
    (found c.text_at-2.result c.in-Some-text_at.text (trees_of p) p.k c.text_at-2.ensures c.in-Some-text_at.is)
    (c.in-Ok.ensures.prepared (λ rows e. own rows (sym c.as_ref.ensures.value ∙ e)))
