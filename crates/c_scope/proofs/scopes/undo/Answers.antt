use Rattle.std.proofs.Common.{◌≡◌, ◌∙◌, ◌++◌, ◌∷◌, [], ap, subst, reverse}
use Rattle.c_scope.specs.declared.step.Step.TheVariants.{Declare}
use Rattle.c_scope.specs.Names.{texts_of, places_of}
use Rattle.c_scope.specs.History.{AreKept}
use Rattle.c_scope.proofs.HistoryLemmas.{reverse-push}
use Rattle.c_scope.proofs.KeptLemmas.{kept-undo}
use Rattle.c_scope.proofs.scopes.undo.Goals as goal

pub returns-in-Some-Declare-clause-kept : goal.returns-in-Some-Declare-clause-kept
returns-in-Some-Declare-clause-kept g c =
    let d = c.in-Some-Declare.declaration in
    let rest = c.pop.new.self.items in
    let texts = texts_of c.args.names.now.entries in
    let places = places_of c.args.names.now.entries in
    let old : reverse c.args.steps.now.items ≡ Declare d ∷ reverse rest = ap reverse (c.in-Some-Declare.ensures.items ∙ ap (λ s. rest ++ s ∷ []) c.in-Some-Declare.field-0-is) ∙ reverse-push rest (Declare d) in
    rw (c.set_place.ensures.texts, c.set_place.ensures.places) (kept-undo texts places (reverse rest) d (subst (AreKept texts places) old c.requires.kept))
