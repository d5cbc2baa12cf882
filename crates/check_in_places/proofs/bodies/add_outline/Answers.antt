use Rattle.std.proofs.Common.{◌≡◌, List, Contains, [], ◌∷◌, ◌++◌, ℕ, Some, slice_get, length, ap, sym, ◌∙◌, subst}
use Rattle.check_in_places.specs.declared.section.Section.{Section}
use Rattle.skeletons.specs.Meaning.{meant}
use Rattle.effect_flow.specs.declared.flow.FlowPoint.{FlowPoint}
use Rattle.effect_flow.specs.Flows.{AddsBody}
use Rattle.check_in_places.specs.Bodies.{IsSectionOf, AreBodiesOf}
use Rattle.check_in_places.proofs.Added.{function_added}
use Rattle.check_in_places.proofs.Outcomes.{on_ok}
use Rattle.check_in_places.proofs.bodies.add_outline.Goals as goal

pub returns : goal.returns
returns c = λ text done is are.
    let names = c.args.names.now in
    let f = c.args.function.now in
    let id = c.in-Some.id in
    let old = c.args.bodies.now.flow in
    let outline = c.args.outline.now in
    let section = c.in_ok-section.section in
    let named : slice_get names id ≡ Some f.name.text = c.in-Some.ensures.found ∙ ap Some c.as_str.ensures in
    let at_points : IsSectionOf (meant names outline.skeleton) c.as_slice.result.now (length old.points) id section =
    subst {A = List FlowPoint} (λ ps. IsSectionOf (meant names outline.skeleton) c.as_slice.result.now (length ps) id section)
    c.points-first.ensures (c.in_ok-section.ensures names)
    in
    let made : IsSectionOf (meant names outline.skeleton) outline.places.items (length old.points) id section =
    subst {A = List ℕ} (λ at. IsSectionOf (meant names outline.skeleton) at (length old.points) id section)
    c.as_slice.ensures.value at_points
    in
    on_ok c.add.result (AddsBody old id 1 outline.skeleton c.add.new.self)
    (AreBodiesOf names text (done ++ f ∷ []) c.add.new.self c.push.new.self.items) c.add.ensures.body
    (λ adds.
    subst {A = List Section} (λ list. AreBodiesOf names text (done ++ f ∷ []) c.add.new.self list) (sym c.in_ok-push.ensures.items)
    (function_added names text done old c.add.new.self c.args.bodies.now.sections.items f outline id section are is named made adds))

-- the table has the function
pub unreachable-requires : goal.unreachable-requires
unreachable-requires c = c.requires.there (subst {A = List ℕ} (λ name. Contains c.args.names.now name → ⊥) c.as_str.ensures c.in_default.ensures.absent)

pub section_of-requires-clause-places : goal.section_of-requires-clause-places
section_of-requires-clause-places c = ap length c.as_slice.ensures.value ∙ c.requires.places
