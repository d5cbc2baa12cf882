-- The numbered system for concrete effects stands for that of `ConcreteEquations`.
use Rattle.std.proofs.Common.{◌≡◌, ℕ, ◌+◌, true, List, Some, inl, inr, refl, ap, ◌∙◌}
use Rattle.std.specs.Prelude.{slice_get, slice_index}
use Rattle.c_tree.specs.BareExpr.{Bytes}
use Rattle.c_semantics.specs.Store.{Body}
use Rattle.skeletons.specs.Meaning.{called_at}
use Rattle.effects.specs.Sites.{Site, after_call}
use Rattle.effects.specs.Concrete.{Concrete}
use Rattle.effect_flow.specs.Parts.{Contents}
use Rattle.effect_flow.specs.Flows.{place_of}
use Rattle.effect_flow.proofs.FlowPoints.{place_if_of, place_if_kind, place_if_uses}
use Rattle.set_constraints.specs.declared.constraint.Edge.{Edge}
use Rattle.contextual_effects.specs.declared.constraints.System.TheVariants as system
use Rattle.contextual_effects.specs.Edges.{in_block, is_return, continues, concrete_of_point, back_of_way, edges_of}
use Rattle.contextual_effects.specs.Effects.{HasNames}
use Rattle.contextual_effects.specs.Steps.{AreNone, AreSetsOf}
use Rattle.effects.proofs.Systems.{Node, At, Calls, Name, NameSeed}
use Rattle.effects.proofs.ConcreteEquations.{ConcreteEdge, used, later, returned, after, ConcreteFlows, concrete_flows}
use Rattle.contextual_effects.proofs.Encoding.{Encodes}
use Rattle.contextual_effects.proofs.Numbering as code
use Rattle.effects.proofs.Points.{concrete_is_point}
use Rattle.contextual_effects.proofs.Seeds.{AreNameSeeds, name_seeds_stand, name_seeds_taken}
use Rattle.contextual_effects.proofs.SeedLists.{name_seeds}
use Rattle.contextual_effects.proofs.EdgeLists.{edge_is, is_edge, SomeIs, OfPoint, OfWay, edges_are}
use Rattle.contextual_effects.proofs.NodesOfPoints.{Setting, within, used_aspect, called_aspect, own_aspect, SiteOf, site_of, point_of}
use Rattle.contextual_effects.proofs.EdgesOfNodes.{Code, EdgeStands, edge_stands, EdgeTaken, encodes, has_names}
use Rattle.contextual_effects.proofs.SharedEdges.{calls, all_names, to_point, from_point, to_point_at, from_point_at, return_of, is_return_of, after_at, after_is_at, EndsOf, ends_of, at_way, edge_of_way, edge_of_point, place_of_point_at}

point_stands : {names : List Bytes} {bodies : List Body} {flow : Contents} {points ids : ℕ} → Setting names bodies flow points ids
    → (nested : ℕ) → (e : Edge) → OfPoint system.Concrete points ids nested flow e
    → EdgeStands bodies names points ids (ConcreteEdge bodies) e
point_stands {names} {bodies} {flow} {points} {ids} s nested e y = by y.is
  where
    q : SiteOf names bodies flow ids y.place y.point
    q = site_of s y.at

    by : SomeIs (concrete_of_point points ids flow.points y.place y.point) e → EdgeStands bodies names points ids (ConcreteEdge bodies) e
    by (inl h) =
        let k = to_point (within s) all_names (used_aspect ids q.here.at q.here.known) true q.site y.place e q.here.at.place h in
        edge_stands (Name k.name) (At q.site) k.from k.to (used q.site k.name k.said)
    by (inr (inl h)) = cc
    by (inr (inr (inl h))) =
        let k = to_point (within s) calls (own_aspect ids q.here.at q.here.known) (is_return y.point.point.kind) q.site y.place e q.here.at.place h in
        edge_stands (Calls k.name) (At q.site) k.from k.to (returned q.site k.name (return_of k.name q.here k.holds k.said))
    by (inr (inr (inr (inl h)))) =
        let goes = (edge_is (continues (slice_get flow.points (y.place + 1))) (Some (y.place + 1)) (in_block points (called_at y.point.point.kind)) e h).holds in
        let k = from_point (within s) calls (called_aspect ids q.here.at q.here.known) (continues (slice_get flow.points (y.place + 1)))
        (after_call q.site) (y.place + 1) e (after_at s q.here goes) h in
        edge_stands (At (after_call q.site)) (Calls k.name) k.from k.to (after q.site k.name k.said)
    by (inr (inr (inr (inr h)))) = absurd h

way_stands : {names : List Bytes} {bodies : List Body} {flow : Contents} {points ids : ℕ} → Setting names bodies flow points ids
    → (nested : ℕ) → (e : Edge) → OfWay system.Concrete points ids nested flow e
    → EdgeStands bodies names points ids (ConcreteEdge bodies) e
way_stands {names} {bodies} {flow} {points} {ids} s nested e y = by y.is
  where
    x : EndsOf names bodies flow ids y.way y.from y.to
    x = ends_of s system.Concrete nested e y

    by : SomeIs (back_of_way true y.way) e → EdgeStands bodies names points ids (ConcreteEdge bodies) e
    by (inl h) =
        let k = edge_is true (Some y.way.to) (Some y.way.from) e h in
        edge_stands (At x.q) (At x.p) (code.of_point x.q e.from (x.to.at.place ∙ k.from)) (code.of_point x.p e.to (x.from.at.place ∙ k.to))
        (later x.p x.q x.next)
    by (inr (inl h)) = cc
    by (inr (inr (inl h))) = cc
    by (inr (inr (inr h))) = absurd h

edge_taken : {names : List Bytes} {bodies : List Body} {flow : Contents} {points ids : ℕ} → Setting names bodies flow points ids
    → (nested : ℕ) → (a b : Node) (z : Bytes) → ConcreteEdge bodies a b → ConcreteFlows bodies a z
    → EdgeTaken bodies names points ids (edges_of system.Concrete points ids nested flow) a b
edge_taken {ids = ids} s nested _ _ z (used p u uses) more =
    let place = place_if_uses uses in
    let q = point_of {p = p} {i = place.0} s place.1 in
    let x = to_point_at all_names (used_aspect ids q.here.at q.here.known) true p place.0 u refl place.1 uses in
    edge_of_point system.Concrete nested q x.m x.n x.from x.to (inl x.is)
edge_taken {ids = ids} s nested _ _ z (later p q next) more =
    let w = at_way s p q next in
    edge_of_way system.Concrete nested w w.j w.i (code.of_point q w.j w.to.here.at.place) (code.of_point p w.i w.from.here.at.place)
    (inl (is_edge true (Some w.j) (Some w.i) w.j w.i refl refl refl))
edge_taken {ids = ids} s nested _ _ z (returned p f ret) more =
    let place = place_if_of ret.is_of in
    let q = point_of {p = p} {i = place.0} s place.1 in
    let x = to_point_at calls (own_aspect ids q.here.at q.here.known) (is_return q.point.point.kind) p place.0 f (is_return_of f q.here ret) place.1 ret.is_of in
    edge_of_point system.Concrete nested q x.m x.n x.from x.to (inr (inr (inl x.is)))
edge_taken {bodies = bodies} {flow = flow} {ids = ids} s nested _ _ z (after p f call) more =
    let place = place_if_kind call in
    let q = point_of {p = p} {i = place.0} s place.1 in
    let there = place_of_point_at (concrete_is_point bodies (after_call p) z ((concrete_flows bodies (after_call p) z).0 more)) in
    let goes = after_is_at {j = there.0} s q.here there.1 in
    let x = from_point_at calls (called_aspect ids q.here.at q.here.known) (continues (slice_get flow.points (place.0 + 1)))
    (after_call p) (place.0 + 1) f goes.1 (there.1 ∙ ap Some goes.0) call in
    edge_of_point system.Concrete nested q x.m x.n x.from x.to (inr (inr (inr (inl x.is))))

-- the sets of the system are the concrete effects
pub concrete_effect : {names : List Bytes} {bodies : List Body} {flow : Contents} {points ids : ℕ} {whole sets : List ℕ} (nested : ℕ)
    → Setting names bodies flow points ids → AreNone ids whole
    → AreSetsOf system.Concrete points ids nested whole flow sets
    → (p : Site) (i : ℕ) → place_of bodies p ≡ Some i → HasNames names (slice_index sets i) (Concrete bodies p)
concrete_effect {names} {bodies} {flow} {points} {ids} {whole} {sets} nested s none k p i place =
    has_names bodies encoding (At p) i (code.of_point p i place) sets k.least (concrete_flows bodies p)
  where
    seeds : AreNameSeeds points ids k.seeds
    seeds = name_seeds none k.are_seeds

    encoding : Encodes (Code bodies names points ids) NameSeed (ConcreteEdge bodies) names k.seeds (edges_of system.Concrete points ids nested flow)
    encoding = encodes s (record {
      seeds_stand = name_seeds_stand (within s) seeds;
      seeds_taken = name_seeds_taken seeds;
      edges_stand = λ e has. elim (edges_are system.Concrete points ids nested flow e has) [
        | inl y ↦ point_stands s nested e y
        | inr y ↦ way_stands s nested e y
      ];
      edges_taken = λ a b z is more. edge_taken s nested a b z is more;
    })
