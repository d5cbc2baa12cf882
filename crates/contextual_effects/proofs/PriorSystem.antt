-- The numbered system for prior effects stands for that of `PriorEquations`.
use Rattle.std.proofs.Common.{◌≡◌, ℕ, true, List, Some, inl, inr, length, refl, ◌∙◌}
use Rattle.std.specs.Prelude.{slice_index}
use Rattle.c_tree.specs.BareExpr.{Bytes}
use Rattle.c_semantics.specs.Store.{Body}
use Rattle.effects.specs.Sites.{Site}
use Rattle.effects.specs.Nested.{Inside}
use Rattle.effects.specs.Contextual.{Prior}
use Rattle.effect_flow.specs.Parts.{Contents}
use Rattle.effect_flow.specs.Flows.{place_of}
use Rattle.effect_flow.proofs.FlowPoints.{place_if_of, place_if_kind}
use Rattle.set_constraints.specs.declared.constraint.Edge.{Edge}
use Rattle.contextual_effects.specs.declared.constraints.System.TheVariants as system
use Rattle.contextual_effects.specs.Edges.{is_inside, enters, prior_of_point, prior_of_way, edges_of}
use Rattle.contextual_effects.specs.Effects.{HasNames}
use Rattle.contextual_effects.specs.Steps.{HasNested, AreStandard, AreSetsOf}
use Rattle.effects.proofs.Systems.{Node, At, Calls, Whole, Name, EffectSeed}
use Rattle.effects.proofs.PriorEquations.{PriorEdge, before, used, called, entered, from_calls, at_call, prior_flows}
use Rattle.contextual_effects.proofs.Encoding.{Encodes}
use Rattle.contextual_effects.proofs.Numbering as code
use Rattle.contextual_effects.proofs.Seeds.{AreEffectSeeds, effect_seeds_stand, effect_seeds_taken}
use Rattle.contextual_effects.proofs.SeedLists.{effect_seeds}
use Rattle.contextual_effects.proofs.EdgeLists.{edge_is, is_edge, SomeIs, OfPoint, OfWay, edges_are}
use Rattle.contextual_effects.proofs.NodesOfPoints.{Setting, within, used_aspect, called_aspect, own_aspect, SiteOf, site_of, point_of, inside_at, enters_at, enters_where}
use Rattle.contextual_effects.proofs.EdgesOfNodes.{Code, EdgeStands, edge_stands, EdgeTaken, encodes, has_names}
use Rattle.contextual_effects.proofs.SharedEdges.{calls, functions, all_names, to_point, from_point, to_point_at, from_point_at, EndsOf, ends_of, at_way, edge_of_way, edge_of_point}

point_stands : {names : List Bytes} {bodies : List Body} {flow : Contents} {points ids : ℕ} → Setting names bodies flow points ids
    → (nested : ℕ) → HasNested names bodies nested → (e : Edge) → OfPoint system.Prior points ids nested flow e
    → EdgeStands bodies names points ids (PriorEdge bodies) e
point_stands {names} {bodies} {flow} {points} {ids} s nested n e y = by y.is
  where
    q : SiteOf names bodies flow ids y.place y.point
    q = site_of s y.at

    by : SomeIs (prior_of_point points ids nested y.place y.point) e → EdgeStands bodies names points ids (PriorEdge bodies) e
    by (inl h) =
        let k = to_point (within s) all_names (own_aspect ids q.here.at q.here.known) (enters nested y.point) q.site y.place e q.here.at.place h in
        let x = enters_at k.name q.here n k.holds k.said in
        edge_stands (Name k.name) (At q.site) k.from k.to (entered q.site k.name x.entry x.nested)
    by (inr (inl h)) =
        let k = to_point (within s) calls (own_aspect ids q.here.at q.here.known) (enters nested y.point) q.site y.place e q.here.at.place h in
        let x = enters_at k.name q.here n k.holds k.said in
        edge_stands (Calls k.name) (At q.site) k.from k.to (from_calls q.site k.name x.entry x.nested)
    by (inr (inr (inl h))) =
        let k = from_point (within s) calls (called_aspect ids q.here.at q.here.known) (is_inside nested y.point) q.site y.place e q.here.at.place h in
        edge_stands (At q.site) (Calls k.name) k.from k.to (at_call q.site k.name k.said ((inside_at (within s) q.here n).0 k.holds))
    by (inr (inr (inr (inl h)))) = cc
    by (inr (inr (inr (inr h)))) = absurd h

way_stands : {names : List Bytes} {bodies : List Body} {flow : Contents} {points ids : ℕ} → Setting names bodies flow points ids
    → (nested : ℕ) → HasNested names bodies nested → (e : Edge) → OfWay system.Prior points ids nested flow e
    → EdgeStands bodies names points ids (PriorEdge bodies) e
way_stands {names} {bodies} {flow} {points} {ids} s nested n e y = by y.is
  where
    x : EndsOf names bodies flow ids y.way y.from y.to
    x = ends_of s system.Prior nested e y

    inside : is_inside nested y.to ≡ true → Inside bodies x.q
    inside = (inside_at (within s) x.to n).0

    by : SomeIs (prior_of_way points ids nested y.way y.from y.to) e → EdgeStands bodies names points ids (PriorEdge bodies) e
    by (inl h) =
        let k = edge_is (is_inside nested y.to) (Some y.way.from) (Some y.way.to) e h in
        edge_stands (At x.p) (At x.q) (code.of_point x.p e.from (x.from.at.place ∙ k.from)) (code.of_point x.q e.to (x.to.at.place ∙ k.to))
        (before x.p x.q (inside k.holds) x.next)
    by (inr (inl h)) =
        let k = to_point (within s) all_names (used_aspect ids x.from.at x.from.known) (is_inside nested y.to) x.q y.way.to e x.to.at.place h in
        edge_stands (Name k.name) (At x.q) k.from k.to (used x.p x.q k.name (inside k.holds) x.next k.said)
    by (inr (inr (inl h))) =
        let k = to_point (within s) functions (called_aspect ids x.from.at x.from.known) (is_inside nested y.to) x.q y.way.to e x.to.at.place h in
        edge_stands (Whole k.name) (At x.q) k.from k.to (called x.p x.q k.name (inside k.holds) x.next k.said)
    by (inr (inr (inr h))) = absurd h

edge_taken : {names : List Bytes} {bodies : List Body} {flow : Contents} {points ids : ℕ} → Setting names bodies flow points ids
    → (nested : ℕ) → HasNested names bodies nested → (a b : Node) → PriorEdge bodies a b
    → EdgeTaken bodies names points ids (edges_of system.Prior points ids nested flow) a b
edge_taken s nested n _ _ (before p q inside next) =
    let w = at_way s p q next in
    let c : is_inside nested w.to.point ≡ true = (inside_at (within s) w.to.here n).1 inside in
    edge_of_way system.Prior nested w w.i w.j (code.of_point p w.i w.from.here.at.place) (code.of_point q w.j w.to.here.at.place)
    (inl (is_edge (is_inside nested w.to.point) (Some w.i) (Some w.j) w.i w.j c refl refl))
edge_taken {ids = ids} s nested n _ _ (used p q u inside next uses) =
    let w = at_way s p q next in
    let c : is_inside nested w.to.point ≡ true = (inside_at (within s) w.to.here n).1 inside in
    let x = to_point_at all_names (used_aspect ids w.from.here.at w.from.here.known) (is_inside nested w.to.point) q w.j u c w.to.here.at.place uses in
    edge_of_way system.Prior nested w x.m x.n x.from x.to (inr (inl x.is))
edge_taken {ids = ids} s nested n _ _ (called p q f inside next call) =
    let w = at_way s p q next in
    let c : is_inside nested w.to.point ≡ true = (inside_at (within s) w.to.here n).1 inside in
    let x = to_point_at functions (called_aspect ids w.from.here.at w.from.here.known) (is_inside nested w.to.point) q w.j f c w.to.here.at.place call in
    edge_of_way system.Prior nested w x.m x.n x.from x.to (inr (inr (inl x.is)))
edge_taken {ids = ids} s nested n _ _ (entered p f entry is_nested) =
    let place = place_if_of entry.is_of in
    let q = point_of {p = p} {i = place.0} s place.1 in
    let x = to_point_at all_names (own_aspect ids q.here.at q.here.known) (enters nested q.point) p place.0 f
    (enters_where f q.here n entry is_nested) place.1 entry.is_of in
    edge_of_point system.Prior nested q x.m x.n x.from x.to (inl x.is)
edge_taken {ids = ids} s nested n _ _ (from_calls p f entry is_nested) =
    let place = place_if_of entry.is_of in
    let q = point_of {p = p} {i = place.0} s place.1 in
    let x = to_point_at calls (own_aspect ids q.here.at q.here.known) (enters nested q.point) p place.0 f
    (enters_where f q.here n entry is_nested) place.1 entry.is_of in
    edge_of_point system.Prior nested q x.m x.n x.from x.to (inr (inl x.is))
edge_taken {ids = ids} s nested n _ _ (at_call p f call inside) =
    let place = place_if_kind call in
    let q = point_of {p = p} {i = place.0} s place.1 in
    let x = from_point_at calls (called_aspect ids q.here.at q.here.known) (is_inside nested q.point) p place.0 f
    ((inside_at (within s) q.here n).1 inside) place.1 call in
    edge_of_point system.Prior nested q x.m x.n x.from x.to (inr (inr (inl x.is)))

-- the sets of the system are the prior effects
pub prior_effect : {names : List Bytes} {bodies : List Body} {flow : Contents} {points ids : ℕ} {whole sets : List ℕ} (nested : ℕ)
    → Setting names bodies flow points ids → HasNested names bodies nested → length whole ≡ ids → AreStandard names bodies whole
    → AreSetsOf system.Prior points ids nested whole flow sets
    → (p : Site) (i : ℕ) → place_of bodies p ≡ Some i → HasNames names (slice_index sets i) (Prior bodies p)
prior_effect {names} {bodies} {flow} {points} {ids} {whole} {sets} nested s n many standard k p i place =
    has_names bodies encoding (At p) i (code.of_point p i place) sets k.least (prior_flows bodies p)
  where
    seeds : AreEffectSeeds bodies names points ids k.seeds
    seeds = effect_seeds many standard k.are_seeds

    encoding : Encodes (Code bodies names points ids) (EffectSeed bodies) (PriorEdge bodies) names k.seeds (edges_of system.Prior points ids nested flow)
    encoding = encodes s (record {
      seeds_stand = effect_seeds_stand (within s) seeds;
      seeds_taken = effect_seeds_taken seeds;
      edges_stand = λ e has. elim (edges_are system.Prior points ids nested flow e has) [
        | inl y ↦ point_stands s nested n e y
        | inr y ↦ way_stands s nested n e y
      ];
      edges_taken = λ a b z is more. edge_taken s nested n a b is;
    })
