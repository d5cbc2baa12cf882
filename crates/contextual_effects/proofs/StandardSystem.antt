-- The numbered system for standard effects stands for that of `StandardEquations`.
use Rattle.std.proofs.Common.{◌≡◌, ℕ, ◌+◌, ◌<◌, true, List, [], ◌∷◌, Some, None, inl, inr, refl, arith}
use Rattle.std.specs.Prelude.{slice_get, slice_index}
use Rattle.c_tree.specs.BareExpr.{Bytes}
use Rattle.c_semantics.specs.Store.{Body}
use Rattle.skeletons.specs.Meaning.{used_at, called_at}
use Rattle.effects.specs.Sites.{Site, IsOf}
use Rattle.effects.specs.Standard.{Standard}
use Rattle.effects.specs.Standard as standard
use Rattle.effect_flow.specs.Parts.{Contents}
use Rattle.effect_flow.proofs.FlowPoints.{place_if_of}
use Rattle.set_constraints.specs.declared.constraint.Edge.{Edge}
use Rattle.contextual_effects.specs.declared.constraints.System.TheVariants as system
use Rattle.contextual_effects.specs.Edges.{in_block, standard_of_point, edges_of}
use Rattle.contextual_effects.specs.Effects.{HasNames}
use Rattle.contextual_effects.specs.Steps.{AreNone, AreSetsOf}
use Rattle.effects.proofs.Systems.{Node, Whole, Name, NameSeed}
use Rattle.effects.proofs.StandardEquations.{StandardEdge, used, called, standard_flows}
use Rattle.contextual_effects.proofs.Encoding.{Encodes}
use Rattle.contextual_effects.proofs.Numbering.{ArePlaces, InBlock, NodeCode, of_name}
use Rattle.contextual_effects.proofs.Numbering as code
use Rattle.contextual_effects.proofs.Seeds.{AreNameSeeds, name_seeds_stand, name_seeds_taken}
use Rattle.contextual_effects.proofs.EdgeLists.{edge, edge_is, is_edge, SomeIs, OfPoint, OfWay, edges_are, point_has_edge}
use Rattle.contextual_effects.proofs.NodesOfPoints.{Setting, within, Aspect, stands, taken, used_aspect, called_aspect, own_aspect, SiteOf, site_of, point_of}
use Rattle.contextual_effects.proofs.EdgesOfNodes.{Code, EdgeStands, edge_stands, EdgeTaken, encodes, has_names}
use Rattle.contextual_effects.proofs.SeedLists.{name_seeds}

point_stands : {names : List Bytes} {bodies : List Body} {flow : Contents} {points ids : ℕ} → Setting names bodies flow points ids
    → (nested : ℕ) (e : Edge) → OfPoint system.Standard points ids nested flow e
    → EdgeStands bodies names points ids (StandardEdge bodies) e
point_stands {names} {bodies} {flow} {points} {ids} s nested e y = by y.is
  where
    q : SiteOf names bodies flow ids y.place y.point
    q = site_of s y.at

    own : Aspect names ids (Some y.point.function) (IsOf bodies q.site)
    own = own_aspect ids q.here.at q.here.known

    by : SomeIs (standard_of_point points ids y.point) e → EdgeStands bodies names points ids (StandardEdge bodies) e
    by (inl h) =
        let k = edge_is true (in_block (points + ids + ids) (used_at y.point.point.kind)) (in_block (points + ids) (Some y.point.function)) e h in
        let u = stands (points + ids + ids) e.from (within s) (used_aspect ids q.here.at q.here.known) k.from in
        let g = stands (points + ids) e.to (within s) own k.to in
        edge_stands (Name u.name) (Whole g.name) (code.of_name u.name e.from u.number) (code.NodeCode.of_function g.name e.to g.number)
        (used u.name g.name q.site g.said u.said)
    by (inr (inl h)) =
        let k = edge_is true (in_block (points + ids) (called_at y.point.point.kind)) (in_block (points + ids) (Some y.point.function)) e h in
        let f = stands (points + ids) e.from (within s) (called_aspect ids q.here.at q.here.known) k.from in
        let g = stands (points + ids) e.to (within s) own k.to in
        edge_stands (Whole f.name) (Whole g.name) (code.NodeCode.of_function f.name e.from f.number) (code.NodeCode.of_function g.name e.to g.number)
        (called f.name g.name q.site g.said f.said)
    by (inr (inr (inl h))) = cc
    by (inr (inr (inr (inl h)))) = cc
    by (inr (inr (inr (inr h)))) = absurd h

edge_taken : {names : List Bytes} {bodies : List Body} {flow : Contents} {points ids : ℕ} → Setting names bodies flow points ids
    → (nested : ℕ) (a b : Node) → StandardEdge bodies a b
    → EdgeTaken bodies names points ids (edges_of system.Standard points ids nested flow) a b
edge_taken {names} {bodies} {flow} {points} {ids} s nested _ _ (used u g p of uses) =
    let place = place_if_of of in
    let q = point_of {p = p} {i = place.0} s place.1 in
    let x = taken (points + ids + ids) u (used_aspect ids q.here.at q.here.known) uses in
    let y = taken (points + ids) g (own_aspect ids q.here.at q.here.known) of in
    record {
      m = x.m;
      n = y.m;
      from = code.of_name u x.m x.number;
      to = code.NodeCode.of_function g y.m y.number;
      contains = point_has_edge system.Standard points ids nested flow (edge x.m y.m) (record {
        place = place.0;
        point = q.point;
        at = q.here.at.found;
        is = inl (is_edge true (in_block (points + ids + ids) (used_at q.point.point.kind)) (in_block (points + ids) (Some q.point.function)) x.m y.m refl x.is y.is);
      });
    }
edge_taken {names} {bodies} {flow} {points} {ids} s nested _ _ (called f g p of call) =
    let place = place_if_of of in
    let q = point_of {p = p} {i = place.0} s place.1 in
    let x = taken (points + ids) f (called_aspect ids q.here.at q.here.known) call in
    let y = taken (points + ids) g (own_aspect ids q.here.at q.here.known) of in
    record {
      m = x.m;
      n = y.m;
      from = code.NodeCode.of_function f x.m x.number;
      to = code.NodeCode.of_function g y.m y.number;
      contains = point_has_edge system.Standard points ids nested flow (edge x.m y.m) (record {
        place = place.0;
        point = q.point;
        at = q.here.at.found;
        is = inr (inl (is_edge true (in_block (points + ids) (called_at q.point.point.kind)) (in_block (points + ids) (Some q.point.function)) x.m y.m refl x.is y.is));
      });
    }

way_stands : {bodies : List Body} {names : List Bytes} {flow : Contents} {points ids : ℕ} (nested : ℕ) (e : Edge)
    → OfWay system.Standard points ids nested flow e → EdgeStands bodies names points ids (StandardEdge bodies) e
way_stands {bodies} {names} {points = points} {ids = ids} nested e y = by y.is
  where
    by : SomeIs (None ∷ None ∷ None ∷ []) e → EdgeStands bodies names points ids (StandardEdge bodies) e
    by (inl h) = cc
    by (inr (inl h)) = cc
    by (inr (inr (inl h))) = cc
    by (inr (inr (inr h))) = absurd h

-- the sets of the system are the standard effects
pub standard_effect : {names : List Bytes} {bodies : List Body} {flow : Contents} {points ids : ℕ} {whole sets : List ℕ} (nested : ℕ)
    → Setting names bodies flow points ids → AreNone ids whole → AreSetsOf system.Standard points ids nested whole flow sets
    → (f : Bytes) (n : ℕ) → InBlock names ids (points + ids) f n → HasNames names (slice_index sets n) (Standard bodies f)
standard_effect {names} {bodies} {flow} {points} {ids} {whole} {sets} nested s none k f n number =
    has_names bodies encoding (Whole f) n (code.NodeCode.of_function f n number) sets k.least (standard_flows bodies f)
  where
    seeds : AreNameSeeds points ids k.seeds
    seeds = name_seeds none k.are_seeds

    encoding : Encodes (Code bodies names points ids) NameSeed (StandardEdge bodies) names k.seeds (edges_of system.Standard points ids nested flow)
    encoding = encodes s (record {
      seeds_stand = name_seeds_stand (within s) seeds;
      seeds_taken = name_seeds_taken seeds;
      edges_stand = λ e has. elim (edges_are system.Standard points ids nested flow e has) [
        | inl y ↦ point_stands s nested e y
        | inr y ↦ way_stands nested e y
      ];
      edges_taken = λ a b z is more. edge_taken s nested a b is;
    })

-- a function whose bodies have points has an id below that of the flow
function_is_below : {names : List Bytes} {bodies : List Body} {flow : Contents} {points ids : ℕ} → Setting names bodies flow points ids
    → (p : Site) (f : Bytes) (i : ℕ) → slice_get names i ≡ Some f → IsOf bodies p f → i < ids
function_is_below {names} {ids = ids} s p f i named of =
    let place = place_if_of of in
    let q = point_of {p = p} {i = place.0} s place.1 in
    let y = taken 0 f (own_aspect ids q.here.at q.here.known) of in
    let same : y.number.id ≡ i = s.is_flow.table.distinct y.number.id i f y.number.named named in
    let l : y.number.id < ids = y.number.below in
    omega arith

-- and so has each function that has a standard effect
pub standard_is_below : {names : List Bytes} {bodies : List Body} {flow : Contents} {points ids : ℕ} → Setting names bodies flow points ids
    → (f z : Bytes) (i : ℕ) → slice_get names i ≡ Some f → Standard bodies f z → i < ids
standard_is_below s _ _ i named (standard.used f z p of uses) = function_is_below s p f i named of
standard_is_below s _ _ i named (standard.Standard.called f g z c of call more) = function_is_below s c f i named of
