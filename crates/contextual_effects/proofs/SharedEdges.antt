-- The edges that systems have in common: from what a point uses, what it calls, or its function, to a point; and from a
-- point to the calls of what a point calls.
use Rattle.std.proofs.Common.{◌≡◌, ℕ, ◌+◌, ◌≤◌, Bool, true, List, Option, Some, length, refl, sym, ap, ◌∙◌, arith}
use Rattle.std.specs.Prelude.{Contains, not, ◌==◌, slice_get}
use Rattle.std.proofs.lemmas.Bool.Decides.{nat_tests}
use Rattle.c_tree.specs.BareExpr.{Bytes}
use Rattle.c_semantics.specs.Store.{Body}
use Rattle.effects.specs.Sites.{Site, IsOf, IsReturn, Next, after_call}
use Rattle.effect_flow.specs.declared.flow.FlowPoint.{FlowPoint}
use Rattle.effect_flow.specs.declared.flow.Way.{Way}
use Rattle.effect_flow.specs.Parts.{Contents}
use Rattle.effect_flow.specs.Flows.{place_of, points_before}
use Rattle.effect_flow.proofs.Places.{place_of_point}
use Rattle.effect_flow.proofs.FlowPoints.{at_place, is_of_at, return_at, after_call_place, after_call_at, place_if_from, place_if_to, way_at, next_is_way}
use Rattle.effect_flow.proofs.Ways.{way}
use Rattle.set_constraints.specs.declared.constraint.Edge.{Edge}
use Rattle.contextual_effects.specs.declared.constraints.System.{System}
use Rattle.contextual_effects.specs.Edges.{in_block, edge_if, is_return, continues, of_point, between, edges_of}
use Rattle.effects.proofs.Systems.{Node, At, Calls, Whole, Name}
use Rattle.contextual_effects.proofs.Numbering.{InBlock, NodeCode}
use Rattle.contextual_effects.proofs.Numbering as code
use Rattle.effects.proofs.Points.{IsPoint}
use Rattle.contextual_effects.proofs.EdgeLists.{edge, edge_is, is_edge, SomeIs, OfWay, point_has_edge, way_has_edge}
use Rattle.contextual_effects.proofs.NodesOfPoints.{Setting, within, Aspect, stands, taken, Here, here, PointOf, point_of, returns_at, return_is}
use Rattle.contextual_effects.proofs.EdgesOfNodes.{Code, EdgeTaken}
use Rattle.contextual_effects.proofs.Fitting.{continues_at}

-- nodes of names in a block of numbers
pub record IsBlock (bodies : List Body) (names : List Bytes) (points ids start : ℕ) (N : Bytes → Node) : Type 0 where
  pub code : (f : Bytes) (n : ℕ) → InBlock names ids start f n → Code bodies names points ids (N f) n

pub calls : {bodies : List Body} {names : List Bytes} {points ids : ℕ} → IsBlock bodies names points ids points Calls
calls = record { code = λ f n x. code.of_calls f n x }

pub functions : {bodies : List Body} {names : List Bytes} {points ids : ℕ} → IsBlock bodies names points ids (points + ids) Whole
functions = record { code = λ f n x. code.NodeCode.of_function f n x }

pub all_names : {bodies : List Body} {names : List Bytes} {points ids : ℕ} → IsBlock bodies names points ids (points + ids + ids) Name
all_names = record { code = λ f n x. code.of_name f n x }

-- an edge to the point q: a condition holds, and something is said of the name of its other end
pub record ToPoint (bodies : List Body) (names : List Bytes) (points ids : ℕ) (c : Bool) (N : Bytes → Node) (In : Bytes → Type 0)
    (q : Site) (e : Edge) : Type 0 where
  pub holds : c ≡ true
  pub name : Bytes
  pub said : In name
  pub from : Code bodies names points ids (N name) e.from
  pub to : Code bodies names points ids (At q) e.to

pub to_point : {bodies : List Body} {names : List Bytes} {points ids start : ℕ} {N : Bytes → Node} {o : Option ℕ} {In : Bytes → Type 0}
    → ids ≤ length names → IsBlock bodies names points ids start N → Aspect names ids o In
    → (c : Bool) (q : Site) (j : ℕ) (e : Edge) → place_of bodies q ≡ Some j → edge_if c (in_block start o) (Some j) ≡ Some e
    → ToPoint bodies names points ids c N In q e
to_point {start = start} {o = o} within block a c q j e place is =
    let k = edge_is c (in_block start o) (Some j) e is in
    let x = stands start e.from within a k.from in
    record {
      holds = k.holds;
      name = x.name;
      said = x.said;
      from = block.code x.name e.from x.number;
      to = code.of_point q e.to (place ∙ k.to);
    }

-- an edge from the point q
pub record FromPoint (bodies : List Body) (names : List Bytes) (points ids : ℕ) (c : Bool) (N : Bytes → Node) (In : Bytes → Type 0)
    (q : Site) (e : Edge) : Type 0 where
  pub holds : c ≡ true
  pub name : Bytes
  pub said : In name
  pub from : Code bodies names points ids (At q) e.from
  pub to : Code bodies names points ids (N name) e.to

pub from_point : {bodies : List Body} {names : List Bytes} {points ids start : ℕ} {N : Bytes → Node} {o : Option ℕ} {In : Bytes → Type 0}
    → ids ≤ length names → IsBlock bodies names points ids start N → Aspect names ids o In
    → (c : Bool) (q : Site) (j : ℕ) (e : Edge) → place_of bodies q ≡ Some j → edge_if c (Some j) (in_block start o) ≡ Some e
    → FromPoint bodies names points ids c N In q e
from_point {start = start} {o = o} within block a c q j e place is =
    let k = edge_is c (Some j) (in_block start o) e is in
    let x = stands start e.to within a k.to in
    record {
      holds = k.holds;
      name = x.name;
      said = x.said;
      from = code.of_point q e.from (place ∙ k.from);
      to = block.code x.name e.to x.number;
    }

-- the other way round
pub record EdgeAt (bodies : List Body) (names : List Bytes) (points ids : ℕ) (c : Bool) (o r : Option ℕ) (a b : Node) : Type 0 where
  pub m : ℕ
  pub n : ℕ
  pub from : Code bodies names points ids a m
  pub to : Code bodies names points ids b n
  pub is : edge_if c o r ≡ Some (edge m n)

pub to_point_at : {bodies : List Body} {names : List Bytes} {points ids start : ℕ} {N : Bytes → Node} {o : Option ℕ} {In : Bytes → Type 0}
    → IsBlock bodies names points ids start N → Aspect names ids o In
    → (c : Bool) (q : Site) (j : ℕ) (z : Bytes) → c ≡ true → place_of bodies q ≡ Some j → In z
    → EdgeAt bodies names points ids c (in_block start o) (Some j) (N z) (At q)
to_point_at {start = start} {o = o} block a c q j z holds place said =
    let x = taken start z a said in
    record {
      m = x.m;
      n = j;
      from = block.code z x.m x.number;
      to = code.of_point q j place;
      is = is_edge c (in_block start o) (Some j) x.m j holds x.is refl;
    }

pub from_point_at : {bodies : List Body} {names : List Bytes} {points ids start : ℕ} {N : Bytes → Node} {o : Option ℕ} {In : Bytes → Type 0}
    → IsBlock bodies names points ids start N → Aspect names ids o In
    → (c : Bool) (q : Site) (j : ℕ) (z : Bytes) → c ≡ true → place_of bodies q ≡ Some j → In z
    → EdgeAt bodies names points ids c (Some j) (in_block start o) (At q) (N z)
from_point_at {start = start} {o = o} block a c q j z holds place said =
    let x = taken start z a said in
    record {
      m = j;
      n = x.m;
      from = code.of_point q j place;
      to = block.code z x.m x.number;
      is = is_edge c (Some j) (in_block start o) j x.m holds refl x.is;
    }

-- a return is one of the function of its body
pub return_of : {names : List Bytes} {bodies : List Body} {flow : Contents} {ids : ℕ} {p : Site} {i : ℕ} {x : FlowPoint} (f : Bytes)
    → Here names bodies flow ids p i x → is_return x.point.kind ≡ true → IsOf bodies p f → IsReturn bodies p f
return_of {x = x} f h e of = (return_at f h.at).1 (returns_at x.point.kind e, (is_of_at f h.at).0 of)

pub is_return_of : {names : List Bytes} {bodies : List Body} {flow : Contents} {ids : ℕ} {p : Site} {i : ℕ} {x : FlowPoint} (f : Bytes)
    → Here names bodies flow ids p i x → IsReturn bodies p f → is_return x.point.kind ≡ true
is_return_of {x = x} f h ret = return_is x.point.kind ((return_at f h.at).0 ret).0

-- the point after a call, where there is one
pub after_at : {names : List Bytes} {bodies : List Body} {flow : Contents} {points ids : ℕ} {c : Site} {i : ℕ} {x : FlowPoint}
    → Setting names bodies flow points ids → Here names bodies flow ids c i x → continues (slice_get flow.points (i + 1)) ≡ true
    → place_of bodies (after_call c) ≡ Some (i + 1)
after_at {flow = flow} {i = i} s h e =
    let y = continues_at (slice_get flow.points (i + 1)) e in (after_call_at s.is_flow h.at y.1 y.2).place

pub after_is_at : {names : List Bytes} {bodies : List Body} {flow : Contents} {points ids : ℕ} {c : Site} {i j : ℕ} {x : FlowPoint}
    → Setting names bodies flow points ids → Here names bodies flow ids c i x → place_of bodies (after_call c) ≡ Some j
    → (j ≡ i + 1) × (continues (slice_get flow.points (i + 1)) ≡ true)
after_is_at {names} {bodies} {flow} {ids = ids} {c = c} {i = i} {j = j} s h place = (
  both.0,
  ap (λ j. continues (slice_get flow.points j)) (sym both.0) ∙ ap continues y.here.at.found ∙ later y.point.number both.1,
)
  where
    y : PointOf names bodies flow ids (after_call c) j
    y = point_of {p = after_call c} {i = j} s place

    both : (j ≡ i + 1) × (y.point.number ≡ 0 → ⊥)
    both = after_call_place h.at y.here.at

    later : (n : ℕ) → (n ≡ 0 → ⊥) → not (n == 0) ≡ true
    later n other = grind (arith, nat_tests)

-- the sites of the ends of a way
pub record EndsOf (names : List Bytes) (bodies : List Body) (flow : Contents) (ids : ℕ) (w : Way) (a b : FlowPoint) : Type 0 where
  pub p : Site
  pub q : Site
  pub next : Next bodies p q
  pub from : Here names bodies flow ids p w.from a
  pub to : Here names bodies flow ids q w.to b

pub ends_of : {names : List Bytes} {bodies : List Body} {flow : Contents} {points ids : ℕ} → Setting names bodies flow points ids
    → (system : System) (nested : ℕ) (e : Edge) (y : OfWay system points ids nested flow e) → EndsOf names bodies flow ids y.way y.from y.to
ends_of s system nested e y =
    let w = way_at y.way s.is_flow y.is_way in
    record {
      p = w.p;
      q = w.q;
      next = w.next;
      from = here s (at_place s.is_flow w.from y.at_from);
      to = here s (at_place s.is_flow w.to y.at_to);
    }

-- the way between two sites, and the points at its ends
pub record AtWay (names : List Bytes) (bodies : List Body) (flow : Contents) (ids : ℕ) (p q : Site) : Type 0 where
  pub i : ℕ
  pub j : ℕ
  pub from : PointOf names bodies flow ids p i
  pub to : PointOf names bodies flow ids q j
  pub is_way : Contains flow.ways (way i j)

pub at_way : {names : List Bytes} {bodies : List Body} {flow : Contents} {points ids : ℕ} → Setting names bodies flow points ids
    → (p q : Site) → Next bodies p q → AtWay names bodies flow ids p q
at_way s p q next =
    let i = place_if_from next in
    let j = place_if_to next in
    record {
      i = i.0;
      j = j.0;
      from = point_of {p = p} {i = i.0} s i.1;
      to = point_of {p = q} {i = j.0} s j.1;
      is_way = (next_is_way {p = p} {q = q} s.is_flow i.1 j.1).0 next;
    }

-- an edge of a way, and of a point
pub edge_of_way : {names : List Bytes} {bodies : List Body} {flow : Contents} {points ids : ℕ} {p q : Site} {a b : Node}
    (system : System) (nested : ℕ) (x : AtWay names bodies flow ids p q) (m n : ℕ)
    → Code bodies names points ids a m → Code bodies names points ids b n
    → SomeIs (between system points ids nested (way x.i x.j) x.from.point x.to.point) (edge m n)
    → EdgeTaken bodies names points ids (edges_of system points ids nested flow) a b
edge_of_way {flow = flow} {points = points} {ids = ids} system nested x m n from to is = record {
  m = m;
  n = n;
  from = from;
  to = to;
  contains = way_has_edge system points ids nested flow (edge m n) (record {
    way = way x.i x.j;
    is_way = x.is_way;
    from = x.from.point;
    to = x.to.point;
    at_from = x.from.here.at.found;
    at_to = x.to.here.at.found;
    is = is;
  });
}

pub edge_of_point : {names : List Bytes} {bodies : List Body} {flow : Contents} {points ids : ℕ} {p : Site} {i : ℕ} {a b : Node}
    (system : System) (nested : ℕ) (x : PointOf names bodies flow ids p i) (m n : ℕ)
    → Code bodies names points ids a m → Code bodies names points ids b n
    → SomeIs (of_point system points ids nested flow.points i x.point) (edge m n)
    → EdgeTaken bodies names points ids (edges_of system points ids nested flow) a b
edge_of_point {flow = flow} {points = points} {ids = ids} {i = i} system nested x m n from to is = record {
  m = m;
  n = n;
  from = from;
  to = to;
  contains = point_has_edge system points ids nested flow (edge m n) (record { place = i; point = x.point; at = x.here.at.found; is = is });
}

-- the place of a point
pub place_of_point_at : {bodies : List Body} {p : Site} → IsPoint bodies p → (i : ℕ) × (place_of bodies p ≡ Some i)
place_of_point_at {bodies} {p} x = (points_before bodies p.body + p.point, place_of_point bodies p x.point x.is_point)
