-- The numbered system for nested functions stands for that of `NestedEquations`.
use Rattle.std.proofs.Common.{◌≡◌, ◌↔◌, ℕ, ◌<◌, true, List, [], ◌∷◌, Some, None, inl, inr, refl, sym, ap, ◌∙◌, subst, arith}
use Rattle.std.specs.Prelude.{Contains, nat_lt, slice_get, slice_index}
use Rattle.std.proofs.lemmas.Bool.Decides.{nat_tests}
use Rattle.std.proofs.lemmas.Option.{slice_get_within, same_Some}
use Rattle.name_sets.specs.IdSet.{Holds}
use Rattle.c_tree.specs.BareExpr.{Bytes}
use Rattle.c_semantics.specs.Store.{Body}
use Rattle.skeletons.specs.Meaning.{called_at}
use Rattle.effects.specs.Sites.{Site, IsCall}
use Rattle.effects.specs.Nested.{Nested}
use Rattle.effects.specs.Nested as rule
use Rattle.effect_flow.specs.Parts.{Contents}
use Rattle.effect_flow.proofs.FlowPoints.{place_if_kind, enclosed_at}
use Rattle.set_constraints.specs.declared.constraint.Edge.{Edge}
use Rattle.set_constraints.specs.Constraints.{Reaches}
use Rattle.contextual_effects.specs.declared.constraints.System.TheVariants as system
use Rattle.contextual_effects.specs.Edges.{in_block, nested_of_point, edges_of}
use Rattle.contextual_effects.specs.Steps.{AreTokens, IsMarked, HasNested}
use Rattle.effects.proofs.NestedEquations.{NestedNode, Transactions, Function, TokenSeed, at_transactions, NestedEdge, in_transaction, in_caller, nested_flows}
use Rattle.contextual_effects.proofs.Encoding.{Encodes, IsNamed, reaches_family}
use Rattle.contextual_effects.proofs.Numbering.{InBlock, NestedCode, of_transactions, one_nested_node}
use Rattle.contextual_effects.proofs.Numbering as code
use Rattle.contextual_effects.proofs.EdgeLists.{edge, edge_is, is_edge, SomeIs, OfPoint, OfWay, edges_are, point_has_edge}
use Rattle.contextual_effects.proofs.NodesOfPoints.{Setting, within, Aspect, stands, taken, called_aspect, own_aspect, SiteOf, site_of, point_of}
use Rattle.contextual_effects.proofs.EdgesOfNodes.{one_in_block}
use Rattle.contextual_effects.proofs.SeedLists.{token_at, token_is_at}

-- the table of this system has one name, which is the token

abbrev table : List Bytes
table = [] ∷ []

zero_alone : (i : ℕ) (z : Bytes) → IsNamed table i z → (i ≡ 0) × ([] ≡ z)
zero_alone i z named =
    let l : i < 1 = slice_get_within table i z named in
    let e : 0 ≡ i = omega arith in
    (sym e, same_Some [] z (ap (slice_get table) e ∙ named))

record NestedStands (bodies : List Body) (names : List Bytes) (ids : ℕ) (e : Edge) : Type 0 where
  a : NestedNode
  b : NestedNode
  from : NestedCode names ids a e.from
  to : NestedCode names ids b e.to
  is_edge : NestedEdge bodies a b

point_stands : {names : List Bytes} {bodies : List Body} {flow : Contents} {points ids : ℕ} → Setting names bodies flow points ids
    → (none : ℕ) (e : Edge) → OfPoint system.Nested points ids none flow e → NestedStands bodies names ids e
point_stands {names} {bodies} {flow} {points} {ids} s none e y = by y.is
  where
    q : SiteOf names bodies flow ids y.place y.point
    q = site_of s y.at

    called : Aspect names ids (called_at y.point.point.kind) (IsCall bodies q.site)
    called = called_aspect ids q.here.at q.here.known

    deep : (d : ℕ) → nat_lt 0 d ≡ true → 0 < d
    deep d e = grind (arith, nat_tests)

    by : SomeIs (nested_of_point ids y.point) e → NestedStands bodies names ids e
    by (inl h) =
        let k = edge_is true (in_block 0 (Some y.point.function)) (in_block 0 (called_at y.point.point.kind)) e h in
        let g = stands 0 e.from (within s) (own_aspect ids q.here.at q.here.known) k.from in
        let f = stands 0 e.to (within s) called k.to in
        record {
          a = Function g.name;
          b = Function f.name;
          from = code.NestedCode.of_function g.name e.from g.number;
          to = code.NestedCode.of_function f.name e.to f.number;
          is_edge = in_caller f.name g.name q.site f.said g.said;
        }
    by (inr (inl h)) =
        let k = edge_is (nat_lt 0 y.point.point.depth) (Some ids) (in_block 0 (called_at y.point.point.kind)) e h in
        let f = stands 0 e.to (within s) called k.to in
        record {
          a = Transactions;
          b = Function f.name;
          from = of_transactions e.from (sym (same_Some ids e.from k.from));
          to = code.NestedCode.of_function f.name e.to f.number;
          is_edge = in_transaction f.name q.site f.said ((enclosed_at q.here.at).1 (deep y.point.point.depth k.holds));
        }
    by (inr (inr (inl h))) = cc
    by (inr (inr (inr (inl h)))) = cc
    by (inr (inr (inr (inr h)))) = absurd h

way_stands : {bodies : List Body} {names : List Bytes} {flow : Contents} {points ids : ℕ} (none : ℕ) (e : Edge)
    → OfWay system.Nested points ids none flow e → NestedStands bodies names ids e
way_stands {bodies} {names} {points = points} {ids = ids} none e y = by y.is
  where
    by : SomeIs (None ∷ None ∷ None ∷ []) e → NestedStands bodies names ids e
    by (inl h) = cc
    by (inr (inl h)) = cc
    by (inr (inr (inl h))) = cc
    by (inr (inr (inr h))) = absurd h

record NestedTaken (names : List Bytes) (ids : ℕ) (edges : List Edge) (a b : NestedNode) : Type 0 where
  m : ℕ
  n : ℕ
  from : NestedCode names ids a m
  to : NestedCode names ids b n
  contains : Contains edges (edge m n)

edge_taken : {names : List Bytes} {bodies : List Body} {flow : Contents} {points ids : ℕ} → Setting names bodies flow points ids
    → (none : ℕ) (a b : NestedNode) → NestedEdge bodies a b → NestedTaken names ids (edges_of system.Nested points ids none flow) a b
edge_taken {names} {bodies} {flow} {points} {ids} s none _ _ (in_caller f g p call of) =
    let place = place_if_kind call in
    let q = point_of {p = p} {i = place.0} s place.1 in
    let x = taken 0 g (own_aspect ids q.here.at q.here.known) of in
    let y = taken 0 f (called_aspect ids q.here.at q.here.known) call in
    record {
      m = x.m;
      n = y.m;
      from = code.NestedCode.of_function g x.m x.number;
      to = code.NestedCode.of_function f y.m y.number;
      contains = point_has_edge system.Nested points ids none flow (edge x.m y.m) (record {
        place = place.0;
        point = q.point;
        at = q.here.at.found;
        is = inl (is_edge true (in_block 0 (Some q.point.function)) (in_block 0 (called_at q.point.point.kind)) x.m y.m refl x.is y.is);
      });
    }
edge_taken {names} {bodies} {flow} {points} {ids} s none _ _ (in_transaction f p call enclosed) =
    let place = place_if_kind call in
    let q = point_of {p = p} {i = place.0} s place.1 in
    let y = taken 0 f (called_aspect ids q.here.at q.here.known) call in
    record {
      m = ids;
      n = y.m;
      from = of_transactions ids refl;
      to = code.NestedCode.of_function f y.m y.number;
      contains = point_has_edge system.Nested points ids none flow (edge ids y.m) (record {
        place = place.0;
        point = q.point;
        at = q.here.at.found;
        is = inr (inl (is_edge (nat_lt 0 q.point.point.depth) (Some ids) (in_block 0 (called_at q.point.point.kind)) ids y.m
            (is_deep q.point.point.depth ((enclosed_at q.here.at).0 enclosed)) refl y.is));
      });
    }
  where
    is_deep : (d : ℕ) → 0 < d → nat_lt 0 d ≡ true
    is_deep d l = grind (arith, nat_tests)

one_number : {names : List Bytes} {bodies : List Body} {flow : Contents} {points ids : ℕ} → Setting names bodies flow points ids
    → (a : NestedNode) (m n : ℕ) → NestedCode names ids a m → NestedCode names ids a n → m ≡ n
one_number s _ m n (code.NestedCode.of_function f _ x) (code.NestedCode.of_function _ _ y) = one_in_block s.is_flow.table x y
one_number s _ m n (of_transactions _ d) (of_transactions _ e) = d ∙ sym e

encoding : {names : List Bytes} {bodies : List Body} {flow : Contents} {points ids : ℕ} {seeds : List ℕ} → Setting names bodies flow points ids
    → (none : ℕ) → AreTokens ids seeds
    → Encodes (NestedCode names ids) (TokenSeed []) (NestedEdge bodies) table seeds (edges_of system.Nested points ids none flow)
encoding {names} {bodies} {flow} {points} {ids} {seeds} s none t = record {
  one_node = one_nested_node;
  one_id = λ i j z x y. (zero_alone i z x).0 ∙ sym (zero_alone j z y).0;
  seeds_stand = λ n id holds.
      let k = token_at n id t holds in
      (Transactions, [], of_transactions n k.0, subst (λ i. IsNamed table i []) (sym k.1) refl, at_transactions);
  seeds_taken = λ a n z to seed. seed_taken a n z to seed;
  edges_stand = λ e has.
      let x = edge_stands e has in (x.a, x.b, x.from, x.to, x.is_edge);
  edges_taken = λ a b n z to is more.
      let x = edge_taken s none a b is in
      (x.m, x.from, subst (λ n. Contains (edges_of system.Nested points ids none flow) (edge x.m n)) (one_number s b x.n n x.to to) x.contains);
}
  where
    edge_stands : (e : Edge) → Contains (edges_of system.Nested points ids none flow) e → NestedStands bodies names ids e
    edge_stands e has = elim (edges_are system.Nested points ids none flow e has) [
      | inl y ↦ point_stands s none e y
      | inr y ↦ way_stands none e y
    ]

    seed_taken : (a : NestedNode) (n : ℕ) (z : Bytes) → NestedCode names ids a n → TokenSeed [] a z
        → (id : ℕ) × IsNamed table id z × Holds (slice_index seeds n) id
    seed_taken _ n z (code.NestedCode.of_function f _ x) seed = elim seed [ ]
    seed_taken _ n _ (of_transactions _ e) at_transactions =
        (0, refl, subst (λ n. Holds (slice_index seeds n) 0) (sym e) (token_is_at t))

-- the id of a nested function is below that of the flow
nested_is_below : {names : List Bytes} {bodies : List Body} {flow : Contents} {points ids : ℕ} → Setting names bodies flow points ids
    → (f : Bytes) (i : ℕ) → slice_get names i ≡ Some f → Nested bodies f → i < ids
nested_is_below {names} {bodies} {ids = ids} s f i named n = by f named n
  where
    called : (f : Bytes) (c : Site) → slice_get names i ≡ Some f → IsCall bodies c f → i < ids
    called f c named call =
        let place = place_if_kind call in
        let q = point_of {p = c} {i = place.0} s place.1 in
        let y = taken 0 f (called_aspect ids q.here.at q.here.known) call in
        let same : y.number.id ≡ i = s.is_flow.table.distinct y.number.id i f y.number.named named in
        let l : y.number.id < ids = y.number.below in
        omega arith

    by : (f : Bytes) → slice_get names i ≡ Some f → Nested bodies f → i < ids
    by _ named (rule.in_transaction f c call enclosed) = called f c named call
    by _ named (rule.Nested.in_nested f g c call of more) = called f c named call

-- the functions that have the token are the nested ones
pub nested_functions : {names : List Bytes} {bodies : List Body} {flow : Contents} {points ids : ℕ} {seeds : List ℕ} (sets : List ℕ) (none nested : ℕ)
    → Setting names bodies flow points ids → AreTokens ids seeds
    → ((n id : ℕ) → Holds (slice_index sets n) id ↔ Reaches seeds (edges_of system.Nested points ids none flow) n id)
    → IsMarked ids sets nested → HasNested names bodies nested
nested_functions {names} {bodies} {flow} {points} {ids} {seeds} sets none nested s t least marked = record {
  same = λ f i named. (
    λ h. let x = (marked i).0 h in (family f i named x.0).0 ((least i 0).0 x.1),
    λ n. let l = nested_is_below s f i named n in (marked i).1 (l, (least i 0).1 ((family f i named l).1 n)),
  );
}
  where
    family : (f : Bytes) (i : ℕ) → slice_get names i ≡ Some f → i < ids
        → Reaches seeds (edges_of system.Nested points ids none flow) i 0 ↔ Nested bodies f
    family f i named l =
        reaches_family (encoding s none t) (Function f) i 0 []
        (code.NestedCode.of_function f i (record { id = i; named = named; below = l; number = omega arith })) refl (nested_flows bodies [] f)
