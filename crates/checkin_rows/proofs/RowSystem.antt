-- The numbered system stands for that of the rows.
use Rattle.std.proofs.Common.{◌≡◌, ℕ, ◌+◌, Bool, true, false, ◌↔◌, inl, inr, List, Option, Some, None, refl, sym, ap, ◌∙◌, subst, arith}
use Rattle.std.specs.Prelude.{Contains, ◌==◌, ◌&&◌, not, slice_get, slice_index, if◌then◌else◌}
use Rattle.std.specs.Option.{is_some}
use Rattle.std.proofs.lemmas.Bool.Decides.{nat_tests}
use Rattle.std.proofs.lemmas.Option.{same_Some}
use Rattle.name_sets.specs.IdSet.{Holds}
use Rattle.name_sets.specs.Texts.{IsTable}
use Rattle.c_tree.specs.BareExpr.{Bytes}
use Rattle.c_semantics.specs.Skeletons.{is_check_in_kind}
use Rattle.c_semantics.specs.Store.{Body}
use Rattle.skeletons.specs.declared.point.PointKind.{PointKind}
use Rattle.skeletons.specs.declared.point.PointKind.TheVariants.{CheckIn, Uses, Print, Join, Return, Back, Begin, End, Update}
use Rattle.skeletons.specs.declared.point.Use.TheVariants.{ReadGlobal, WriteGlobal, ReadElement, WriteElement, ReadField, WriteField, New, Free, InitMutex, Lock, Unlock, Spawn, Call}
use Rattle.skeletons.specs.Meaning.{called_at, kind_of}
use Rattle.effects.specs.Sites.{Site, IsOf, IsCall, IsReturn, IsEntry, Next, Passes, after_call}
use Rattle.effects.specs.Sites as sites
use Rattle.effect_flow.specs.declared.flow.FlowPoint.{FlowPoint}
use Rattle.effect_flow.specs.Parts.{Contents}
use Rattle.effect_flow.specs.Flows.{place_of}
use Rattle.effect_flow.proofs.FlowPoints.{IsAt, at_place, point_at_place, is_of_at, passes_at, stays_at, return_at, after_call_place, after_call_at, place_if_from, place_if_to, place_if_of, place_if_kind, place_if_passes, way_at, next_is_way}
use Rattle.set_constraints.specs.Constraints.{Reaches}
use Rattle.set_constraints.specs.declared.constraint.Edge.{Edge}
use Rattle.contextual_effects.specs.Edges.{in_block, is_return}
use Rattle.contextual_effects.proofs.EdgeLists.{edge, edge_is, is_edge, SomeIs}
use Rattle.contextual_effects.proofs.NodesOfPoints.{Place, Setting, within, places, stands, taken, called_aspect, own_aspect, SiteOf, site_of, point_of, returns_at, return_is}
use Rattle.contextual_effects.specs.Effects.{HasNames}
use Rattle.contextual_effects.proofs.Encoding.{Encodes, stands_at}
use Rattle.contextual_effects.proofs.Encoding as encoding
use Rattle.contextual_effects.proofs.Seeds.{AreOwnSeeds, own_seeds_stand, own_seeds_taken}
use Rattle.contextual_effects.proofs.Numbering.{InBlock, RowCode, one_row_node}
use Rattle.contextual_effects.proofs.Numbering as code
use Rattle.effects.proofs.RowEquations.{RowNode, From, To, Entries, Starts, Returns, Lands, RowEdge, OwnSeed, RowFlows}
use Rattle.effects.proofs.RowEquations as row
use Rattle.checkin_rows.specs.Edges.{is_check_in, stays, landing, landing_after, of_point, edges_of}
use Rattle.checkin_rows.proofs.RowEdges.{OfPoint, OfWay, edges_are, point_has_edge, way_has_edge}

-- the number of a node
abbrev pub Code : List Body → List Bytes → ℕ → ℕ → RowNode → ℕ → Type 0
Code bodies names points ids = RowCode (Place bodies) names points ids

-- the test of a check-in
pub same_test : (names : List Bytes) (k : PointKind) → is_check_in_kind (kind_of names k) ≡ is_check_in k
same_test names (CheckIn kind) = refl
same_test names (Uses ReadGlobal n) = refl
same_test names (Uses WriteGlobal n) = refl
same_test names (Uses ReadElement n) = refl
same_test names (Uses WriteElement n) = refl
same_test names (Uses ReadField n) = refl
same_test names (Uses WriteField n) = refl
same_test names (Uses New n) = refl
same_test names (Uses Free n) = refl
same_test names (Uses InitMutex n) = refl
same_test names (Uses Lock n) = refl
same_test names (Uses Unlock n) = refl
same_test names (Uses Spawn n) = refl
same_test names (Uses Call n) = refl
same_test names Print = refl
same_test names Join = refl
same_test names Return = refl
same_test names Back = refl
same_test names Begin = refl
same_test names End = refl
same_test names Update = refl

pub check_in_at : {names : List Bytes} {bodies : List Body} {flow : Contents} {p : Site} {i : ℕ} {x : FlowPoint}
    → IsAt names bodies flow p i x → Passes bodies p (λ at. is_check_in_kind at.kind) ↔ (is_check_in x.point.kind ≡ true)
check_in_at {names} {x = x} a =
    let both = passes_at (λ at. is_check_in_kind at.kind) a in
    (λ o. sym (same_test names x.point.kind) ∙ both.0 o, λ e. both.1 (same_test names x.point.kind ∙ e))

pub no_check_in_at : {names : List Bytes} {bodies : List Body} {flow : Contents} {p : Site} {i : ℕ} {x : FlowPoint}
    → IsAt names bodies flow p i x → Passes bodies p (λ at. not (is_check_in_kind at.kind)) ↔ (is_check_in x.point.kind ≡ false)
no_check_in_at {names} {x = x} a =
    let both = passes_at (λ at. not (is_check_in_kind at.kind)) a in (
      λ o. sym (same_test names x.point.kind) ∙ no (is_check_in_kind (kind_of names x.point.kind)) (both.0 o),
      λ e. both.1 (ap not (same_test names x.point.kind ∙ e)),
    )
  where
    no : (b : Bool) → not b ≡ true → b ≡ false
    no true e = cc
    no false e = refl

-- where control stays in the body
pub stays_is : {names : List Bytes} {bodies : List Body} {flow : Contents} {p : Site} {i : ℕ} {x : FlowPoint}
    → IsAt names bodies flow p i x → Passes bodies p (λ at. sites.stays at.kind) ↔ (stays x.point.kind ≡ true)
stays_is {x = x} a =
    let both = stays_at a in (
      λ o. let h = both.0 o in test x.point.kind h.0 h.1,
      λ e. both.1 (back x.point.kind e),
    )
  where
    is_none : (o : Option ℕ) → not (is_some o) ≡ true → o ≡ None
    is_none None e = refl
    is_none (Some n) e = cc

    both_true : (a b : Bool) → (a && b) ≡ true → (a ≡ true) × (b ≡ true)
    both_true true b e = (refl, e)
    both_true false b e = cc

    no_return : (k : PointKind) → not (is_return k) ≡ true → k ≡ Return → ⊥
    no_return k e same = let h : not (is_return Return) ≡ true = subst (λ k. not (is_return k) ≡ true) same e in cc

    is_not_return : (k : PointKind) → (k ≡ Return → ⊥) → not (is_return k) ≡ true
    is_not_return Return other = absurd (other refl)
    is_not_return _ other = refl

    test : (k : PointKind) → called_at k ≡ None → (k ≡ Return → ⊥) → stays k ≡ true
    test k none other =
        ap (λ b. b && not (is_some (called_at k))) (is_not_return k other) ∙ ap (λ o. not (is_some o)) none

    back : (k : PointKind) → stays k ≡ true → (called_at k ≡ None) × (k ≡ Return → ⊥)
    back k e =
        let parts = both_true (not (is_return k)) (not (is_some (called_at k))) e in
        (is_none (called_at k) parts.1, no_return k parts.0)

-- the node to which a path to a point leads
pub record Landed (bodies : List Body) (names : List Bytes) (points ids : ℕ) (p : Site) (n : ℕ) : Type 0 where
  pub node : RowNode
  pub lands : Lands bodies p node
  pub number : Code bodies names points ids node n

pub landed : {names : List Bytes} {bodies : List Body} {flow : Contents} {p : Site} {i : ℕ} {x : FlowPoint} (points ids n : ℕ)
    → IsAt names bodies flow p i x → landing points i x ≡ n → Landed bodies names points ids p n
landed {names} {bodies} {p = p} {i = i} {x = x} points ids n a e = by (is_check_in x.point.kind) refl e
  where
    by : (b : Bool) → is_check_in x.point.kind ≡ b → (if b then points + i else i) ≡ n → Landed bodies names points ids p n
    by true c e = record { node = To p; lands = row.at_check_in p ((check_in_at a).1 c); number = code.of_to p i n a.place (sym e) }
    by false c e = record {
      node = From p;
      lands = row.passing p ((no_check_in_at a).1 c);
      number = code.of_from p n (subst (λ m. place_of bodies p ≡ Some m) e a.place);
    }

pub landing_is : {names : List Bytes} {bodies : List Body} {flow : Contents} {p : Site} {i : ℕ} {x : FlowPoint} (points ids : ℕ) (node : RowNode)
    → IsAt names bodies flow p i x → Lands bodies p node → Code bodies names points ids node (landing points i x)
landing_is {names} {bodies} {i = i} {x = x} points ids _ a (row.at_check_in p c) =
    code.of_to p i (landing points i x) a.place (ap (λ b. if b then points + i else i) ((check_in_at a).0 c))
landing_is {names} {bodies} {i = i} {x = x} points ids _ a (row.passing p c) =
    code.of_from p (landing points i x)
    (subst (λ m. place_of bodies p ≡ Some m) (sym (ap (λ b. if b then points + i else i) ((no_check_in_at a).0 c))) a.place)

lands_at_place : {bodies : List Body} {p : Site} {node : RowNode} → Lands bodies p node → (i : ℕ) × (place_of bodies p ≡ Some i)
lands_at_place (row.at_check_in p c) = place_if_passes c
lands_at_place (row.passing p c) = place_if_passes c

-- an edge between numbers is one between their nodes
pub record EdgeStands (bodies : List Body) (names : List Bytes) (points ids : ℕ) (e : Edge) : Type 0 where
  pub a : RowNode
  pub b : RowNode
  pub from : Code bodies names points ids a e.from
  pub to : Code bodies names points ids b e.to
  pub is_edge : RowEdge bodies a b

zero_test : (n : ℕ) → (n == 0) ≡ true ↔ (n ≡ 0)
zero_test n = (λ e. to n e, λ e. from n e)
  where
    to : (n : ℕ) → (n == 0) ≡ true → n ≡ 0
    to n e = grind (arith, nat_tests)

    from : (n : ℕ) → n ≡ 0 → (n == 0) ≡ true
    from n e = grind (arith, nat_tests)

-- where a body goes on
pub record GoesOnAt (points i n : ℕ) (o : Option FlowPoint) : Type 0 where
  pub point : FlowPoint
  pub is_point : o ≡ Some point
  pub later : point.number ≡ 0 → ⊥
  pub is : landing points i point ≡ n

pub goes_on_at : (points i n : ℕ) (o : Option FlowPoint) → landing_after points i o ≡ Some n → GoesOnAt points i n o
goes_on_at points i n None e = cc
goes_on_at points i n (Some y) e = by (y.number == 0) refl e
  where
    by : (b : Bool) → (y.number == 0) ≡ b → (if b then None else Some (landing points i y)) ≡ Some n → GoesOnAt points i n (Some y)
    by true z e = cc
    by false z e = record {
      point = y;
      is_point = refl;
      later = λ h. differ (sym z ∙ (zero_test y.number).1 h);
      is = same_Some (landing points i y) n e;
    }
      where
        differ : false ≡ true → ⊥
        differ e = cc

goes_on_is : (points i : ℕ) (y : FlowPoint) → (y.number ≡ 0 → ⊥) → landing_after points i (Some y) ≡ Some (landing points i y)
goes_on_is points i y later = by (y.number == 0) refl
  where
    by : (b : Bool) → (y.number == 0) ≡ b → (if b then None else Some (landing points i y)) ≡ Some (landing points i y)
    by true z = absurd (later ((zero_test y.number).0 z))
    by false z = refl

point_stands : {names : List Bytes} {bodies : List Body} {flow : Contents} {points ids : ℕ} → Setting names bodies flow points ids
    → (e : Edge) → OfPoint points ids flow e → EdgeStands bodies names points ids e
point_stands {names} {bodies} {flow} {points} {ids} s e y = by y.is
  where
    q : SiteOf names bodies flow ids y.place y.point
    q = site_of s y.at

    at_number : (n : ℕ) → Some y.place ≡ Some n → place_of bodies q.site ≡ Some n
    at_number n e = q.here.at.place ∙ e

    by : SomeIs (of_point points ids flow.points y.place y.point) e → EdgeStands bodies names points ids e
    by (inl h) =
        let k = edge_is true (in_block (points + points) (called_at y.point.point.kind)) (Some y.place) e h in
        let f = stands (points + points) e.from (within s) (called_aspect ids q.here.at q.here.known) k.from in
        record {
          a = Entries f.name;
          b = From q.site;
          from = code.of_entries f.name e.from f.number;
          to = code.of_from q.site e.to (at_number e.to k.to);
          is_edge = row.call q.site f.name f.said;
        }
    by (inr (inl h)) =
        let k = edge_is (y.point.number == 0) (Some (landing points y.place y.point)) (in_block (points + points) (Some y.point.function)) e h in
        let f = stands (points + points) e.to (within s) (own_aspect ids q.here.at q.here.known) k.to in
        let l = landed points ids e.from q.here.at (same_Some (landing points y.place y.point) e.from k.from) in
        record {
          a = l.node;
          b = Entries f.name;
          from = l.number;
          to = code.of_entries f.name e.to f.number;
          is_edge = row.enter q.site f.name l.node (record { is_entry = sym q.here.at.number ∙ (zero_test y.point.number).0 k.holds; is_of = f.said }) l.lands;
        }
    by (inr (inr (inl h))) =
        let k = edge_is (is_return y.point.point.kind) (in_block (points + points + ids + ids) (Some y.point.function)) (Some y.place) e h in
        let f = stands (points + points + ids + ids) e.from (within s) (own_aspect ids q.here.at q.here.known) k.from in
        record {
          a = Returns f.name;
          b = From q.site;
          from = code.of_returns f.name e.from f.number;
          to = code.of_from q.site e.to (at_number e.to k.to);
          is_edge = row.return q.site f.name ((return_at f.name q.here.at).1 (returns_at y.point.point.kind k.holds, (is_of_at f.name q.here.at).0 f.said));
        }
    by (inr (inr (inr (inl h)))) =
        let k = edge_is true (landing_after points (y.place + 1) (slice_get flow.points (y.place + 1))) (in_block (points + points + ids + ids) (called_at y.point.point.kind)) e h in
        let f = stands (points + points + ids + ids) e.to (within s) (called_aspect ids q.here.at q.here.known) k.to in
        let g = goes_on_at points (y.place + 1) e.from (slice_get flow.points (y.place + 1)) k.from in
        let l = landed points ids e.from (after_call_at s.is_flow q.here.at g.is_point g.later) g.is in
        record {
          a = l.node;
          b = Returns f.name;
          from = l.number;
          to = code.of_returns f.name e.to f.number;
          is_edge = row.resume q.site f.name l.node f.said l.lands;
        }
    by (inr (inr (inr (inr (inl h))))) =
        let k = edge_is (y.point.number == 0) (Some (points + y.place)) (in_block (points + points + ids) (Some y.point.function)) e h in
        let f = stands (points + points + ids) e.to (within s) (own_aspect ids q.here.at q.here.known) k.to in
        record {
          a = To q.site;
          b = Starts f.name;
          from = code.of_to q.site y.place e.from q.here.at.place (sym (same_Some (points + y.place) e.from k.from));
          to = code.of_starts f.name e.to f.number;
          is_edge = row.start q.site f.name (record { is_entry = sym q.here.at.number ∙ (zero_test y.point.number).0 k.holds; is_of = f.said });
        }
    by (inr (inr (inr (inr (inr h))))) = absurd h

way_stands : {names : List Bytes} {bodies : List Body} {flow : Contents} {points ids : ℕ} → Setting names bodies flow points ids
    → (e : Edge) → OfWay points flow e → EdgeStands bodies names points ids e
way_stands {names} {bodies} {flow} {points} {ids} s e y =
    let k = edge_is (stays y.from.point.kind) (Some (landing points y.way.to y.to)) (Some y.way.from) e y.is in
    let w = way_at y.way s.is_flow y.is_way in
    let a = at_place s.is_flow w.from y.at_from in
    let b = at_place s.is_flow w.to y.at_to in
    let l = landed points ids e.from b (same_Some (landing points y.way.to y.to) e.from k.from) in
    record {
      a = l.node;
      b = From w.p;
      from = l.number;
      to = code.of_from w.p e.to (w.from ∙ k.to);
      is_edge = row.on w.p w.q l.node ((stays_is a).1 k.holds) w.next l.lands;
    }

-- an edge between nodes is one between numbers of these
pub record EdgeTaken (bodies : List Body) (names : List Bytes) (points ids : ℕ) (edges : List Edge) (a b : RowNode) : Type 0 where
  pub m : ℕ
  pub n : ℕ
  pub from : Code bodies names points ids a m
  pub to : Code bodies names points ids b n
  pub contains : Contains edges (edge m n)

edge_taken : {names : List Bytes} {bodies : List Body} {flow : Contents} {points ids : ℕ} → Setting names bodies flow points ids
    → (a b : RowNode) → RowEdge bodies a b → EdgeTaken bodies names points ids (edges_of points ids flow) a b
edge_taken {names} {bodies} {flow} {points} {ids} s _ _ (row.on p q node stay next lands) =
    let i = place_if_from next in
    let j = place_if_to next in
    let x = point_at_place s.is_flow i.1 in
    let y = point_at_place s.is_flow j.1 in
    record {
      m = landing points j.0 y.0;
      n = i.0;
      from = landing_is points ids node y.1 lands;
      to = code.of_from p i.0 i.1;
      contains = way_has_edge points ids flow (edge (landing points j.0 y.0) i.0) (record {
        way = record { from = i.0; to = j.0 };
        is_way = (next_is_way s.is_flow i.1 j.1).0 next;
        from = x.0;
        to = y.0;
        at_from = x.1.found;
        at_to = y.1.found;
        is = is_edge (stays x.0.point.kind) (Some (landing points j.0 y.0)) (Some i.0) (landing points j.0 y.0) i.0 ((stays_is x.1).0 stay) refl refl;
      });
    }
edge_taken {names} {bodies} {flow} {points} {ids} s _ _ (row.call c f call) =
    let place = place_if_kind call in
    let q = point_of {p = c} {i = place.0} s place.1 in
    let x = taken (points + points) f (called_aspect ids q.here.at q.here.known) call in
    record {
      m = x.m;
      n = place.0;
      from = code.of_entries f x.m x.number;
      to = code.of_from c place.0 place.1;
      contains = point_has_edge points ids flow (edge x.m place.0) (record {
        place = place.0;
        point = q.point;
        at = q.here.at.found;
        is = inl (is_edge true (in_block (points + points) (called_at q.point.point.kind)) (Some place.0) x.m place.0 refl x.is refl);
      });
    }
edge_taken {names} {bodies} {flow} {points} {ids} s _ _ (row.enter e f node at lands) =
    let place = place_if_of at.is_of in
    let q = point_of {p = e} {i = place.0} s place.1 in
    let x = taken (points + points) f (own_aspect ids q.here.at q.here.known) at.is_of in
    record {
      m = landing points place.0 q.point;
      n = x.m;
      from = landing_is points ids node q.here.at lands;
      to = code.of_entries f x.m x.number;
      contains = point_has_edge points ids flow (edge (landing points place.0 q.point) x.m) (record {
        place = place.0;
        point = q.point;
        at = q.here.at.found;
        is = inr (inl (is_edge (q.point.number == 0) (Some (landing points place.0 q.point)) (in_block (points + points) (Some q.point.function)) (landing points place.0 q.point) x.m ((zero_test q.point.number).1 (q.here.at.number ∙ at.is_entry)) refl x.is));
      });
    }
edge_taken {names} {bodies} {flow} {points} {ids} s _ _ (row.return r f ret) =
    let place = place_if_of ret.is_of in
    let q = point_of {p = r} {i = place.0} s place.1 in
    let x = taken (points + points + ids + ids) f (own_aspect ids q.here.at q.here.known) ret.is_of in
    record {
      m = x.m;
      n = place.0;
      from = code.of_returns f x.m x.number;
      to = code.of_from r place.0 place.1;
      contains = point_has_edge points ids flow (edge x.m place.0) (record {
        place = place.0;
        point = q.point;
        at = q.here.at.found;
        is = inr (inr (inl (is_edge (is_return q.point.point.kind) (in_block (points + points + ids + ids) (Some q.point.function)) (Some place.0) x.m place.0 (return_is q.point.point.kind ((return_at f q.here.at).0 ret).0) x.is refl)));
      });
    }
edge_taken {names} {bodies} {flow} {points} {ids} s _ _ (row.resume c f node call lands) =
    let place = place_if_kind call in
    let q = point_of {p = c} {i = place.0} s place.1 in
    let after = lands_at_place lands in
    let z = point_at_place s.is_flow after.1 in
    let k = after_call_place q.here.at z.1 in
    let x = taken (points + points + ids + ids) f (called_aspect ids q.here.at q.here.known) call in
    let found : slice_get flow.points (place.0 + 1) ≡ Some z.0 = ap (slice_get flow.points) (sym k.0) ∙ z.1.found in
    record {
      m = landing points (place.0 + 1) z.0;
      n = x.m;
      from = subst (λ j. Code bodies names points ids node (landing points j z.0)) k.0 (landing_is points ids node z.1 lands);
      to = code.of_returns f x.m x.number;
      contains = point_has_edge points ids flow (edge (landing points (place.0 + 1) z.0) x.m) (record {
        place = place.0;
        point = q.point;
        at = q.here.at.found;
        is = inr (inr (inr (inl (is_edge true (landing_after points (place.0 + 1) (slice_get flow.points (place.0 + 1))) (in_block (points + points + ids + ids) (called_at q.point.point.kind)) (landing points (place.0 + 1) z.0) x.m refl (ap (landing_after points (place.0 + 1)) found ∙ goes_on_is points (place.0 + 1) z.0 k.1) x.is))));
      });
    }
edge_taken {names} {bodies} {flow} {points} {ids} s _ _ (row.start e f at) =
    let place = place_if_of at.is_of in
    let q = point_of {p = e} {i = place.0} s place.1 in
    let x = taken (points + points + ids) f (own_aspect ids q.here.at q.here.known) at.is_of in
    record {
      m = points + place.0;
      n = x.m;
      from = code.of_to e place.0 (points + place.0) place.1 refl;
      to = code.of_starts f x.m x.number;
      contains = point_has_edge points ids flow (edge (points + place.0) x.m) (record {
        place = place.0;
        point = q.point;
        at = q.here.at.found;
        is = inr (inr (inr (inr (inl (is_edge (q.point.number == 0) (Some (points + place.0)) (in_block (points + points + ids) (Some q.point.function)) (points + place.0) x.m ((zero_test q.point.number).1 (q.here.at.number ∙ at.is_entry)) refl x.is)))));
      });
    }

-- a node has one number
one_in_block : {names : List Bytes} {ids start : ℕ} {z : Bytes} {m n : ℕ} → IsTable names
    → InBlock names ids start z m → InBlock names ids start z n → m ≡ n
one_in_block {start = start} {z = z} {m = m} {n = n} table x y =
    by x.id y.id (table.distinct x.id y.id z x.named y.named) x.number y.number
  where
    by : (i j : ℕ) → i ≡ j → m ≡ start + i → n ≡ start + j → m ≡ n
    by i j same e f = omega arith

one_number : (bodies : List Body) (names : List Bytes) (points ids : ℕ) → IsTable names → (a : RowNode) (m n : ℕ)
    → Code bodies names points ids a m → Code bodies names points ids a n → m ≡ n
one_number bodies names points ids table _ m n (code.of_from p _ x) (code.of_from _ _ y) = same_Some m n (sym x ∙ y)
one_number bodies names points ids table _ m n (code.of_to p i _ x d) (code.of_to _ j _ y e) = by i j (same_Some i j (sym x ∙ y)) d e
  where
    by : (i j : ℕ) → i ≡ j → m ≡ points + i → n ≡ points + j → m ≡ n
    by i j same d e = omega arith
one_number bodies names points ids table _ m n (code.of_entries f _ x) (code.of_entries _ _ y) = one_in_block table x y
one_number bodies names points ids table _ m n (code.of_starts f _ x) (code.of_starts _ _ y) = one_in_block table x y
one_number bodies names points ids table _ m n (code.of_returns f _ x) (code.of_returns _ _ y) = one_in_block table x y

edge_from : {bodies : List Body} {names : List Bytes} {points ids : ℕ} {edges : List Edge} {a b : RowNode} (n : ℕ) → IsTable names
    → Code bodies names points ids b n → EdgeTaken bodies names points ids edges a b
    → (m : ℕ) × Code bodies names points ids a m × Contains edges (edge m n)
edge_from {bodies} {names} {points} {ids} {edges} {b = b} n table to t =
    (t.m, t.from, subst (λ n. Contains edges (edge t.m n)) (one_number bodies names points ids table b t.n n t.to to) t.contains)

-- the seeds and edges between numbers stand for those between nodes
encodes : {names : List Bytes} {bodies : List Body} {flow : Contents} {points ids : ℕ} {Own : Site → Bytes → Type 0} {seeds : List ℕ}
    → Setting names bodies flow points ids → AreOwnSeeds (Place bodies) Own names points seeds
    → Encodes (Code bodies names points ids) (OwnSeed Own) (RowEdge bodies) names seeds (edges_of points ids flow)
encodes {names} {bodies} {flow} {points} {ids} s k = record {
  one_node = one_row_node (places s);
  one_id = λ i j z x y. s.is_flow.table.distinct i j z x y;
  seeds_stand = own_seeds_stand k;
  seeds_taken = own_seeds_taken (places s) k;
  edges_stand = λ e has.
      let x : EdgeStands bodies names points ids e = elim (edges_are points ids flow e has) [
        | inl y ↦ point_stands s e y
        | inr y ↦ way_stands s e y
      ] in
      (x.a, x.b, x.from, x.to, x.is_edge);
  edges_taken = λ a b n z to is more. edge_from n s.is_flow.table to (edge_taken s a b is);
}

-- what comes to the number of a node
pub node_has : {names : List Bytes} {bodies : List Body} {flow : Contents} {points ids : ℕ} {Own : Site → Bytes → Type 0} {seeds : List ℕ} (sets : List ℕ)
    → Setting names bodies flow points ids → AreOwnSeeds (Place bodies) Own names points seeds
    → ((n id : ℕ) → Holds (slice_index sets n) id ↔ Reaches seeds (edges_of points ids flow) n id)
    → (a : RowNode) (n : ℕ) → Code bodies names points ids a n → HasNames names (slice_index sets n) (RowFlows bodies Own a)
node_has {names} {bodies} {flow} {points} {ids} {Own} {seeds} sets s k least a n number = record {
  only = λ id h. stands_at e a n id number ((least n id).0 h);
  all = λ z x. let r = encoding.taken e a n z number x in (r.0, r.1, (least n r.0).1 r.2);
}
  where
    e : Encodes (Code bodies names points ids) (OwnSeed Own) (RowEdge bodies) names seeds (edges_of points ids flow)
    e = encodes s k
