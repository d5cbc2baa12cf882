-- What is among the edges of a system, by the points and ways that they are made of.
use Rattle.std.proofs.Common.{◌≡◌, ℕ, zero, suc, ◌+◌, ◌<◌, Bool, true, false, ◌⊎◌, inl, inr, List, [], ◌∷◌, ◌++◌, Option, Some, None, get_or, take, refl, sym, ap, ◌∙◌, subst, arith}
use Rattle.std.specs.Prelude.{Contains, slice_get}
use Rattle.std.specs.Option.{option_to_list}
use Rattle.std.proofs.lemmas.List.{append_assoc, append-nil}
use Rattle.std.proofs.lemmas.List.Elements.{Contains-append_left, Contains-append_right, Contains-append_cases}
use Rattle.std.proofs.lemmas.Option.{slice_get-get_or, slice_get_within, get_or_from_slice_get, same_Some}
use Rattle.effect_flow.specs.declared.flow.FlowPoint.{FlowPoint}
use Rattle.effect_flow.specs.declared.flow.Way.{Way}
use Rattle.effect_flow.specs.Parts.{Contents}
use Rattle.set_constraints.specs.declared.constraint.Edge.{Edge}
use Rattle.contextual_effects.specs.declared.constraints.System.{System}
use Rattle.contextual_effects.specs.Parts.{parts}
use Rattle.contextual_effects.specs.Edges.{edge_if, present, of_point, between, if_ends, of_way, edges_of_points, edges_of_ways, edges_of}
use Rattle.contextual_effects.proofs.Concatenations.{OfItem, contained_in_parts, parts_contain, parts_take}

-- an edge between two numbers is there
pub record IsEdge (c : Bool) (a b : Option ℕ) (e : Edge) : Type 0 where
  pub holds : c ≡ true
  pub from : a ≡ Some e.from
  pub to : b ≡ Some e.to

pub edge_is : (c : Bool) (a b : Option ℕ) (e : Edge) → edge_if c a b ≡ Some e → IsEdge c a b e
edge_is false a b e is = cc
edge_is true None b e is = cc
edge_is true (Some m) None e is = cc
edge_is true (Some m) (Some n) e is =
    let same : record { from = m; to = n } ≡ e = same_Some (record { from = m; to = n }) e is in
    record { holds = refl; from = ap (λ x. Some x.from) same; to = ap (λ x. Some x.to) same }

abbrev pub edge : ℕ → ℕ → Edge
edge m n = record { from = m; to = n }

pub is_edge : (c : Bool) (a b : Option ℕ) (m n : ℕ) → c ≡ true → a ≡ Some m → b ≡ Some n → edge_if c a b ≡ Some (edge m n)
is_edge c a b m n holds from to =
    ap (λ c. edge_if c a b) holds ∙ ap (λ a. edge_if true a b) from ∙ ap (λ b. edge_if true (Some m) b) to

-- one of the edges is this one
abbrev pub SomeIs : List (Option Edge) → Edge → Type 0
SomeIs [] e = ⊥
SomeIs (o ∷ os) e = (o ≡ Some e) ⊎ SomeIs os e

only : (x e : Edge) → Contains (x ∷ []) e → x ≡ e
only x e c = by c.0 c.1 c.2
  where
    by : (k : ℕ) → k < 1 → get_or (x ∷ []) k e ≡ e → x ≡ e
    by k l same = let zero : 0 ≡ k = omega arith in ap (λ n. get_or (x ∷ []) n e) zero ∙ same

pub present_is : (os : List (Option Edge)) (e : Edge) → Contains (present os) e → SomeIs os e
present_is [] e c = none c.0 c.1
  where
    none : (k : ℕ) → k < 0 → ⊥
    none k l = omega arith
present_is (None ∷ os) e c = inr (present_is os e c)
present_is (Some x ∷ os) e c =
    elim (Contains-append_cases (x ∷ []) (present os) e c) [
      | inl h ↦ inl (ap Some (only x e h))
      | inr t ↦ inr (present_is os e t)
    ]

itself : (e : Edge) → Contains (e ∷ []) e
itself e = (0, omega arith, refl)

pub is_present : (os : List (Option Edge)) (e : Edge) → SomeIs os e → Contains (present os) e
is_present [] e h = absurd h
is_present (o ∷ os) e (inl h) =
    Contains-append_left (option_to_list o) (present os) e (subst (λ o. Contains (option_to_list o) e) (sym h) (itself e))
is_present (o ∷ os) e (inr t) = Contains-append_right (option_to_list o) (present os) e (is_present os e t)

-- what is in a list has a place there, and the other way round
pub place_in : {A : Type 0} (xs : List A) (x : A) → Contains xs x → (k : ℕ) × (slice_get xs k ≡ Some x)
place_in xs x c = (c.0, slice_get-get_or xs c.0 x c.1 ∙ ap Some c.2)

pub contains_at : {A : Type 0} (xs : List A) (k : ℕ) (x : A) → slice_get xs k ≡ Some x → Contains xs x
contains_at xs k x e = (k, slice_get_within xs k x e, get_or_from_slice_get xs k x x e)

-- an edge of a point
pub record OfPoint (system : System) (points ids nested : ℕ) (flow : Contents) (e : Edge) : Type 0 where
  pub place : ℕ
  pub point : FlowPoint
  pub at : slice_get flow.points place ≡ Some point
  pub is : SomeIs (of_point system points ids nested flow.points place point) e

-- an edge of a way
pub record OfWay (system : System) (points ids nested : ℕ) (flow : Contents) (e : Edge) : Type 0 where
  pub way : Way
  pub is_way : Contains flow.ways way
  pub from : FlowPoint
  pub to : FlowPoint
  pub at_from : slice_get flow.points way.from ≡ Some from
  pub at_to : slice_get flow.points way.to ≡ Some to
  pub is : SomeIs (between system points ids nested way from to) e

-- a way that has an edge has two ends
record HasEnds (make : FlowPoint → FlowPoint → List (Option Edge)) (a b : Option FlowPoint) (e : Edge) : Type 0 where
  from : FlowPoint
  to : FlowPoint
  at_from : a ≡ Some from
  at_to : b ≡ Some to
  is : SomeIs (make from to) e

no_edge : (e : Edge) → SomeIs (None ∷ None ∷ None ∷ []) e → ⊥
no_edge e (inl h) = cc
no_edge e (inr (inl h)) = cc
no_edge e (inr (inr (inl h))) = cc
no_edge e (inr (inr (inr h))) = h

has_ends : (make : FlowPoint → FlowPoint → List (Option Edge)) (a b : Option FlowPoint) (e : Edge)
    → SomeIs (if_ends make a b) e → HasEnds make a b e
has_ends make (Some a) (Some b) e h = record { from = a; to = b; at_from = refl; at_to = refl; is = h }
has_ends make (Some a) None e h = absurd (no_edge e h)
has_ends make None b e h = absurd (no_edge e h)

pub edges_are : (system : System) (points ids nested : ℕ) (flow : Contents) (e : Edge)
    → Contains (edges_of system points ids nested flow) e
    → OfPoint system points ids nested flow e ⊎ OfWay system points ids nested flow e
edges_are system points ids nested flow e c =
    elim (Contains-append_cases (edges_of_points system points ids nested flow.points flow.points) (edges_of_ways system points ids nested flow.points flow.ways) e c) [
      | inl h ↦ inl (of_a_point (contained_in_parts make_point 0 flow.points e h))
      | inr h ↦ inr (of_a_way (contained_in_parts make_way 0 flow.ways e h))
    ]
  where
    make_point : ℕ → FlowPoint → List Edge
    make_point i x = present (of_point system points ids nested flow.points i x)

    make_way : ℕ → Way → List Edge
    make_way i w = present (of_way system points ids nested flow.points w)

    of_a_point : OfItem make_point 0 flow.points e → OfPoint system points ids nested flow e
    of_a_point y = record {
      place = y.place;
      point = y.item;
      at = y.at;
      is = present_is (of_point system points ids nested flow.points y.place y.item) e
          (subst (λ i. Contains (make_point i y.item) e) (omega arith) y.contains);
    }

    of_a_way : OfItem make_way 0 flow.ways e → OfWay system points ids nested flow e
    of_a_way y =
        let z = has_ends (between system points ids nested y.item) (slice_get flow.points y.item.from) (slice_get flow.points y.item.to) e
        (present_is (of_way system points ids nested flow.points y.item) e y.contains) in
        record {
          way = y.item;
          is_way = contains_at flow.ways y.place y.item y.at;
          from = z.from;
          to = z.to;
          at_from = z.at_from;
          at_to = z.at_to;
          is = z.is;
        }

pub point_has_edge : (system : System) (points ids nested : ℕ) (flow : Contents) (e : Edge)
    → OfPoint system points ids nested flow e → Contains (edges_of system points ids nested flow) e
point_has_edge system points ids nested flow e y =
    Contains-append_left (edges_of_points system points ids nested flow.points flow.points) (edges_of_ways system points ids nested flow.points flow.ways) e
    (parts_contain make 0 flow.points e (record {
      place = y.place;
      item = y.point;
      at = y.at;
      contains = subst (λ i. Contains (make i y.point) e) (omega arith)
          (is_present (of_point system points ids nested flow.points y.place y.point) e y.is);
    }))
  where
    make : ℕ → FlowPoint → List Edge
    make i x = present (of_point system points ids nested flow.points i x)

pub way_has_edge : (system : System) (points ids nested : ℕ) (flow : Contents) (e : Edge)
    → OfWay system points ids nested flow e → Contains (edges_of system points ids nested flow) e
way_has_edge system points ids nested flow e y =
    let k = place_in flow.ways y.way y.is_way in
    Contains-append_right (edges_of_points system points ids nested flow.points flow.points) (edges_of_ways system points ids nested flow.points flow.ways) e
    (parts_contain make 0 flow.ways e (record { place = k.0; item = y.way; at = k.1; contains = is_present (of_way system points ids nested flow.points y.way) e there }))
  where
    make : ℕ → Way → List Edge
    make i w = present (of_way system points ids nested flow.points w)

    there : SomeIs (of_way system points ids nested flow.points y.way) e
    there =
        subst (λ a. SomeIs (if_ends (between system points ids nested y.way) a (slice_get flow.points y.way.to)) e) (sym y.at_from)
        (subst (λ b. SomeIs (if_ends (between system points ids nested y.way) (Some y.from) b) e) (sym y.at_to) y.is)

-- those of one item more
pub present_more : (os : List (Option Edge)) (i : ℕ) (o : Option Edge) → slice_get os i ≡ Some o
    → present (take (i + 1) os) ≡ present (take i os) ++ option_to_list o
present_more [] i o e = cc
present_more (p ∷ os) zero o e =
    let same : p ≡ o = same_Some p o e in append-nil (option_to_list p) ∙ ap option_to_list same
present_more (p ∷ os) (suc i) o e =
    let further : suc i + 1 ≡ suc (i + 1) = omega arith in
    ap (λ n. present (take n (p ∷ os))) further
    ∙ ap (λ rest. option_to_list p ++ rest) (present_more os i o e)
    ∙ sym (append_assoc (option_to_list p) (present (take i os)) (option_to_list o))

-- what a loop over options, points or ways has added after one more
pub options_more : (first edges new : List Edge) (os : List (Option Edge)) (i : ℕ) (o : Option Edge)
    → new ≡ edges ++ option_to_list o → edges ≡ first ++ present (take i os) → slice_get os i ≡ Some o
    → new ≡ first ++ present (take (i + 1) os)
options_more first edges new os i o added before at =
    added
    ∙ ap (λ xs. xs ++ option_to_list o) before
    ∙ append_assoc first (present (take i os)) (option_to_list o)
    ∙ ap (λ xs. first ++ xs) (sym (present_more os i o at))

pub parts_more : {X : Type 0} (make : ℕ → X → List Edge) (first edges new : List Edge) (xs : List X) (i : ℕ) (x : X)
    → new ≡ edges ++ make i x → edges ≡ first ++ parts make 0 (take i xs) → slice_get xs i ≡ Some x
    → new ≡ first ++ parts make 0 (take (i + 1) xs)
parts_more make first edges new xs i x added before at =
    let zero : i ≡ 0 + i = omega arith in
    added
    ∙ ap (λ ys. ys ++ make i x) before
    ∙ append_assoc first (parts make 0 (take i xs)) (make i x)
    ∙ ap (λ n. first ++ (parts make 0 (take i xs) ++ make n x)) zero
    ∙ ap (λ ys. first ++ ys) (sym (parts_take make 0 xs i x at))
