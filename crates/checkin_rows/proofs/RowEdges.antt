-- The edges between numbers, by the points and ways that they are made of.
use Rattle.std.proofs.Common.{◌≡◌, ℕ, ◌<◌, ◌⊎◌, inl, inr, List, [], ◌∷◌, Option, Some, None, get_or, refl, sym, ap, ◌∙◌, subst, arith}
use Rattle.std.specs.Prelude.{Contains, slice_get}
use Rattle.std.specs.Option.{option_to_list}
use Rattle.std.proofs.lemmas.List.Elements.{Contains-append_left, Contains-append_right, Contains-append_cases}
use Rattle.effect_flow.specs.declared.flow.FlowPoint.{FlowPoint}
use Rattle.effect_flow.specs.declared.flow.Way.{Way}
use Rattle.effect_flow.specs.Parts.{Contents}
use Rattle.set_constraints.specs.declared.constraint.Edge.{Edge}
use Rattle.contextual_effects.specs.Edges.{present}
use Rattle.contextual_effects.proofs.Concatenations.{OfItem, contained_in_parts, parts_contain}
use Rattle.contextual_effects.proofs.EdgeLists.{SomeIs, present_is, is_present, place_in, contains_at}
use Rattle.checkin_rows.specs.Edges.{of_point, of_way, of_ends, edges_of_points, edges_of_ways, edges_of}

-- an edge of a point
pub record OfPoint (points ids : ℕ) (flow : Contents) (e : Edge) : Type 0 where
  pub place : ℕ
  pub point : FlowPoint
  pub at : slice_get flow.points place ≡ Some point
  pub is : SomeIs (of_point points ids flow.points place point) e

-- an edge of a way
pub record OfWay (points : ℕ) (flow : Contents) (e : Edge) : Type 0 where
  pub way : Way
  pub is_way : Contains flow.ways way
  pub from : FlowPoint
  pub to : FlowPoint
  pub at_from : slice_get flow.points way.from ≡ Some from
  pub at_to : slice_get flow.points way.to ≡ Some to
  pub is : of_way points way from to ≡ Some e

-- a way that has an edge has two ends
record HasEnds (points : ℕ) (w : Way) (a b : Option FlowPoint) (e : Edge) : Type 0 where
  from : FlowPoint
  to : FlowPoint
  at_from : a ≡ Some from
  at_to : b ≡ Some to
  is : of_way points w from to ≡ Some e

has_ends : (points : ℕ) (w : Way) (a b : Option FlowPoint) (e : Edge) → of_ends points w a b ≡ Some e → HasEnds points w a b e
has_ends points w (Some a) (Some b) e h = record { from = a; to = b; at_from = refl; at_to = refl; is = h }
has_ends points w (Some a) None e h = cc
has_ends points w None b e h = cc

in_option : (o : Option Edge) (e : Edge) → Contains (option_to_list o) e → o ≡ Some e
in_option None e c = absurd (none c.0 c.1)
  where
    none : (k : ℕ) → k < 0 → ⊥
    none k l = omega arith
in_option (Some x) e c = ap Some (only c.0 c.1 c.2)
  where
    only : (k : ℕ) → k < 1 → get_or (x ∷ []) k e ≡ e → x ≡ e
    only k l same = let zero : 0 ≡ k = omega arith in ap (λ n. get_or (x ∷ []) n e) zero ∙ same

pub edges_are : (points ids : ℕ) (flow : Contents) (e : Edge) → Contains (edges_of points ids flow) e
    → OfPoint points ids flow e ⊎ OfWay points flow e
edges_are points ids flow e c =
    elim (Contains-append_cases (edges_of_points points ids flow.points flow.points) (edges_of_ways points flow.points flow.ways) e c) [
      | inl h ↦ inl (of_a_point (contained_in_parts make_point 0 flow.points e h))
      | inr h ↦ inr (of_a_way (contained_in_parts make_way 0 flow.ways e h))
    ]
  where
    make_point : ℕ → FlowPoint → List Edge
    make_point i x = present (of_point points ids flow.points i x)

    make_way : ℕ → Way → List Edge
    make_way i w = option_to_list (of_ends points w (slice_get flow.points w.from) (slice_get flow.points w.to))

    of_a_point : OfItem make_point 0 flow.points e → OfPoint points ids flow e
    of_a_point y = record {
      place = y.place;
      point = y.item;
      at = y.at;
      is = present_is (of_point points ids flow.points y.place y.item) e
          (subst (λ i. Contains (make_point i y.item) e) (omega arith) y.contains);
    }

    of_a_way : OfItem make_way 0 flow.ways e → OfWay points flow e
    of_a_way y =
        let z = has_ends points y.item (slice_get flow.points y.item.from) (slice_get flow.points y.item.to) e
        (in_option (of_ends points y.item (slice_get flow.points y.item.from) (slice_get flow.points y.item.to)) e y.contains) in
        record {
          way = y.item;
          is_way = contains_at flow.ways y.place y.item y.at;
          from = z.from;
          to = z.to;
          at_from = z.at_from;
          at_to = z.at_to;
          is = z.is;
        }

pub point_has_edge : (points ids : ℕ) (flow : Contents) (e : Edge) → OfPoint points ids flow e → Contains (edges_of points ids flow) e
point_has_edge points ids flow e y =
    Contains-append_left (edges_of_points points ids flow.points flow.points) (edges_of_ways points flow.points flow.ways) e
    (parts_contain make 0 flow.points e (record {
      place = y.place;
      item = y.point;
      at = y.at;
      contains = subst (λ i. Contains (make i y.point) e) (omega arith)
          (is_present (of_point points ids flow.points y.place y.point) e y.is);
    }))
  where
    make : ℕ → FlowPoint → List Edge
    make i x = present (of_point points ids flow.points i x)

pub way_has_edge : (points ids : ℕ) (flow : Contents) (e : Edge) → OfWay points flow e → Contains (edges_of points ids flow) e
way_has_edge points ids flow e y =
    let k = place_in flow.ways y.way y.is_way in
    Contains-append_right (edges_of_points points ids flow.points flow.points) (edges_of_ways points flow.points flow.ways) e
    (parts_contain make 0 flow.ways e (record { place = k.0; item = y.way; at = k.1; contains = there }))
  where
    make : ℕ → Way → List Edge
    make i w = option_to_list (of_ends points w (slice_get flow.points w.from) (slice_get flow.points w.to))

    ends : of_ends points y.way (slice_get flow.points y.way.from) (slice_get flow.points y.way.to) ≡ Some e
    ends =
        ap (λ a. of_ends points y.way a (slice_get flow.points y.way.to)) y.at_from
        ∙ ap (of_ends points y.way (Some y.from)) y.at_to
        ∙ y.is

    there : Contains (option_to_list (of_ends points y.way (slice_get flow.points y.way.from) (slice_get flow.points y.way.to))) e
    there = subst (λ o. Contains (option_to_list o) e) (sym ends) (0, omega arith, refl)
