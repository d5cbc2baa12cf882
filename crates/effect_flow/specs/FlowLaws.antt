-- What the flow of some bodies says of their points.
use Rattle.std.specs.Prelude.{◌≡◌, ℕ, ◌<◌, ◌↔◌, List, ◌++◌, length, slice_get, Contains, Some}
use Rattle.name_sets.specs.Texts.{IsTable, text_of}
use Rattle.skeletons.specs.Meaning.{point_of}
use Rattle.c_tree.specs.BareExpr.{Bytes}
use Rattle.c_semantics.specs.Store.{Body}
use Rattle.effects.specs.Sites.{Site, point_in, function_in, Next}
use Rattle.effect_flow.specs.declared.flow.FlowPoint.{FlowPoint}
use Rattle.effect_flow.specs.declared.flow.Way.{Way}
use Rattle.effect_flow.specs.Parts.{Contents}
use Rattle.effect_flow.specs.Flows.{place_of, IsFlowOf}

-- a place is that of one point
abbrev pub OnePoint : Type 0
OnePoint = (bodies : List Body) (p q : Site) (i : ℕ) → place_of bodies p ≡ Some i → place_of bodies q ≡ Some i → p ≡ q

-- places are the numbers below the number of points
abbrev pub PlacesAreAll : Type 0
PlacesAreAll =
    (names : List Bytes) (bodies : List Body) (flow : Contents) → IsFlowOf names bodies flow
    → (i : ℕ) → (i < length flow.points) ↔ ((p : Site) × (place_of bodies p ≡ Some i))

-- a point of a flow says what is at a site of the bodies
pub record IsPointAt (names : List Bytes) (bodies : List Body) (p : Site) (x : FlowPoint) : Type 0 where
  pub function : function_in bodies p ≡ Some (text_of names x.function)
  pub number : x.number ≡ p.point
  pub point : point_in bodies p ≡ Some (point_of names x.point)

-- at the place of a site the flow has its point
abbrev pub PointsAreSites : Type 0
PointsAreSites =
    (names : List Bytes) (bodies : List Body) (flow : Contents) → IsFlowOf names bodies flow
    → (p : Site) (i : ℕ) (x : FlowPoint) → place_of bodies p ≡ Some i → slice_get flow.points i ≡ Some x
    → IsPointAt names bodies p x

-- control may go from one point to another without a point between exactly if there is a way between their places
abbrev pub WaysAreNext : Type 0
WaysAreNext =
    (names : List Bytes) (bodies : List Body) (flow : Contents) → IsFlowOf names bodies flow
    → (p q : Site) (i j : ℕ) → place_of bodies p ≡ Some i → place_of bodies q ≡ Some j
    → Next bodies p q ↔ Contains flow.ways (record { from = i; to = j })

-- ways are between points of the flow
abbrev pub WaysHaveEnds : Type 0
WaysHaveEnds =
    (names : List Bytes) (bodies : List Body) (flow : Contents) → IsFlowOf names bodies flow
    → (w : Way) → Contains flow.ways w → (w.from < length flow.points) × (w.to < length flow.points)

-- where names are added to the table, the flow is still that of the bodies
abbrev pub FlowsStay : Type 0
FlowsStay =
    (names more : List Bytes) (bodies : List Body) (flow : Contents)
    → IsFlowOf names bodies flow → IsTable (names ++ more) → IsFlowOf (names ++ more) bodies flow
