-- Which bodies a flow is that of.
use Rattle.std.specs.Prelude.{IfSome, ◌≡◌, ℕ, zero, suc, ◌+◌, ◌<◌, List, [], ◌∷◌, ◌++◌, All, length, map, Option, option_map}
use Rattle.name_sets.specs.Texts.{IsTable, text_of}
use Rattle.run_types.specs.Skeleton.{Point}
use Rattle.c_tree.specs.BareExpr.{Bytes}
use Rattle.c_semantics.specs.Store.{Body}
use Rattle.effects.specs.Sites.{Site, point_in}
use Rattle.skeletons.specs.Meaning.{point_of, used_at, meant}
use Rattle.skeletons.specs.declared.skeleton.Skeleton.{Skeleton as Code}
use Rattle.effect_flow.specs.declared.flow.FlowPoint.{FlowPoint}
use Rattle.effect_flow.specs.declared.flow.Way.{Way}
use Rattle.effect_flow.specs.Parts.{Contents, HasIdsBelow, ways_from}

-- a point of a body, with the body's function and generation
pub record Spot : Type 0 where
  pub function : Bytes
  pub generation : ℕ
  pub number : ℕ
  pub at : Point

-- the points of a body, from number n on
abbrev pub spots_from : Bytes → ℕ → ℕ → List Point → List Spot
spots_from function generation n [] = []
spots_from function generation n (p ∷ ps) =
    record { function = function; generation = generation; number = n; at = p } ∷ spots_from function generation (suc n) ps

-- the points of the bodies, one body after another
abbrev pub spots : List Body → List Spot
spots [] = []
spots (b ∷ bs) = spots_from b.function b.generation 0 b.skeleton.points ++ spots bs

-- the ways of the bodies, where so many points come before them
abbrev pub ways_after : ℕ → List Body → List Way
ways_after before [] = []
ways_after before (b ∷ bs) =
    let size = length b.skeleton.points in ways_from before size 0 b.skeleton.next ++ ways_after (before + size) bs

-- how many points the bodies before body i have
abbrev pub points_before : List Body → ℕ → ℕ
points_before [] i = 0
points_before (b ∷ bs) zero = 0
points_before (b ∷ bs) (suc i) = length b.skeleton.points + points_before bs i

-- the place of a point among all of them, if it is one
abbrev pub place_of : List Body → Site → Option ℕ
place_of bodies p = option_map (λ at. points_before bodies p.body + p.point) (point_in bodies p)

-- what a point of a flow is by a table of names
abbrev pub spot_of : List Bytes → FlowPoint → Spot
spot_of names p =
    record { function = text_of names p.function; generation = p.generation; number = p.number; at = point_of names p.point }

-- a flow is that of some bodies, by a table of names
pub record IsFlowOf (names : List Bytes) (bodies : List Body) (flow : Contents) : Type 0 where
  pub table : IsTable names
  pub known : All (HasIdsBelow (length names)) flow.points
  pub points : map (spot_of names) flow.points ≡ spots bodies
  pub ways : flow.ways ≡ ways_after 0 bodies

-- a body of a function by a table of names
abbrev pub body_of : List Bytes → ℕ → ℕ → Code → ℕ → Body
body_of names function generation code tokens =
    record { function = text_of names function; generation = generation; skeleton = meant names code; tokens = tokens }

-- the ids of a function and of a skeleton are in a table
pub record AreNamed (names : List Bytes) (function : ℕ) (code : Code) : Type 0 where
  pub named_function : function < length names
  pub named_uses : All (λ p. IfSome (used_at p.kind) (λ id. id < length names)) code.points.items

-- whatever bodies the flow was that of, now it is that of those and one more
abbrev pub AddsBody : Contents → ℕ → ℕ → Code → Contents → Type 0
AddsBody old function generation code new =
    (names : List Bytes) (bodies : List Body) (tokens : ℕ)
    → IsFlowOf names bodies old → AreNamed names function code
    → IsFlowOf names (bodies ++ body_of names function generation code tokens ∷ []) new
