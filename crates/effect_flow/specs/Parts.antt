-- What a body adds to a flow.
use Rattle.std.specs.Prelude.{ℕ, suc, ◌+◌, ◌<◌, nat_lt, List, [], ◌∷◌, ◌++◌, IfSome, count_by, if◌then◌else◌}
use Rattle.c_semantics.specs.Skeletons.{is_check_in_kind}
use Rattle.skeletons.specs.declared.point.Point.{Point}
use Rattle.skeletons.specs.Meaning.{kind_of, used_at}
use Rattle.effect_flow.specs.declared.flow.FlowPoint.{FlowPoint}
use Rattle.effect_flow.specs.declared.flow.Way.{Way}

-- what a flow has: its points, one body after another, and the ways between them
pub record Contents : Type 0 where
  pub points : List FlowPoint
  pub ways : List Way

-- the function of a point and the name that it uses have ids below a number
pub record HasIdsBelow (limit : ℕ) (p : FlowPoint) : Type 0 where
  pub function : p.function < limit
  pub used : IfSome (used_at p.point.kind) (λ id. id < limit)

-- how many of some points are check-ins
abbrev pub check_ins_among : List FlowPoint → ℕ
check_ins_among = count_by (λ p. is_check_in_kind (kind_of [] p.point.kind))

-- the points of a body of a function, from number n on
abbrev pub points_from : ℕ → ℕ → ℕ → List Point → List FlowPoint
points_from function generation n [] = []
points_from function generation n (p ∷ ps) =
    record { function = function; generation = generation; number = n; point = p } ∷ points_from function generation (suc n) ps

-- the ways to some targets, from place `from`, in a body of so many points, before which there are others; a target that
-- is no point of the body is passed over
abbrev pub ways_to : ℕ → ℕ → ℕ → List ℕ → List Way
ways_to before size from [] = []
ways_to before size from (t ∷ ts) =
    if nat_lt t size
    then record { from = from; to = before + t } ∷ ways_to before size from ts
    else ways_to before size from ts

-- the ways from the points n, n + 1, .. of a body, by the targets of each; targets after the last point are passed over
abbrev pub ways_from : ℕ → ℕ → ℕ → List (List ℕ) → List Way
ways_from before size n [] = []
ways_from before size n (ts ∷ rest) =
    if nat_lt n size then ways_to before size (before + n) ts ++ ways_from before size (suc n) rest else []
