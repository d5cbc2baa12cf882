-- The shape of a skeleton: where a body begins and ends, and from which of its points control goes on.
use Rattle.std.specs.Prelude.{◌≡◌, ◌≢◌, ℕ, suc, ◌<◌, IsTrue, [], ◌∷◌, length, Some, option_map}
use Rattle.run_types.specs.CheckIns.{CheckInKind, Entry}
use Rattle.run_types.specs.Skeleton.{PointKind, Point, Skeleton, CheckIn, Return, End, Leads, after, check_in_after, depth_after, entry, kind_at, point_at, successors}
use Rattle.c_semantics.specs.Leaving.{leaves_at_ends}
use Rattle.c_semantics.specs.Resolved.{Statements}
use Rattle.c_semantics.specs.Skeletons.{skeleton}

-- the first point is the entry check-in, the last one a return, each in no transaction
abbrev pub BeginsAndEnds : Type 0
BeginsAndEnds =
    (body : Statements)
    → (point_at (skeleton body) entry ≡ Some (record { kind = CheckIn Entry; depth = 0 }))
    × ((last : ℕ) × (length (skeleton body).points ≡ suc last)
    × (point_at (skeleton body) last ≡ Some (record { kind = Return; depth = 0 })))

-- from a stop that leads to a check-in control goes to it alone, from a return nowhere, and from each other point somewhere
pub record GoesOn (s : Skeleton) (n : ℕ) (k : PointKind) : Type 0 where
  pub passes : (c : CheckInKind) → check_in_after k ≡ Some c → successors s n ≡ after n ∷ []
  pub returns : k ≡ Return → successors s n ≡ []
  pub stays : k ≢ Return → successors s n ≢ []

-- so it is in each body whose transactions are left at their ends, and whose loops are by `break` and `continue`
abbrev pub EachGoesOn : Type 0
EachGoesOn =
    (body : Statements) (n : ℕ) (k : PointKind)
    → IsTrue (leaves_at_ends body) → kind_at (skeleton body) n ≡ Some k → GoesOn (skeleton body) n k

-- control goes from a point to points that as many transactions enclose as a thread is in after it; an end is in one, a return
-- in none
pub record DepthsFollow (s : Skeleton) : Type 0 where
  pub follows : (n m : ℕ) (p : Point) → Leads s n m → point_at s n ≡ Some p
      → option_map (λ q. q.depth) (point_at s m) ≡ Some (depth_after p.kind p.depth)
  pub ends : (n : ℕ) (p : Point) → point_at s n ≡ Some p → p.kind ≡ End → 0 < p.depth
  pub returns : (n : ℕ) (p : Point) → point_at s n ≡ Some p → p.kind ≡ Return → p.depth ≡ 0

-- so it is too in each body whose transactions are left at their ends
abbrev pub EachDepthFollows : Type 0
EachDepthFollows = (body : Statements) → IsTrue (leaves_at_ends body) → DepthsFollow (skeleton body)
