-- Ids for the names at points.
use Rattle.std.specs.Prelude.{◌≡◌, ℕ, ◌<◌, List, length, Contains, IfSome, Result, Ok, Err}
use Rattle.std.specs.Option.{MatchOption}
use Rattle.std.specs.List.{All}
use Rattle.run_types.specs.Skeleton.{direct_use}
use Rattle.run_types.specs.Skeleton as seen
use Rattle.skeletons.specs.declared.point.PointKind.{PointKind}
use Rattle.skeletons.specs.declared.point.Point.{Point}
use Rattle.skeletons.specs.Meaning.{used_at, kind_of}
use Rattle.skeleton_gen.specs.declared.naming.SkeletonFault.{SkeletonFault}
use Rattle.skeleton_gen.specs.declared.naming.SkeletonFault.TheVariants.{Unknown, Memory}

-- a kind of point uses a name that isn't in a table
abbrev pub UsesUnknown : List (List ℕ) → seen.PointKind → Type 0
UsesUnknown names kind = MatchOption (direct_use kind) ⊥ (λ name. ¬ Contains names name)

-- some point does
pub record HasUnknown (names : List (List ℕ)) (points : List seen.Point) : Type 0 where
  pub point : seen.Point
  pub is_there : Contains points point
  pub unknown : UsesUnknown names point.kind

-- the id that a kind of point uses, if it uses one, is that of a name in a table of so many
abbrev pub IsKnown : ℕ → PointKind → Type 0
IsKnown many kind = IfSome (used_at kind) (λ id. id < many)

-- the id of each point is
abbrev pub AllKnown : ℕ → List Point → Type 0
AllKnown many points = All (λ p. IsKnown many p.kind) points

-- a kind of point with an id for its name, or why it has none
abbrev pub NamesKind : List (List ℕ) → seen.PointKind → Result PointKind SkeletonFault → Type 0
NamesKind names kind (Ok k) = (kind_of names k ≡ kind) × IsKnown (length names) k
NamesKind names kind (Err Unknown) = UsesUnknown names kind
NamesKind names kind (Err Memory) = Unit {0}

-- what holds where a name is unknown
abbrev pub IfUnknown : SkeletonFault → Type 0 → Type 0
IfUnknown Unknown P = P
IfUnknown Memory P = Unit {0}
