-- The points of code: which instructions are points, with their numbers and the transactions that enclose them.
use Rattle.std.specs.Prelude.{◌≡◌, ℕ, suc, List, [], ◌∷◌, ◌++◌, Option, Some, None}
use Rattle.run_types.specs.Skeleton.{PointKind, Point, depth_after}
use Rattle.run_types.specs.Skeleton as kind
use Rattle.c_semantics.specs.Stops.{kind_of}
use Rattle.c_semantics.specs.Points.{at_depth}
use Rattle.bytecode.specs.Instructions.{Instruction, Halt, Back, CheckIn}
use Rattle.tree_code.specs.Code.{Code}

-- a point of code: its number in the function's skeleton, and what it is
pub record CodePoint : Type 0 where
  pub number : ℕ
  pub kind : PointKind

-- the point that an instruction is, if it is one
abbrev pub point_of : Instruction → Option CodePoint
point_of (Halt s n) = Some (record { number = n; kind = kind_of s })
point_of (Back d n v) = Some (record { number = n; kind = kind.Back })
point_of (CheckIn k n) = Some (record { number = n; kind = kind.CheckIn k })
point_of _ = None

-- the point at a depth, and the depth after it
abbrev pub placed : ℕ → Option CodePoint → List Point
placed depth None = []
placed depth (Some x) = at_depth depth x.kind ∷ []

abbrev pub past : ℕ → Option CodePoint → ℕ
past depth None = depth
past depth (Some x) = depth_after x.kind depth

-- the points of some code in order, from a depth on
abbrev pub points_from : ℕ → Code → List Point
points_from depth [] = []
points_from depth (i ∷ is) = placed depth (point_of i) ++ points_from (past depth (point_of i)) is

-- the point has the number n, and the number of the next point
abbrev pub HasNumber : ℕ → Option CodePoint → Type 0
HasNumber n None = Unit {0}
HasNumber n (Some x) = x.number ≡ n

abbrev pub next_number : ℕ → Option CodePoint → ℕ
next_number n None = n
next_number n (Some x) = suc n

-- the points of some code have the numbers from n on, one after the other
abbrev pub Numbered : ℕ → Code → Type 0
Numbered n [] = Unit {0}
Numbered n (i ∷ is) = HasNumber n (point_of i) × Numbered (next_number n (point_of i)) is
