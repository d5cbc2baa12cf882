-- The end of a skeleton, and what a part of a tree adds in front of it.
use Rattle.std.specs.Prelude.{◌≡◌, ℕ, ◌+◌, List, ◌++◌, map, length}
use Rattle.run_types.specs.Skeleton.{PointKind, Point}
use Rattle.c_semantics.specs.Points.{at_depth}
use Rattle.c_semantics.specs.Skeletons.{Flow, Part, Targets, ◌then_part◌}

-- the end of a skeleton: the number of its first point, the points, and for each of them where control may go from it
pub record Drawn : Type 0 where
  pub at : ℕ
  pub points : List Point
  pub next : List (List ℕ)

-- a part of a tree has been added in front: its points, and its flow by the number of its first point
pub record AddsFlow (added : List Point) (flow : ℕ → Flow) (old new : Drawn) (begin : List ℕ) : Type 0 where
  pub at : new.at + length added ≡ old.at
  pub points : new.points ≡ added ++ old.points
  pub next : new.next ≡ (flow new.at).next ++ old.next
  pub first : begin ≡ (flow new.at).first

-- the same of a part of an expression at a depth, which control leaves in one way
pub record AddsPart (depth : ℕ) (kinds : List PointKind) (part : ℕ → Part) (to : List ℕ) (old new : Drawn) (begin : List ℕ) : Type 0 where
  pub at : new.at + length kinds ≡ old.at
  pub points : new.points ≡ map (at_depth depth) kinds ++ old.points
  pub next : new.next ≡ (part new.at to).next ++ old.next
  pub first : begin ≡ (part new.at to).first

-- the ways out of a statement
abbrev pub targets : List ℕ → List ℕ → List ℕ → Targets
targets on broken continued = record { on = on; broken = broken; continued = continued }

-- a part with points of some kinds, and then another
abbrev pub in_order : List PointKind → (ℕ → Part) → (ℕ → Part) → ℕ → Part
in_order kinds a b n = a n then_part b (n + length kinds)
