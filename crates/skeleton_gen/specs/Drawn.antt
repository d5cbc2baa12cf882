-- What a draft shows of a skeleton.
use Rattle.std.specs.Prelude.{◌≡◌, map, reverse}
use Rattle.run_types.specs.Skeleton.{PointKind, Point, Skeleton}
use Rattle.run_types.specs.Skeleton as seen
use Rattle.c_semantics.specs.Names.{struct_name}
use Rattle.c_semantics.specs.Points.{at_depth}
use Rattle.resolved_tree.specs.Nodes.{Table, word}
use Rattle.skeletons.specs.Meaning.{check_in_of, use_of}
use Rattle.skeleton_gen.specs.declared.spot.Spot.{Spot}
use Rattle.skeleton_gen.specs.declared.spot.SpotKind.{SpotKind}
use Rattle.skeleton_gen.specs.declared.spot.SpotKind.TheVariants.{CheckIn, Uses, UsesStruct, Print, Join, Return, Back, Begin, End, Update}
use Rattle.skeleton_gen.specs.declared.draft.Draft.{Draft}
use Rattle.skeleton_gen.specs.Adding.{Drawn}

-- what a thread does at a point, with the texts of the words
abbrev pub kind_of : Table → SpotKind → PointKind
kind_of t (CheckIn kind) = seen.CheckIn (check_in_of kind)
kind_of t (Uses action name) = use_of action (word t name)
kind_of t (UsesStruct action tag) = use_of action (struct_name (word t tag))
kind_of t Print = seen.Print
kind_of t Join = seen.Join
kind_of t Return = seen.Return
kind_of t Back = seen.Back
kind_of t Begin = seen.Begin
kind_of t End = seen.End
kind_of t Update = seen.Update

-- a point
abbrev pub spot_of : Table → Spot → Point
spot_of t spot = at_depth spot.depth (kind_of t spot.kind)

-- what a draft shows
abbrev pub drawn : Table → Draft → Drawn
drawn t d = record { at = d.at; points = reverse (map (spot_of t) d.spots.items); next = reverse d.next.items }

-- a draft shows a whole skeleton
pub record Shows (t : Table) (d : Draft) (s : Skeleton) : Type 0 where
  pub points : (drawn t d).points ≡ s.points
  pub next : (drawn t d).next ≡ s.next
