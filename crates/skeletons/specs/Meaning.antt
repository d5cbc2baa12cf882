-- What points and skeletons mean under the texts of a table of names.
use Rattle.std.specs.Prelude.{ℕ, List, map, Option, Some, None}
use Rattle.run_types.specs.CheckIns as check_in
use Rattle.run_types.specs.Skeleton as seen
use Rattle.name_sets.specs.Texts.{text_of}
use Rattle.skeletons.specs.declared.point.CheckInKind.{CheckInKind}
use Rattle.skeletons.specs.declared.point.CheckInKind.TheVariants as after
use Rattle.skeletons.specs.declared.point.Use.{Use}
use Rattle.skeletons.specs.declared.point.Use.TheVariants.{ReadGlobal, WriteGlobal, ReadElement, WriteElement, ReadField, WriteField, New, Free, InitMutex, Lock, Unlock, Spawn, Call}
use Rattle.skeletons.specs.declared.point.PointKind.{PointKind}
use Rattle.skeletons.specs.declared.point.PointKind.TheVariants.{CheckIn, Uses, Print, Join, Return, Back, Begin, End, Update}
use Rattle.skeletons.specs.declared.point.Point.{Point}
use Rattle.skeletons.specs.declared.skeleton.Skeleton.{Skeleton}

-- which check-in it is
abbrev pub check_in_of : CheckInKind → check_in.CheckInKind
check_in_of after.Entry = check_in.Entry
check_in_of after.Call = check_in.Call
check_in_of after.Begin = check_in.Begin
check_in_of after.End = check_in.End
check_in_of after.Update = check_in.Update

-- a stop that uses a name
abbrev pub use_of : Use → List ℕ → seen.PointKind
use_of ReadGlobal name = seen.ReadGlobal name
use_of WriteGlobal name = seen.WriteGlobal name
use_of ReadElement name = seen.ReadElement name
use_of WriteElement name = seen.WriteElement name
use_of ReadField name = seen.ReadField name
use_of WriteField name = seen.WriteField name
use_of New name = seen.New name
use_of Free name = seen.Free name
use_of InitMutex name = seen.InitMutex name
use_of Lock name = seen.Lock name
use_of Unlock name = seen.Unlock name
use_of Spawn name = seen.Spawn name
use_of Call name = seen.Call name

-- a kind of point under the texts of a table
abbrev pub kind_of : List (List ℕ) → PointKind → seen.PointKind
kind_of names (CheckIn kind) = seen.CheckIn (check_in_of kind)
kind_of names (Uses action name) = use_of action (text_of names name)
kind_of names Print = seen.Print
kind_of names Join = seen.Join
kind_of names Return = seen.Return
kind_of names Back = seen.Back
kind_of names Begin = seen.Begin
kind_of names End = seen.End
kind_of names Update = seen.Update

-- a point
abbrev pub point_of : List (List ℕ) → Point → seen.Point
point_of names p = record { kind = kind_of names p.kind; depth = p.depth }

-- a skeleton
abbrev pub meant : List (List ℕ) → Skeleton → seen.Skeleton
meant names s = record { points = map (point_of names) s.points.items; next = s.next.items }

-- the id of the name that is used at a point, if one is
abbrev pub used_at : PointKind → Option ℕ
used_at (Uses action name) = Some name
used_at _ = None

-- the id of the function that is called at a point, if one is
abbrev pub called_at : PointKind → Option ℕ
called_at (Uses Call name) = Some name
called_at _ = None

-- the function that is called at a point, if one is
abbrev pub called_by : seen.PointKind → Option (List ℕ)
called_by (seen.Call name) = Some name
called_by _ = None
