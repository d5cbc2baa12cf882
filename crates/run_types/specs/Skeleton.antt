-- What is left of a function's code where only the order and the names of its stops count.
use Rattle.std.specs.Prelude.{◌≡◌, ℕ, suc, pred, List, [], Contains, slice_get, slice_index_or, Option, Some, None, option_map}
use Rattle.std.specs.Option.{option_and_then}
use Rattle.run_types.specs.CheckIns.{CheckInKind}
use Rattle.run_types.specs.CheckIns as check_in

-- a place where a thread stops, with the name that it uses there, or a check-in; a struct `T` has the name `struct T`
pub data PointKind : Type 0 where
  CheckIn : CheckInKind → PointKind
  ReadGlobal : List ℕ → PointKind
  WriteGlobal : List ℕ → PointKind
  ReadElement : List ℕ → PointKind
  WriteElement : List ℕ → PointKind
  ReadField : List ℕ → PointKind
  WriteField : List ℕ → PointKind
  New : List ℕ → PointKind
  Free : List ℕ → PointKind
  Print : PointKind
  InitMutex : List ℕ → PointKind
  Lock : List ℕ → PointKind
  Unlock : List ℕ → PointKind
  Spawn : List ℕ → PointKind
  Join : PointKind
  Call : List ℕ → PointKind
  Return : PointKind
  Back : PointKind
  Begin : PointKind
  End : PointKind
  Update : PointKind

-- a point, with the number of transactions that enclose it in the function's text: a begin has the depth outside, its
-- check-in and the end have the depth inside
pub record Point : Type 0 where
  pub kind : PointKind
  pub depth : ℕ

-- the points of a function in order of evaluation, counted from 0, and for each of them in order the points to which
-- control may go from it without a point between, as an ordered list without repeats
pub record Skeleton : Type 0 where
  pub points : List Point
  pub next : List (List ℕ)

-- the name that is used at a point, if one is; a call's is used when the function is entered
abbrev pub direct_use : PointKind → Option (List ℕ)
direct_use (ReadGlobal name) = Some name
direct_use (WriteGlobal name) = Some name
direct_use (ReadElement name) = Some name
direct_use (WriteElement name) = Some name
direct_use (ReadField name) = Some name
direct_use (WriteField name) = Some name
direct_use (New name) = Some name
direct_use (Free name) = Some name
direct_use (InitMutex name) = Some name
direct_use (Lock name) = Some name
direct_use (Unlock name) = Some name
direct_use (Spawn name) = Some name
direct_use (Call name) = Some name
direct_use (CheckIn kind) = None
direct_use Print = None
direct_use Join = None
direct_use Return = None
direct_use Back = None
direct_use Begin = None
direct_use End = None
direct_use Update = None

-- which check-in a point is, if it is one
abbrev pub check_in_of : PointKind → Option CheckInKind
check_in_of (CheckIn kind) = Some kind
check_in_of _ = None

-- which check-in directly follows a stop, if one does; a call's comes after the return
abbrev pub check_in_after : PointKind → Option CheckInKind
check_in_after (Call name) = Some check_in.Call
check_in_after Begin = Some check_in.Begin
check_in_after End = Some check_in.End
check_in_after Update = Some check_in.Update
check_in_after _ = None

-- in how many transactions a thread is after a point, by how many it was in before
abbrev pub depth_after : PointKind → ℕ → ℕ
depth_after Begin depth = suc depth
depth_after End depth = pred depth
depth_after _ depth = depth

-- the point with a number, and what it is
abbrev pub point_at : Skeleton → ℕ → Option Point
point_at s n = slice_get s.points n

abbrev pub kind_at : Skeleton → ℕ → Option PointKind
kind_at s n = option_map (λ p. p.kind) (point_at s n)

-- which check-in the point n is, if it is one
abbrev pub check_in_at : Skeleton → ℕ → Option CheckInKind
check_in_at s n = option_and_then check_in_of (kind_at s n)

-- the points to which control may go from point n without a point between
abbrev pub successors : Skeleton → ℕ → List ℕ
successors s n = slice_index_or s.next n []

-- control may go from point a to point b without a point between
pub record Leads (s : Skeleton) (a b : ℕ) : Type 0 where
  pub leads : Contains (successors s a) b

-- the entry check-in
abbrev pub entry : ℕ
entry = 0

-- the check-in that directly follows the stop n, where one does
abbrev pub after : ℕ → ℕ
after n = suc n

-- the point to which a thread came that made the stop at n: the check-in that follows it, where one does, else the stop
abbrev pub reached_by : Option CheckInKind → ℕ → ℕ
reached_by (Some kind) n = after n
reached_by None n = n

abbrev pub reached : Skeleton → ℕ → ℕ
reached s n = reached_by (option_and_then check_in_after (kind_at s n)) n

-- point n is a call of a function
pub record IsCall (s : Skeleton) (n : ℕ) (name : List ℕ) : Type 0 where
  pub is_call : kind_at s n ≡ Some (Call name)

-- point n is a return
pub record IsReturn (s : Skeleton) (n : ℕ) : Type 0 where
  pub is_return : kind_at s n ≡ Some Return

-- point n is the end of a transaction that no other encloses in the function's text
pub record IsOuterEnd (s : Skeleton) (n : ℕ) : Type 0 where
  pub is_end : point_at s n ≡ Some (record { kind = End; depth = 1 })
