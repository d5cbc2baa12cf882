-- The marks of a flow, in the order of their numbers.
use Rattle.std.specs.Prelude.{◌≡◌, ℕ, zero, suc, ◌+◌, ◌==◌, Bool, false, ◌&&◌, List, [], ◌∷◌, ◌++◌, Option, Some, None, slice_get, if◌then◌else◌}
use Rattle.std.specs.List.{list_any}
use Rattle.effect_flow.specs.declared.flow.FlowPoint.{FlowPoint}
use Rattle.contextual_effects.specs.Parts.{parts}
use Rattle.checkin_rows.specs.declared.row.Mark.{Mark}
use Rattle.checkin_rows.specs.declared.row.Mark.TheVariants.{Start, CheckIn}
use Rattle.checkin_rows.specs.declared.entries.Entry.{Entry}
use Rattle.checkin_rows.specs.Edges.{is_check_in}

-- how many check-ins of its body come before a point, where n come before it and after the latest entry before it
abbrev pub check_ins_here : ℕ → FlowPoint → ℕ
check_ins_here n x = if x.number == 0 then 0 else n

-- and up to it
abbrev pub check_ins_to : ℕ → Option FlowPoint → ℕ
check_ins_to n (Some x) = if is_check_in x.point.kind then check_ins_here n x + 1 else check_ins_here n x
check_ins_to n None = n

-- how many check-ins come before place i and after the latest entry before it
abbrev pub check_ins_before : List FlowPoint → ℕ → ℕ
check_ins_before xs zero = 0
check_ins_before xs (suc i) = check_ins_to (check_ins_before xs i) (slice_get xs i)

-- the mark of a start, with its node, and that of a check-in
abbrev pub start_at : ℕ → ℕ → FlowPoint → Option Entry
start_at points ids x =
    if x.number == 0
    then Some (record { mark = Start x.function; node = points + points + ids + x.function })
    else None

abbrev pub check_in_at : ℕ → ℕ → FlowPoint → Option Entry
check_in_at n i x =
    if is_check_in x.point.kind then Some (record { mark = CheckIn x.function x.generation n; node = i }) else None

-- those that are there
abbrev pub there : Option Entry → List Entry
there (Some e) = e ∷ []
there None = []

-- the marks of a point, and those of some points
abbrev pub entries_at : ℕ → ℕ → List FlowPoint → ℕ → FlowPoint → List Entry
entries_at points ids xs i x = there (start_at points ids x) ++ there (check_in_at (check_ins_here (check_ins_before xs i) x) i x)

abbrev pub entries_of : ℕ → ℕ → List FlowPoint → List FlowPoint → List Entry
entries_of points ids xs some = parts (entries_at points ids xs) 0 some

-- whether two marks are the same
abbrev pub same_mark : Mark → Mark → Bool
same_mark (Start f) (Start g) = f == g
same_mark (CheckIn f m i) (CheckIn g n j) = f == g && (m == n && i == j)
same_mark (Start f) (CheckIn g n j) = false
same_mark (CheckIn f m i) (Start g) = false

-- marks with one more, unless it is there
abbrev pub with_mark : List Mark → Mark → List Mark
with_mark marks m = if list_any (same_mark m) marks then marks else marks ++ m ∷ []

-- and with some more
abbrev pub with_marks : List Mark → List Mark → List Mark
with_marks marks [] = marks
with_marks marks (m ∷ ms) = with_marks (with_mark marks m) ms

-- the mark of a start, and that of a check-in, before which its body has n others
abbrev pub start_mark : FlowPoint → List Mark
start_mark x = if x.number == 0 then Start x.function ∷ [] else []

abbrev pub check_in_mark : ℕ → FlowPoint → List Mark
check_in_mark n x = if is_check_in x.point.kind then CheckIn x.function x.generation n ∷ [] else []

-- the marks of the point at place i
abbrev pub marks_at : List FlowPoint → ℕ → FlowPoint → List Mark
marks_at xs i x = start_mark x ++ check_in_mark (check_ins_here (check_ins_before xs i) x) x

-- the marks of the points of a flow, each once: for each body in order the start of its function, and then its check-ins
abbrev pub marks_of : List FlowPoint → List Mark
marks_of xs = with_marks [] (parts (marks_at xs) 0 xs)

-- numbers stay where a flow goes on with further points
abbrev pub NumbersStay : Type 0
NumbersStay = (xs ys : List FlowPoint) (m : Mark) (k : ℕ) → slice_get (marks_of xs) k ≡ Some m → slice_get (marks_of (xs ++ ys)) k ≡ Some m
