-- The functions of a text and the check-ins of their bodies, and the words by which a line names a check-in.
use Rattle.std.specs.Prelude.{ℕ, zero, suc, List, [], ◌∷◌, ◌++◌, length, slice_index, filter_map, codes, Option, Some, None}
use Rattle.std.specs.Fmt.{decimal}
use Rattle.run_types.specs.CheckIns.{CheckInKind, Entry, Call, Begin, End, Update}
use Rattle.run_types.specs.Skeleton.{Skeleton, check_in_at}
use Rattle.c_tree.specs.BareExpr.{Bytes}
use Rattle.c_tree.specs.declared.def.DefKind.{DefKind}
use Rattle.c_tree.specs.declared.def.DefKind.TheVariants.{Function}
use Rattle.c_tree.specs.declared.def.Function.{Function as FunctionTree}
use Rattle.c_tree.specs.declared.def.Program.{Program}
use Rattle.c_tree.specs.declared.def.Def.{Def}
use Rattle.dsu_report.specs.Places.{line_at, column_at}

-- a check-in of a body: its number among the body's points, its place in the text and its kind
pub record CheckIn : Type 0 where
  pub point : ℕ
  pub place : ℕ
  pub kind : CheckInKind

-- the check-in that a point is, if it is one
abbrev pub check_in_if : Option CheckInKind → ℕ → ℕ → List CheckIn
check_in_if (Some kind) point place = record { point = point; place = place; kind = kind } ∷ []
check_in_if None point place = []

-- the check-ins among the first points of a skeleton, by the places of its points
abbrev pub check_ins_below : Skeleton → List ℕ → ℕ → List CheckIn
check_ins_below skeleton at zero = []
check_ins_below skeleton at (suc n) =
    check_ins_below skeleton at n ++ check_in_if (check_in_at skeleton n) n (slice_index at n)

-- all of them
abbrev pub check_ins_in : Skeleton → List ℕ → List CheckIn
check_ins_in skeleton at = check_ins_below skeleton at (length skeleton.points)

-- the function that a definition defines, if it defines one
abbrev pub function_of : DefKind → Option FunctionTree
function_of (Function f) = Some f
function_of _ = None

-- the functions that some definitions define, in their order
abbrev pub functions_in : List Def → List FunctionTree
functions_in = filter_map (λ d. function_of d.kind)

-- the functions of a program, in the order of its text
abbrev pub functions : Program → List FunctionTree
functions p = functions_in p.definitions

-- a check-in's kind
abbrev pub kind_word : CheckInKind → Bytes
kind_word Entry = codes "entry"
kind_word Call = codes "call"
kind_word Begin = codes "begin"
kind_word End = codes "end"
kind_word Update = codes "update"

-- what the line of a check-in begins with: the line and the column of its place in a text, and its kind
abbrev pub head_text : Bytes → ℕ → CheckInKind → Bytes
head_text text place kind =
    codes "  " ++ decimal (line_at text place) ++ codes ":" ++ decimal (column_at text place) ++ codes " " ++ kind_word kind
