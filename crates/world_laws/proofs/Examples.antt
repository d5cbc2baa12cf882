-- Small runs: what worlds hold at the start, after moves and after an install, and of texts that don't type.
use Rattle.std.proofs.Common.{◌≡◌, ℕ, List, [], ◌∷◌, Option, Some, None, option_map, option_and_then, refl, pos}
use Rattle.std.specs.Prelude.{codes}
use Rattle.c_ints.specs.declared.kind.Kind.{Kind}
use Rattle.c_ints.specs.declared.kind.Kind.TheVariants.{I32, I64}
use Rattle.c_ints.specs.declared.operator.BinOp.TheVariants.{Add}
use Rattle.c_ints.specs.Number.{number}
use Rattle.c_tree.specs.BareExpr.{Bytes, BareExpr, Integer}
use Rattle.c_tree.specs.BareExpr as e
use Rattle.c_tree.specs.BareStmt.{BareStmts}
use Rattle.c_tree.specs.BareStmt as s
use Rattle.c_tree.specs.BareDef.{BareDef, Mutex, Function, Global, Array, TransformGlobal}
use Rattle.c_semantics.specs.Values.{Value, Number, Started}
use Rattle.source_model.specs.Worlds.{World, Cells, Held, Limits}
use Rattle.source_model.specs.Runs.{SourceMove, Move, Install, run, start}

abbrev limits : Limits
limits = record { objects = 1; slots = 2 }

abbrev after : List (List BareDef) → List SourceMove → Option World
after texts ms = option_and_then (run texts ms) (start texts limits)

abbrev globals : List (List BareDef) → List SourceMove → Option (List Cells)
globals texts ms = option_map (λ w. w.globals) (after texts ms)

abbrev holders : List (List BareDef) → List SourceMove → Option (List Held)
holders texts ms = option_map (λ w. w.holders) (after texts ms)

abbrev cells : Bytes → List Value → Cells
cells name values = record { name = name; cells = values }

abbrev int_value : ℕ → Value
int_value n = Number (number I32 (pos n))

abbrev long_value : ℕ → Value
long_value n = Number (number I64 (pos n))

abbrev literal : ℕ → BareExpr
literal n = e.Number (number I32 (pos n))

abbrev variable : Kind → Bytes → Option BareExpr → BareDef
variable k name initial = Global (record { declared = Integer k; name = name; initial = initial })

abbrev array : Kind → ℕ → Option (List BareExpr) → BareDef
array k n values = Array (Integer k) (codes "v") (number I32 (pos n)) values

abbrev main : BareStmts → BareDef
main body = Function (Some (Integer I32)) (codes "main") [] body

abbrev then : BareExpr → BareStmts → BareStmts
then x ss = s.StmtThen (s.Evaluate x) ss

-- { mtx_lock(&m); g = 7; v[1] = 8; }
abbrev body : BareStmts
body =
    then (e.Lock (codes "m")) (then (e.Assign (e.Variable (codes "g")) (literal 7))
    (then (e.Assign (e.Element (codes "v") (literal 1)) (literal 8)) s.NoStmts))

-- int g = 1; int v[2] = { 3 }; mtx_t m;
abbrev older : List BareDef
older = variable I32 (codes "g") (Some (literal 1)) ∷ array I32 2 (Some (literal 3 ∷ [])) ∷ Mutex (codes "m") ∷ main body ∷ []

-- int v[3]; int h = 5; long g; dsu_transform g = old + 1; the mutex is gone
abbrev newer : List BareDef
newer =
    array I32 3 None ∷ variable I32 (codes "h") (Some (literal 5)) ∷ variable I64 (codes "g") None
    ∷ TransformGlobal (codes "g") (e.Binary Add (e.Variable (codes "old")) (literal 1)) ∷ main s.NoStmts ∷ []

abbrev texts : List (List BareDef)
texts = older ∷ newer ∷ []

at_first : globals texts [] ≡ Some (cells (codes "g") (int_value 1 ∷ []) ∷ cells (codes "v") (int_value 3 ∷ int_value 0 ∷ []) ∷ [])
at_first = refl

none_held : holders texts [] ≡ Some []
none_held = refl

-- the enter of main, and its three stops
abbrev moves : List SourceMove
moves = Move 0 ∷ Move 0 ∷ Move 0 ∷ Move 0 ∷ []

after_moves : globals texts moves ≡ Some (cells (codes "g") (int_value 7 ∷ []) ∷ cells (codes "v") (int_value 3 ∷ int_value 8 ∷ []) ∷ [])
after_moves = refl

one_held : holders texts moves ≡ Some (record { mutex = codes "m"; slot = 0 } ∷ [])
one_held = refl

-- and the install
abbrev and_install : List SourceMove
and_install = Move 0 ∷ Move 0 ∷ Move 0 ∷ Move 0 ∷ Install 1 ∷ []

after_install : globals texts and_install
    ≡ Some (
    cells (codes "v") (int_value 3 ∷ int_value 8 ∷ int_value 0 ∷ []) ∷ cells (codes "h") (int_value 5 ∷ [])
    ∷ cells (codes "g") (long_value 8 ∷ []) ∷ [])
after_install = refl

held_no_more : holders texts and_install ≡ Some []
held_no_more = refl

-- ---- texts that don't type

-- int v[2]; int main(void) { v = 1; }   one cell is left of an array of two
abbrev array_assigned : List BareDef
array_assigned = array I32 2 None ∷ main (then (e.Assign (e.Variable (codes "v")) (literal 1)) s.NoStmts) ∷ []

one_cell_left : globals (array_assigned ∷ []) (Move 0 ∷ Move 0 ∷ []) ≡ Some (cells (codes "v") (int_value 1 ∷ []) ∷ [])
one_cell_left = refl

-- int g; int f(int n) { } int main(void) { thrd_create(&g, f, 0); }   an int holds a thread
abbrev spawned : BareDef
spawned = Function (Some (Integer I32)) (codes "f") (record { declared = Integer I32; name = codes "n" } ∷ []) s.NoStmts

abbrev thread_in_int : List BareDef
thread_in_int =
    variable I32 (codes "g") None ∷ spawned ∷ main (then (e.Create (e.Variable (codes "g")) (codes "f") (literal 0)) s.NoStmts) ∷ []

an_int_holds_a_thread : globals (thread_in_int ∷ []) (Move 0 ∷ Move 0 ∷ Move 0 ∷ [])
    ≡ Some (cells (codes "g") (Started (Some (record { slot = 1; serial = 1 })) ∷ []) ∷ [])
an_int_holds_a_thread = refl

-- int g; int main(void) { mtx_lock(&g); }   what is no mutex is held
abbrev global_locked : List BareDef
global_locked = variable I32 (codes "g") None ∷ main (then (e.Lock (codes "g")) s.NoStmts) ∷ []

no_mutex_is_held : holders (global_locked ∷ []) (Move 0 ∷ Move 0 ∷ []) ≡ Some (record { mutex = codes "g"; slot = 0 } ∷ [])
no_mutex_is_held = refl
