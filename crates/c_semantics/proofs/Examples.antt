-- Skeletons of small bodies, computed: for each point in order what it is, how deep in transactions, and where control may
-- go from it.
use Rattle.std.proofs.Common.{◌≡◌, ℕ, suc, ◌-◌, true, false, List, [], ◌∷◌, map, Some, refl, pos}
use Rattle.std.specs.Prelude.{codes, replicate}
use Rattle.std.specs.List.{range_with_len}
use Rattle.c_ints.specs.declared.kind.Kind.TheVariants.{I32}
use Rattle.c_ints.specs.Number.{number}
use Rattle.run_types.specs.CheckIns.{CheckInKind, Entry}
use Rattle.run_types.specs.CheckIns as check_in
use Rattle.run_types.specs.Skeleton.{PointKind, Point, CheckIn, Call, ReadGlobal, WriteGlobal, Lock, Return, Back, Begin, End, Update, point_at, reached}
use Rattle.c_tree.specs.BareExpr.{Bytes}
use Rattle.c_semantics.specs.Resolved.{Expression, Statement, Statements, NoExpressions, NoStatements, StatementThen}
use Rattle.c_semantics.specs.Resolved as tree
use Rattle.c_semantics.specs.Skeletons.{skeleton}
use Rattle.c_semantics.specs.Leaving.{leaves_at_ends}

-- a point with its depth and its ways on
record Shown : Type 0 where
  kind : PointKind
  depth : ℕ
  next : List ℕ

abbrev shown_from : List Point → List (List ℕ) → List Shown
shown_from [] rows = []
shown_from (p ∷ ps) [] = []
shown_from (p ∷ ps) (row ∷ rows) = record { kind = p.kind; depth = p.depth; next = row } ∷ shown_from ps rows

abbrev in_order : List Statement → Statements
in_order [] = NoStatements
in_order (a ∷ more) = StatementThen a (in_order more)

abbrev shown : List Statement → List Shown
shown body = let s = skeleton (in_order body) in shown_from s.points s.next

abbrev at : PointKind → List ℕ → Shown
at kind next = record { kind = kind; depth = 0; next = next }

abbrev deeper : ℕ → PointKind → List ℕ → Shown
deeper depth kind next = record { kind = kind; depth = depth; next = next }

-- a local variable, a global one, a constant, a call without arguments, g = 1
abbrev l : Expression
l = tree.Read (tree.Local (codes "l"))

abbrev g : Expression
g = tree.Read (tree.Global (codes "g"))

abbrev nil : Expression
nil = tree.Constant (number I32 (pos 0))

abbrev call : Bytes → Expression
call name = tree.Call name NoExpressions

abbrev called : Bytes → Statement
called name = tree.Evaluate (call name)

abbrev set : Expression
set = tree.Assign (tree.Global (codes "g")) nil

-- if (l) f(); else g = 0;
if_else : shown (tree.IfElse l (called (codes "f")) (tree.Evaluate set) ∷ [])
    ≡ at (CheckIn Entry) (1 ∷ 3 ∷ []) ∷ at (Call (codes "f")) (2 ∷ []) ∷ at (CheckIn check_in.Call) (4 ∷ [])
    ∷ at (WriteGlobal (codes "g")) (4 ∷ []) ∷ at Return [] ∷ []
if_else = refl

-- if (a() && b()) x();   each condition is taken both ways, so control may also go from a to x
both_calls : shown (tree.If (tree.And (call (codes "a")) (call (codes "b"))) (called (codes "x")) ∷ [])
    ≡ at (CheckIn Entry) (1 ∷ []) ∷ at (Call (codes "a")) (2 ∷ []) ∷ at (CheckIn check_in.Call) (3 ∷ 5 ∷ 7 ∷ [])
    ∷ at (Call (codes "b")) (4 ∷ []) ∷ at (CheckIn check_in.Call) (5 ∷ 7 ∷ []) ∷ at (Call (codes "x")) (6 ∷ [])
    ∷ at (CheckIn check_in.Call) (7 ∷ []) ∷ at Return [] ∷ []
both_calls = refl

-- while (g) { if (l) continue; f(); }
while_loop : shown (tree.While g (tree.Block (in_order (tree.If l tree.Continue ∷ called (codes "f") ∷ []))) ∷ [])
    ≡ at (CheckIn Entry) (1 ∷ []) ∷ at (ReadGlobal (codes "g")) (2 ∷ 4 ∷ 5 ∷ []) ∷ at (Call (codes "f")) (3 ∷ [])
    ∷ at (CheckIn check_in.Call) (4 ∷ []) ∷ at Back (1 ∷ []) ∷ at Return [] ∷ []
while_loop = refl

-- do { if (l) continue; f(); } while (g);
do_loop : shown (tree.DoWhile (tree.Block (in_order (tree.If l tree.Continue ∷ called (codes "f") ∷ []))) g ∷ [])
    ≡ at (CheckIn Entry) (1 ∷ 3 ∷ []) ∷ at (Call (codes "f")) (2 ∷ []) ∷ at (CheckIn check_in.Call) (3 ∷ [])
    ∷ at (ReadGlobal (codes "g")) (4 ∷ 5 ∷ []) ∷ at Back (1 ∷ 3 ∷ []) ∷ at Return [] ∷ []
do_loop = refl

-- for (g = 0; g; g = 0) { if (l) break; if (l) continue; f(); }
for_loop : shown (tree.For (in_order (tree.Evaluate set ∷ [])) (Some g) (Some set)
    (tree.Block (in_order (tree.If l tree.Break ∷ tree.If l tree.Continue ∷ called (codes "f") ∷ []))) ∷ [])
    ≡ at (CheckIn Entry) (1 ∷ []) ∷ at (WriteGlobal (codes "g")) (2 ∷ []) ∷ at (ReadGlobal (codes "g")) (3 ∷ 5 ∷ 7 ∷ [])
    ∷ at (Call (codes "f")) (4 ∷ []) ∷ at (CheckIn check_in.Call) (5 ∷ []) ∷ at (WriteGlobal (codes "g")) (6 ∷ [])
    ∷ at Back (2 ∷ []) ∷ at Return [] ∷ []
for_loop = refl

-- dsu_tx { mtx_lock(&m); dsu_tx { } dsu_update(); }
nested : List Statement
nested =
    tree.Transaction (in_order
    (tree.Evaluate (tree.Lock (codes "m")) ∷ tree.Transaction NoStatements ∷ tree.UpdatePoint ∷ [])) ∷ []

transactions : shown nested
    ≡ at (CheckIn Entry) (1 ∷ []) ∷ at Begin (2 ∷ []) ∷ deeper 1 (CheckIn check_in.Begin) (3 ∷ [])
    ∷ deeper 1 (Lock (codes "m")) (4 ∷ []) ∷ deeper 1 Begin (5 ∷ []) ∷ deeper 2 (CheckIn check_in.Begin) (6 ∷ [])
    ∷ deeper 2 End (7 ∷ []) ∷ deeper 1 (CheckIn check_in.End) (8 ∷ []) ∷ deeper 1 Update (9 ∷ [])
    ∷ deeper 1 (CheckIn check_in.Update) (10 ∷ []) ∷ deeper 1 End (11 ∷ []) ∷ at (CheckIn check_in.End) (12 ∷ [])
    ∷ at Return [] ∷ []
unfolding nested
transactions = refl

-- the end that closes the outer one; where a thread is that made a stop
outer_end : point_at (skeleton (in_order nested)) 10 ≡ Some (record { kind = End; depth = 1 })
unfolding nested
outer_end = refl

after_them : map (reached (skeleton (in_order nested))) (0 ∷ 1 ∷ 3 ∷ 10 ∷ []) ≡ 0 ∷ 2 ∷ 3 ∷ 11 ∷ []
unfolding nested
after_them = refl

-- return 0; f();   what can't be reached has points, and nothing leads to them
unreachable : shown (tree.Return nil ∷ called (codes "f") ∷ [])
    ≡ at (CheckIn Entry) (1 ∷ []) ∷ at Return [] ∷ at (Call (codes "f")) (3 ∷ []) ∷ at (CheckIn check_in.Call) (4 ∷ [])
    ∷ at Return [] ∷ []
unreachable = refl

-- if (l) ;   sixteen times: one way
sixteen : shown (replicate 16 (tree.If l tree.Empty)) ≡ at (CheckIn Entry) (1 ∷ []) ∷ at Return [] ∷ []
sixteen = refl

-- if (l) g = 0;   sixteen times: from each point to each later one
abbrev later : ℕ → List ℕ
later n = range_with_len (suc n) (17 - n)

sixteen_writes : (skeleton (in_order (replicate 16 (tree.If l (tree.Evaluate set))))).next ≡ map later (range_with_len 0 18)
sixteen_writes = refl

-- a transaction that a break, a continue or a return leaves, and those that stay
leaves : map (λ body. leaves_at_ends (in_order body))
    ((tree.While g (tree.Transaction (in_order (tree.Break ∷ []))) ∷ [])
    ∷ (tree.Transaction (in_order (tree.Return nil ∷ [])) ∷ []) ∷ (tree.Continue ∷ [])
    ∷ (tree.Transaction (in_order (tree.While g tree.Break ∷ [])) ∷ tree.Return nil ∷ []) ∷ [])
    ≡ false ∷ false ∷ false ∷ true ∷ []
leaves = refl
