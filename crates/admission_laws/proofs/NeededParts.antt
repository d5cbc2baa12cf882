-- What each part of the test of admission is for: small runs in which a text is installed that only this part refuses.
use Rattle.std.proofs.Common.{◌≡◌, ℕ, Bool, true, false, List, [], ◌∷◌, Option, Some, None, refl, pos}
use Rattle.std.specs.Prelude.{codes, option_map, replicate, ◌++◌}
use Rattle.c_ints.specs.declared.kind.Kind.TheVariants.{I32}
use Rattle.c_ints.specs.Number.{number}
use Rattle.c_tree.specs.BareExpr.{Bytes, BareType, Integer, Thread, BareExpr}
use Rattle.c_tree.specs.BareExpr as e
use Rattle.c_tree.specs.BareStmt.{BareStmt, BareStmts}
use Rattle.c_tree.specs.BareStmt as s
use Rattle.c_tree.specs.BareDef.{BareBinding, BareDef}
use Rattle.c_tree.specs.BareDef as d
use Rattle.source_model.specs.Runs.{SourceMove, Move, Install, source_run}
use Rattle.source_model.specs.Spans.{Span, spans}
use Rattle.source_model.specs.Worlds.{Limits}

abbrev in_order : List BareStmt → BareStmts
in_order [] = s.NoStmts
in_order (a ∷ more) = s.StmtThen a (in_order more)

abbrev int : ℕ → BareExpr
int n = e.Number (number I32 (pos n))

-- f();
abbrev called : Bytes → BareStmt
called name = s.Evaluate (e.Call name e.NoExprs)

-- f(n);
abbrev called_with : Bytes → ℕ → BareStmt
called_with name n = s.Evaluate (e.Call name (e.ExprThen (int n) e.NoExprs))

-- int f(void) { return n; }
abbrev giving : Bytes → ℕ → BareDef
giving name n = d.Function (Some (Integer I32)) name [] (in_order (s.ReturnValue (int n) ∷ []))

-- int f(int x) { return x; }
abbrev taking : Bytes → BareDef
taking name =
    d.Function (Some (Integer I32)) name (record { declared = Integer I32; name = codes "x" } ∷ [])
    (in_order (s.ReturnValue (e.Variable (codes "x")) ∷ []))

-- int main(void) { .. return 0; }
abbrev main : List BareStmt → BareDef
main body = d.Function (Some (Integer I32)) (codes "main") [] (in_order (body ++ s.ReturnValue (int 0) ∷ []))

-- dsu_tx { .. }
abbrev transaction : List BareStmt → BareStmt
transaction body = s.Transaction (in_order body)

abbrev limits : Limits
limits = record { objects = 1; slots = 2 }

-- n moves of the thread in slot 0
abbrev moves : ℕ → List SourceMove
moves n = replicate n (Move 0)

-- whether a definition was misused
abbrev misused : List (List BareDef) → List SourceMove → Option Bool
misused texts ms = option_map (λ r. r.misused) (source_run texts limits ms)

-- the least and the greatest version that the definitions of each record share, or 0 and 0
abbrev shared : List (List BareDef) → List SourceMove → Option (List Span)
shared texts ms = option_map (λ r. spans r.world) (source_run texts limits ms)

abbrev versions : ℕ → ℕ → Option (List Span)
versions first last = Some (record { slot = 0; first = first; last = last } ∷ [])

-- ---- the concrete set: main calls f twice, and between the calls f gets a parameter. Main of version 1 calls it without an
-- argument, which is a misuse

abbrev calling_twice : List BareDef
calling_twice = giving (codes "f") 1 ∷ main (called (codes "f") ∷ called (codes "f") ∷ []) ∷ []

abbrev calling_with : List BareDef
calling_with = taking (codes "f") ∷ main (called_with (codes "f") 1 ∷ called_with (codes "f") 2 ∷ []) ∷ []

another_interface : misused (calling_twice ∷ calling_with ∷ []) (moves 4 ++ Install 1 ∷ moves 2) ≡ Some true
another_interface = refl

-- before main is entered nothing uses f, and the same text does no harm
no_frame_yet : misused (calling_twice ∷ calling_with ∷ []) (Install 1 ∷ moves 7) ≡ Some false
no_frame_yet = refl

-- ---- the set of a started thread: it has its argument, and f is gone when it is to be entered

abbrev starting : List BareDef
starting =
    taking (codes "f")
    ∷ main (s.Declare (record { declared = Thread; name = codes "t"; initial = None })
    ∷ s.Evaluate (e.Create (e.Variable (codes "t")) (codes "f") (int 1)) ∷ []) ∷ []

abbrev starting_none : List BareDef
starting_none = main [] ∷ []

gone : misused (starting ∷ starting_none ∷ []) (moves 2 ++ Install 1 ∷ Move 1 ∷ []) ≡ Some true
gone = refl

-- ---- the prior set or the future set: a transaction calls f before and after f is changed

abbrev giving_twice : ℕ → List BareDef
giving_twice n = giving (codes "f") n ∷ main (transaction (called (codes "f") ∷ called (codes "f") ∷ []) ∷ []) ∷ []

split : shared (giving_twice 1 ∷ giving_twice 2 ∷ []) (moves 5 ++ Install 1 ∷ moves 4) ≡ versions 0 0
split = refl

-- before the first call the future set alone has f, after the second one the prior set alone
new_throughout : shared (giving_twice 1 ∷ giving_twice 2 ∷ []) (moves 2 ++ Install 1 ∷ moves 7) ≡ versions 2 2
new_throughout = refl

old_throughout : shared (giving_twice 1 ∷ giving_twice 2 ∷ []) (moves 8 ++ Install 1 ∷ moves 1) ≡ versions 1 1
old_throughout = refl

-- ---- the future set of a pinned thread: f is changed after its call, then g before its own. Each time the prior set or the
-- future set misses what changes, but f of version 1 and g of version 3 are in no version together

abbrev giving_both : ℕ → ℕ → List BareDef
giving_both n m =
    giving (codes "f") n ∷ giving (codes "g") m ∷ main (transaction (called (codes "f") ∷ called (codes "g") ∷ []) ∷ []) ∷ []

abbrev three : List (List BareDef)
three = giving_both 1 1 ∷ giving_both 2 1 ∷ giving_both 2 2 ∷ []

-- after the first install all that the transaction uses still belongs to version 1
pinned : shared three (moves 5 ++ Install 1 ∷ moves 4) ≡ versions 1 1
pinned = refl

split_by_two : shared three (moves 5 ++ Install 1 ∷ Install 2 ∷ moves 4) ≡ versions 0 0
split_by_two = refl
