-- A small text and two newer ones, as trees without places.
use Rattle.std.specs.Prelude.{ℕ, List, [], ◌∷◌, Some, pos, codes}
use Rattle.c_ints.specs.declared.kind.Kind.TheVariants.{I32}
use Rattle.c_ints.specs.Number.{number}
use Rattle.c_tree.specs.BareExpr.{Bytes, Integer, BareExpr, BareExprs}
use Rattle.c_tree.specs.BareExpr as e
use Rattle.c_tree.specs.BareStmt.{BareStmt, BareStmts}
use Rattle.c_tree.specs.BareStmt as s
use Rattle.c_tree.specs.BareDef.{BareDef}
use Rattle.c_tree.specs.BareDef as d
use Rattle.c_semantics.specs.SourceTexts.{Text}

-- { .. }
abbrev pub in_order : List BareStmt → BareStmts
in_order [] = s.NoStmts
in_order (a ∷ more) = s.StmtThen a (in_order more)

-- n
abbrev pub int : ℕ → BareExpr
int n = e.Number (number I32 (pos n))

-- name()
abbrev pub call : Bytes → BareExpr
call name = e.Call name e.NoExprs

-- printf(format, a, ..);
abbrev pub arguments : List BareExpr → BareExprs
arguments [] = e.NoExprs
arguments (a ∷ more) = e.ExprThen a (arguments more)

abbrev pub prints : Bytes → List BareExpr → BareStmt
prints format values = s.Evaluate (e.Print format (arguments values))

-- int name(void) { .. }
abbrev pub function : Bytes → List BareStmt → BareDef
function name body = d.Function (Some (Integer I32)) name [] (in_order body)

-- int name(void) { return n; }
abbrev pub giving : Bytes → ℕ → BareDef
giving name n = function name (s.ReturnValue (int n) ∷ [])

-- int main(void) {
--   dsu_tx {
--     printf("%d\n", f());
--     dsu_update();
--     printf("%d\n", g());
--   }
--   printf("done\n");
--   printf("%d %d\n", f(), g());
--   return 0;
-- }
abbrev pub main : BareDef
main =
    function (codes "main")
    (s.Transaction (in_order
    (prints (codes "%d\n") (call (codes "f") ∷ []) ∷ s.Update ∷ prints (codes "%d\n") (call (codes "g") ∷ []) ∷ []))
    ∷ prints (codes "done\n") []
    ∷ prints (codes "%d %d\n") (call (codes "f") ∷ call (codes "g") ∷ [])
    ∷ s.ReturnValue (int 0) ∷ [])

-- a text of such definitions. Its numbers of tokens count against the limit of a store alone, and its tree is asked for
-- faults of transformers alone, so both are left out
abbrev pub text : List BareDef → Text
text definitions = record { definitions = definitions; tokens = []; tree = record { definitions = []; end = 0 } }

-- the first text; the second one, where f is replaced; and the third one, where g is replaced too
abbrev pub first : Text
first = text (giving (codes "f") 1 ∷ giving (codes "g") 2 ∷ main ∷ [])

abbrev pub second : Text
second = text (giving (codes "f") 10 ∷ giving (codes "g") 2 ∷ main ∷ [])

abbrev pub third : Text
third = text (giving (codes "f") 10 ∷ giving (codes "g") 20 ∷ main ∷ [])
