-- A frame that comes through the body of an int function returns an int.
use Rattle.std.proofs.Common.{◌≡◌, ◌≢◌, ℕ, suc, ◌+◌, List, [], ◌∷◌, Option, Some, None, refl, sym, subst}
use Rattle.c_tree.specs.BareExpr.{BareType}
use Rattle.c_tree.specs.BareStmt.{BareStmt, BareStmts}
use Rattle.c_tree.specs.BareStmt as bare
use Rattle.c_tree.specs.BareDef.{BareBinding, BareDef, Function}
use Rattle.c_semantics.specs.Texts.{Definitions, int, result_type}
use Rattle.c_semantics.specs.Values.{Value, zero_of}
use Rattle.c_semantics.specs.Resolved.{Statements}
use Rattle.c_semantics.specs.Resolution.{as_locals, declared_by, declared_by_all, resolved_body, statement, statements}
use Rattle.c_semantics.specs.Points.{size_stmts}
use Rattle.c_semantics.specs.Stops.{Stop}
use Rattle.c_semantics.specs.Stops as stop
use Rattle.c_semantics.specs.Pieces.{Piece, Scopes, Push, At}
use Rattle.c_semantics.specs.Evaluation.{local}
use Rattle.c_semantics.specs.SkeletonLaws.{Comes, entered, stopped}
use Rattle.c_semantics.specs.Threads.{body_pieces}
use Rattle.returned_ints.specs.ReturnedInts.{ReturnsAreInts}
use Rattle.returned_ints.proofs.Returning.{AtStop, Good, Safe, nothing}
use Rattle.returned_ints.proofs.ReturningStatements.{AllConvert, Converts, statements as safe, zero_given}

-- ---- the body of an int function converts what it returns

mutual
  converts : (look : Definitions) (result : BareType) (locals : List BareBinding) (s : BareStmt) → result ≡ int
      → Converts (statement look result locals s)
  converts look result locals (bare.Block ss) is = all_convert look result locals ss is
  converts look result locals bare.Empty is = tt
  converts look result locals (bare.Evaluate e) is = tt
  converts look result locals (bare.Declare d) is = tt
  converts look result locals (bare.If c s) is = converts look result locals s is
  converts look result locals (bare.IfElse c s t) is = (converts look result locals s is, converts look result locals t is)
  converts look result locals (bare.While c s) is = converts look result locals s is
  converts look result locals (bare.DoWhile s c) is = converts look result locals s is
  converts look result locals (bare.For first test step s) is =
      (all_convert look result locals first is, converts look result (declared_by_all first locals) s is)
  converts look result locals bare.Break is = tt
  converts look result locals bare.Continue is = tt
  converts look result locals bare.Return is = refl
  converts look result locals (bare.ReturnValue e) is = is
  converts look result locals bare.Update is = tt
  converts look result locals (bare.Transaction ss) is = all_convert look result locals ss is

  all_convert : (look : Definitions) (result : BareType) (locals : List BareBinding) (ss : BareStmts) → result ≡ int
      → AllConvert (statements look result locals ss)
  all_convert look result locals bare.NoStmts is = tt
  all_convert look result locals (bare.StmtThen s ss) is =
      (converts look result locals s is, all_convert look result (declared_by s locals) ss is)

body_converts : (look : Definitions) (d : Option BareDef) → result_type d ≡ int → AllConvert (resolved_body look d)
body_converts look (Some (Function (Some type) name parameters body)) is = all_convert look type (as_locals parameters) body is
body_converts look (Some (Function None name parameters body)) is = all_convert look int (as_locals parameters) body refl
body_converts look _ is = tt

-- ---- a frame

from_entry : (body : Statements) (result : BareType) (i : ℕ) → result ≡ int → AllConvert body → Safe i (local (body_pieces body result))
from_entry body result i is h =
    subst {A = BareType} (λ r. Safe i (local (body_pieces body r))) (sym is)
    (safe body i 1 (Push (zero_of int) ∷ At stop.Return (1 + size_stmts body) ∷ []) h
    (record {
      on = zero_given i (1 + size_stmts body) [];
      broken = λ values scopes. nothing i;
      continued = λ values scopes. nothing i;
    }))

-- what is after a stop that isn't a return
behind : (s : Stop) (values : List Value) (a : Type 0) → s ≢ stop.Return → AtStop s values a → a
behind stop.Return values a other h = absurd (other refl)
behind _ values a other h = h

coming : (body : Statements) (result : BareType) (a depth : ℕ) (ps : List Piece) (i : ℕ) → result ≡ int → AllConvert body
    → Comes body result a depth ps → Safe i (local ps)
coming body result _ _ _ i is h entered = from_entry body result i is h
coming body result _ _ _ i is h (stopped a depth ps values scopes s n rest more others c other e) =
    behind s more ((values : List Value) (scopes : Scopes) → Good i (local rest values scopes)) other
    (subst (Good (suc i)) e (coming body result a depth ps (suc i) is h c values scopes))

pub returns_are_ints : ReturnsAreInts
returns_are_ints look d a depth ps values scopes n rest more others is c e =
    subst (Good 1) e (coming (resolved_body look d) (result_type d) a depth ps 1 is (body_converts look d is) c values scopes)
