-- A function has as many places as points.
use Rattle.std.proofs.Common.{◌≡◌, ℕ, suc, List, [], ◌∷◌, length, Option, Some, None, refl, sym, ◌∙◌, ap}
use Rattle.std.specs.Prelude.{slice_index_or, drop, unwrap_or}
use Rattle.run_types.specs.CheckIns as check_in
use Rattle.run_types.specs.Skeleton.{PointKind, Point}
use Rattle.run_types.specs.Skeleton as kind
use Rattle.c_tree.specs.declared.expr.Expr.{Expr}
use Rattle.c_tree.specs.declared.stmt.Stmt.{Stmt, out-Stmt}
use Rattle.c_tree.specs.Bare.{bare_function}
use Rattle.c_semantics.specs.Resolved.{Expression, Expressions, Place, Statement, Statements, Constant, Read, Unary, Binary, Convert, And, Or, Choice, Assign, Update, Postfix, Call, Print, New, Free, Create, Join, JoinInto, InitMutex, Lock, Unlock, NoExpressions, ExpressionThen, Local, Global, Element, Field, Block, Empty, Evaluate, Declare, If, IfElse, While, DoWhile, For, Break, Continue, Return, UpdatePoint, Transaction, NoStatements, StatementThen}
use Rattle.c_semantics.specs.Resolution.{resolved_body}
use Rattle.c_semantics.specs.Points.{at_depth, reads, writes, of_expression, of_expressions, of_parts, evaluated, evaluated_if, of_statement, of_statements}
use Rattle.c_semantics.specs.Places.{operand, operands, place_of, each_at, expression_places, all_places, parts_places, places_in, places_if, expression_of, step_of, statements_of, first_of, inner, statement_places, statements_places, without_casts, nothing, no_statement}
use Rattle.c_semantics.specs.SkeletonLaws.{EachHasAPlace}
use Rattle.c_semantics.proofs.Segments.{map_length}
use Rattle.c_semantics.proofs.Sizes.{Alike, joined, none, one, two}

each : (e : Expr) (ks : List PointKind) → Alike (each_at e ks) ks
each e ks = record { alike = same ks }
  where
    same : (ks : List PointKind) → length (each_at e ks) ≡ length ks
    same [] = refl
    same (k ∷ ks) = ap suc (same ks)

one_and : (e : Expr) (k : PointKind) (ks : List PointKind) → Alike (place_of e ∷ each_at e ks) (k ∷ ks)
one_and e k ks = record { alike = ap suc (each e ks).alike }

mutual
  expression : (a : Expression) (e : Expr) → Alike (expression_places a e) (of_expression a)
  expression (Constant v) e = none
  expression (Read p) e = joined (parts p e) (each e (reads p))
  expression (Unary op a) e = expression a (operand 0 e)
  expression (Binary op a b) e = joined (expression a (operand 0 e)) (expression b (operand 1 e))
  expression (Convert type a) e = expression a e
  expression (And a b) e = joined (expression a (operand 0 e)) (expression b (operand 1 e))
  expression (Or a b) e = joined (expression a (operand 0 e)) (expression b (operand 1 e))
  expression (Choice c a b) e =
      joined (joined (expression c (operand 0 e)) (expression a (operand 1 e))) (expression b (operand 2 e))
  expression (Assign p v) e =
      joined (joined (parts p (operand 0 e)) (expression v (operand 1 e))) (each e (writes p))
  expression (Update type op p v) e =
      joined (joined (joined (parts p (operand 0 e)) (each e (reads p))) (expression v (operand 1 e))) (each e (writes p))
  expression (Postfix type op p) e = joined (joined (parts p (operand 0 e)) (each e (reads p))) (each e (writes p))
  expression (Call name arguments) e = joined (all arguments (operands e)) two
  expression (Print format arguments) e = joined (all arguments (operands e)) one
  expression (New tag) e = one
  expression (Free tag v) e = joined (expression v (operand 0 e)) one
  expression (Create p name v) e =
      joined (joined (parts p (operand 0 e)) (expression v (operand 1 e))) (one_and e (kind.Spawn name) (writes p))
  expression (Join v) e = joined (expression v (operand 0 e)) one
  expression (JoinInto v p) e =
      joined (joined (expression v (operand 0 e)) (parts p (operand 1 e))) (one_and e kind.Join (writes p))
  expression (InitMutex name) e = one
  expression (Lock name) e = one
  expression (Unlock name) e = one

  all : (given : Expressions) (es : List Expr) → Alike (all_places given es) (of_expressions given)
  all NoExpressions es = none
  all (ExpressionThen a more) es = joined (expression a (slice_index_or es 0 nothing)) (all more (drop 1 es))

  parts : (p : Place) (e : Expr) → Alike (parts_places p e) (of_parts p)
  parts (Local name) e = none
  parts (Global name) e = none
  parts (Element name index) e = expression index (operand 0 e)
  parts (Field tag handle name) e = expression handle (operand 0 e)

given : (d : ℕ) (a : Expression) (e : Option Expr) → Alike (places_in a e) (evaluated d a)
given d a e = record { alike = (expression a (without_casts (unwrap_or e nothing))).alike ∙ sym (map_length d (of_expression a)) }

given_if : (d : ℕ) (a : Option Expression) (e : Option Expr) → Alike (places_if a e) (evaluated_if d a)
given_if d None e = none
given_if d (Some a) e = given d a e

mutual
  statement : (d : ℕ) (a : Statement) (s : Stmt) → Alike (statement_places a s) (of_statement d a)
  statement d (Block ss) s = statements d ss (statements_of (out-Stmt s).node)
  statement d Empty s = none
  statement d (Evaluate e) s = given d e (expression_of (out-Stmt s).node)
  statement d (Declare type name e) s = given_if d e (expression_of (out-Stmt s).node)
  statement d (If c a) s = joined (given d c (expression_of (out-Stmt s).node)) (statement d a (inner 0 s))
  statement d (IfElse c a b) s =
      joined (joined (given d c (expression_of (out-Stmt s).node)) (statement d a (inner 0 s))) (statement d b (inner 1 s))
  statement d (While c a) s =
      joined (joined (given d c (expression_of (out-Stmt s).node)) (statement d a (inner 0 s))) one
  statement d (DoWhile a c) s =
      joined (joined (statement d a (inner 0 s)) (given d c (expression_of (out-Stmt s).node))) one
  statement d (For first test step a) s =
      joined (joined (joined (joined (statements d first (first_of (out-Stmt s).node)) (given_if d test (expression_of (out-Stmt s).node)))
      (statement d a (inner 0 s))) (given_if d step (step_of (out-Stmt s).node))) one
  statement d Break s = none
  statement d Continue s = none
  statement d (Return e) s = joined (given d e (expression_of (out-Stmt s).node)) one
  statement d UpdatePoint s = two
  statement d (Transaction ss) s =
      joined (joined {ys = at_depth d kind.Begin ∷ at_depth (suc d) (kind.CheckIn check_in.Begin) ∷ []} two
      (statements (suc d) ss (statements_of (out-Stmt s).node))) two

  statements : (d : ℕ) (ss : Statements) (list : List Stmt) → Alike (statements_places ss list) (of_statements d ss)
  statements d NoStatements list = none
  statements d (StatementThen a more) list =
      joined (statement d a (slice_index_or list 0 no_statement)) (statements d more (drop 1 list))

pub each_has_a_place : EachHasAPlace
each_has_a_place look f =
    ap suc (joined (statements 0 (resolved_body look (Some (bare_function f))) f.body) one).alike
