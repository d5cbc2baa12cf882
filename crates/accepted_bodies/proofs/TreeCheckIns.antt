-- How many check-ins the points of a resolved tree have, by the tree.
use Rattle.std.proofs.Common.{◌≡◌, ℕ, suc, ◌+◌, List, [], ◌∷◌, ◌++◌, map, Option, Some, None, refl, sym, ◌∙◌, arith}
use Rattle.std.specs.Prelude.{cond, count_by}
use Rattle.std.proofs.lemmas.List.Sums.{sum_by-append}
use Rattle.run_types.specs.Skeleton.{PointKind, Point}
use Rattle.run_types.specs.Skeleton as kind
use Rattle.run_types.specs.CheckIns as check_in
use Rattle.c_semantics.specs.Names.{struct_name}
use Rattle.c_semantics.specs.Resolved.{Expression, Expressions, Place, Statement, Statements, Constant, Read, Unary, Binary, Convert, And, Or, Choice, Assign, Update, Postfix, Call, Print, New, Free, Create, Join, JoinInto, InitMutex, Lock, Unlock, NoExpressions, ExpressionThen, Local, Global, Element, Field, Block, Empty, Evaluate, Declare, If, IfElse, While, DoWhile, For, Break, Continue, Return, UpdatePoint, Transaction, NoStatements, StatementThen}
use Rattle.c_semantics.specs.Points.{at_depth, evaluated, evaluated_if, of_body, of_expression, of_expressions, of_parts, of_statement, of_statements, reads, writes}
use Rattle.c_semantics.specs.Skeletons.{is_check_in_kind}

-- one for each call
abbrev mutual
  pub in_expression : Expression → ℕ
  in_expression (Constant n) = 0
  in_expression (Read p) = in_parts p
  in_expression (Unary op a) = in_expression a
  in_expression (Binary op a b) = in_expression a + in_expression b
  in_expression (Convert type a) = in_expression a
  in_expression (And a b) = in_expression a + in_expression b
  in_expression (Or a b) = in_expression a + in_expression b
  in_expression (Choice c a b) = in_expression c + (in_expression a + in_expression b)
  in_expression (Assign p e) = in_parts p + in_expression e
  in_expression (Update type op p e) = in_parts p + in_expression e
  in_expression (Postfix type op p) = in_parts p
  in_expression (Call name arguments) = in_expressions arguments + 1
  in_expression (Print format arguments) = in_expressions arguments
  in_expression (New tag) = 0
  in_expression (Free tag e) = in_expression e
  in_expression (Create p name e) = in_parts p + in_expression e
  in_expression (Join e) = in_expression e
  in_expression (JoinInto e p) = in_expression e + in_parts p
  in_expression (InitMutex name) = 0
  in_expression (Lock name) = 0
  in_expression (Unlock name) = 0

  pub in_expressions : Expressions → ℕ
  in_expressions NoExpressions = 0
  in_expressions (ExpressionThen e es) = in_expression e + in_expressions es

  pub in_parts : Place → ℕ
  in_parts (Local name) = 0
  in_parts (Global name) = 0
  in_parts (Element name index) = in_expression index
  in_parts (Field tag handle name) = in_expression handle

abbrev pub in_optional : Option Expression → ℕ
in_optional None = 0
in_optional (Some e) = in_expression e

-- one for each point for an update, and two for each transaction
abbrev mutual
  pub in_statement : Statement → ℕ
  in_statement (Block ss) = in_statements ss
  in_statement Empty = 0
  in_statement (Evaluate e) = in_expression e
  in_statement (Declare type name e) = in_optional e
  in_statement (If c s) = in_expression c + in_statement s
  in_statement (IfElse c s t) = in_expression c + (in_statement s + in_statement t)
  in_statement (While c s) = in_expression c + in_statement s
  in_statement (DoWhile s c) = in_statement s + in_expression c
  in_statement (For first test step s) = in_statements first + (in_optional test + (in_statement s + in_optional step))
  in_statement Break = 0
  in_statement Continue = 0
  in_statement (Return e) = in_expression e
  in_statement UpdatePoint = 1
  in_statement (Transaction ss) = in_statements ss + 2

  pub in_statements : Statements → ℕ
  in_statements NoStatements = 0
  in_statements (StatementThen s ss) = in_statement s + in_statements ss

-- ---- the points of expressions

abbrev many : List PointKind → ℕ
many ks = count_by is_check_in_kind ks

-- points after others
both : (xs ys : List PointKind) (n m k : ℕ) → many xs ≡ n → many ys ≡ m → n + m ≡ k → many (xs ++ ys) ≡ k
both xs ys n m k e f g =
    let sum = sum_by-append (λ x. cond (is_check_in_kind x) 1 0) xs ys in omega (arith, sum, e, f, g)

-- points after which no check-in comes
alone : (xs ys : List PointKind) (n : ℕ) → many xs ≡ n → many ys ≡ 0 → many (xs ++ ys) ≡ n
alone xs ys n e f = both xs ys n 0 n e f (omega arith)

no_reads : (p : Place) → many (reads p) ≡ 0
no_reads (Local name) = refl
no_reads (Global name) = refl
no_reads (Element name index) = refl
no_reads (Field tag handle name) = refl

no_writes : (p : Place) → many (writes p) ≡ 0
no_writes (Local name) = refl
no_writes (Global name) = refl
no_writes (Element name index) = refl
no_writes (Field tag handle name) = refl

mutual
  pub of_each : (e : Expression) → many (of_expression e) ≡ in_expression e
  of_each (Constant n) = refl
  of_each (Read p) = alone (of_parts p) (reads p) _ (of_place p) (no_reads p)
  of_each (Unary op a) = of_each a
  of_each (Binary op a b) = both (of_expression a) (of_expression b) _ _ _ (of_each a) (of_each b) refl
  of_each (Convert type a) = of_each a
  of_each (And a b) = both (of_expression a) (of_expression b) _ _ _ (of_each a) (of_each b) refl
  of_each (Or a b) = both (of_expression a) (of_expression b) _ _ _ (of_each a) (of_each b) refl
  of_each (Choice c a b) =
      both (of_expression c ++ of_expression a) (of_expression b) _ _ _
      (both (of_expression c) (of_expression a) _ _ _ (of_each c) (of_each a) refl) (of_each b) (omega arith)
  of_each (Assign p e) =
      alone (of_parts p ++ of_expression e) (writes p) _ (both (of_parts p) (of_expression e) _ _ _ (of_place p) (of_each e) refl) (no_writes p)
  of_each (Update type op p e) =
      alone (of_parts p ++ reads p ++ of_expression e) (writes p) _
      (both (of_parts p ++ reads p) (of_expression e) _ _ _ (alone (of_parts p) (reads p) _ (of_place p) (no_reads p)) (of_each e) refl)
      (no_writes p)
  of_each (Postfix type op p) =
      alone (of_parts p ++ reads p) (writes p) _ (alone (of_parts p) (reads p) _ (of_place p) (no_reads p)) (no_writes p)
  of_each (Call name arguments) =
      both (of_expressions arguments) (kind.Call name ∷ kind.CheckIn check_in.Call ∷ []) _ 1 _ (of_all arguments) refl refl
  of_each (Print format arguments) = alone (of_expressions arguments) (kind.Print ∷ []) _ (of_all arguments) refl
  of_each (New tag) = refl
  of_each (Free tag e) = alone (of_expression e) (kind.Free (struct_name tag) ∷ []) _ (of_each e) refl
  of_each (Create p name e) =
      alone (of_parts p ++ of_expression e) (kind.Spawn name ∷ writes p) _
      (both (of_parts p) (of_expression e) _ _ _ (of_place p) (of_each e) refl) (alone (kind.Spawn name ∷ []) (writes p) 0 refl (no_writes p))
  of_each (Join e) = alone (of_expression e) (kind.Join ∷ []) _ (of_each e) refl
  of_each (JoinInto e p) =
      alone (of_expression e ++ of_parts p) (kind.Join ∷ writes p) _
      (both (of_expression e) (of_parts p) _ _ _ (of_each e) (of_place p) refl) (alone (kind.Join ∷ []) (writes p) 0 refl (no_writes p))
  of_each (InitMutex name) = refl
  of_each (Lock name) = refl
  of_each (Unlock name) = refl

  of_all : (es : Expressions) → many (of_expressions es) ≡ in_expressions es
  of_all NoExpressions = refl
  of_all (ExpressionThen e es) = both (of_expression e) (of_expressions es) _ _ _ (of_each e) (of_all es) refl

  of_place : (p : Place) → many (of_parts p) ≡ in_parts p
  of_place (Local name) = refl
  of_place (Global name) = refl
  of_place (Element name index) = of_each index
  of_place (Field tag handle name) = of_each handle

-- ---- the points of statements

abbrev pub many_points : List Point → ℕ
many_points ps = count_by (λ p. is_check_in_kind p.kind) ps

both_points : (xs ys : List Point) (n m k : ℕ) → many_points xs ≡ n → many_points ys ≡ m → n + m ≡ k → many_points (xs ++ ys) ≡ k
both_points xs ys n m k e f g =
    let sum = sum_by-append (λ (x : Point). cond (is_check_in_kind x.kind) 1 0) xs ys in omega (arith, sum, e, f, g)

alone_points : (xs ys : List Point) (n : ℕ) → many_points xs ≡ n → many_points ys ≡ 0 → many_points (xs ++ ys) ≡ n
alone_points xs ys n e f = both_points xs ys n 0 n e f (omega arith)

-- the depth of a point doesn't matter
at_any_depth : (d : ℕ) (ks : List PointKind) → many_points (map (at_depth d) ks) ≡ many ks
at_any_depth d [] = refl
at_any_depth d (k ∷ ks) =
    both_points (at_depth d k ∷ []) (map (at_depth d) ks) _ _ _ refl (at_any_depth d ks) (sym (both (k ∷ []) ks _ _ _ refl refl refl))

of_evaluated : (d : ℕ) (e : Expression) → many_points (evaluated d e) ≡ in_expression e
of_evaluated d e = at_any_depth d (of_expression e) ∙ of_each e

of_optional : (d : ℕ) (e : Option Expression) → many_points (evaluated_if d e) ≡ in_optional e
of_optional d None = refl
of_optional d (Some e) = of_evaluated d e

mutual
  of_one : (d : ℕ) (s : Statement) → many_points (of_statement d s) ≡ in_statement s
  of_one d (Block ss) = in_order d ss
  of_one d Empty = refl
  of_one d (Evaluate e) = of_evaluated d e
  of_one d (Declare type name e) = of_optional d e
  of_one d (If c s) = both_points (evaluated d c) (of_statement d s) _ _ _ (of_evaluated d c) (of_one d s) refl
  of_one d (IfElse c s t) =
      both_points (evaluated d c ++ of_statement d s) (of_statement d t) _ _ _
      (both_points (evaluated d c) (of_statement d s) _ _ _ (of_evaluated d c) (of_one d s) refl) (of_one d t) (omega arith)
  of_one d (While c s) =
      alone_points (evaluated d c ++ of_statement d s) (at_depth d kind.Back ∷ []) _
      (both_points (evaluated d c) (of_statement d s) _ _ _ (of_evaluated d c) (of_one d s) refl) refl
  of_one d (DoWhile s c) =
      alone_points (of_statement d s ++ evaluated d c) (at_depth d kind.Back ∷ []) _
      (both_points (of_statement d s) (evaluated d c) _ _ _ (of_one d s) (of_evaluated d c) refl) refl
  of_one d (For first test step s) =
      let back = at_depth d kind.Back ∷ [] in
      let opened = both_points (of_statements d first) (evaluated_if d test) _ _ _ (in_order d first) (of_optional d test) refl in
      let turned = both_points (of_statements d first ++ evaluated_if d test) (of_statement d s) _ _ _ opened (of_one d s) refl in
      alone_points (of_statements d first ++ evaluated_if d test ++ of_statement d s ++ evaluated_if d step) back _
      (both_points (of_statements d first ++ evaluated_if d test ++ of_statement d s) (evaluated_if d step) _ _ _ turned (of_optional d step)
      (omega arith))
      refl
  of_one d Break = refl
  of_one d Continue = refl
  of_one d (Return e) = alone_points (evaluated d e) (at_depth d kind.Return ∷ []) _ (of_evaluated d e) refl
  of_one d UpdatePoint = refl
  of_one d (Transaction ss) =
      let first = at_depth d kind.Begin ∷ at_depth (suc d) (kind.CheckIn check_in.Begin) ∷ [] in
      let last = at_depth (suc d) kind.End ∷ at_depth d (kind.CheckIn check_in.End) ∷ [] in
      both_points first (of_statements (suc d) ss ++ last) 1 _ _ refl
      (both_points (of_statements (suc d) ss) last _ 1 _ (in_order (suc d) ss) refl refl) (ends (in_statements ss))
    where
      ends : (n : ℕ) → 1 + (n + 1) ≡ n + 2
      ends n = omega arith

  in_order : (d : ℕ) (ss : Statements) → many_points (of_statements d ss) ≡ in_statements ss
  in_order d NoStatements = refl
  in_order d (StatementThen s ss) = both_points (of_statement d s) (of_statements d ss) _ _ _ (of_one d s) (in_order d ss) refl

-- a body has besides the one at its entry
pub of_function : (body : Statements) → many_points (of_body body) ≡ in_statements body + 1
of_function body =
    let entry = at_depth 0 (kind.CheckIn check_in.Entry) ∷ [] in
    let last = at_depth 0 kind.Return ∷ [] in
    both_points entry (of_statements 0 body ++ last) 1 _ _ refl (alone_points (of_statements 0 body) last _ (in_order 0 body) refl)
    (first (in_statements body))
  where
    first : (n : ℕ) → 1 + n ≡ n + 1
    first n = omega arith
