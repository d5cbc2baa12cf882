-- In a body's points each check-in but that of the entry is directly after a stop that leads to it.
use Rattle.std.proofs.Common.{◌≡◌, ℕ, zero, suc, List, [], ◌∷◌, ◌++◌, map, Option, Some, None, refl, sym, ◌∙◌, ap, subst}
use Rattle.std.specs.Prelude.{slice_get, option_map}
use Rattle.std.specs.Option.{option_and_then}
use Rattle.run_types.specs.CheckIns.{CheckInKind}
use Rattle.run_types.specs.CheckIns as check_in
use Rattle.run_types.specs.Skeleton.{PointKind, Point, check_in_of, check_in_after, check_in_at, point_at, after}
use Rattle.run_types.specs.Skeleton as kind
use Rattle.c_semantics.specs.Resolved.{Expression, Expressions, Place, Statement, Statements, Constant, Read, Unary, Binary, Convert, And, Or, Choice, Assign, Update, Postfix, Call, Print, New, Free, Create, Join, JoinInto, InitMutex, Lock, Unlock, NoExpressions, ExpressionThen, Local, Global, Element, Field, Block, Empty, Evaluate, Declare, If, IfElse, While, DoWhile, For, Break, Continue, Return, UpdatePoint, Transaction, NoStatements, StatementThen}
use Rattle.c_semantics.specs.Points.{at_depth, reads, writes, of_expression, of_expressions, of_parts, evaluated, evaluated_if, of_statement, of_statements}
use Rattle.c_semantics.specs.Skeletons.{skeleton}

-- points of which each check-in follows a stop that leads to it, and each stop that leads to one is so followed
pub data Paired : List Point → Type 0 where
  none : Paired []
  alone : (p : Point) (ps : List Point) → check_in_of p.kind ≡ None → check_in_after p.kind ≡ None → Paired ps → Paired (p ∷ ps)
  pair : (p : Point) (k : CheckInKind) (d : ℕ) (ps : List Point) → check_in_of p.kind ≡ None → check_in_after p.kind ≡ Some k
      → Paired ps → Paired (p ∷ record { kind = kind.CheckIn k; depth = d } ∷ ps)

abbrev check_in_in : List Point → ℕ → Option CheckInKind
check_in_in ps n = option_and_then check_in_of (option_map (λ p. p.kind) (slice_get ps n))

begins_with_none : (ps : List Point) → Paired ps → check_in_in ps 0 ≡ None
begins_with_none _ none = refl
begins_with_none _ (alone p ps stop plain more) = stop
begins_with_none _ (pair p k d ps stop leads more) = stop

some_is : (p q : Point) → Some p ≡ Some q → p.kind ≡ q.kind
some_is p q e = ap (λ x. x.kind) same
  where
    same : p ≡ q
    same = cc

no_check_in : (k : CheckInKind) (p : Point) → kind.CheckIn k ≡ p.kind → check_in_of p.kind ≡ None → ⊥
no_check_in k p e h = clash (ap check_in_of e ∙ h)
  where
    clash : Some k ≡ None → ⊥
    clash e = cc

-- what follows a stop
followed : (ps : List Point) → Paired ps → (n : ℕ) (p : Point) → slice_get ps n ≡ Some p → check_in_of p.kind ≡ None
    → check_in_in ps (suc n) ≡ check_in_after p.kind
followed _ none n p e h = absurd (no e)
  where
    no : None ≡ Some p → ⊥
    no e = cc
followed _ (alone q ps stop plain more) zero p e h =
    begins_with_none ps more ∙ sym (ap check_in_after (sym (some_is q p e)) ∙ plain)
followed _ (alone q ps stop plain more) (suc n) p e h = followed ps more n p e h
followed _ (pair q k d ps stop leads more) zero p e h = sym (ap check_in_after (sym (some_is q p e)) ∙ leads)
followed _ (pair q k d ps stop leads more) (suc zero) p e h =
    absurd (no_check_in k p (some_is (record { kind = kind.CheckIn k; depth = d }) p e) h)
followed _ (pair q k d ps stop leads more) (suc (suc n)) p e h = followed ps more n p e h

-- lists of points are paired where their parts are
joined : (ps qs : List Point) → Paired ps → Paired qs → Paired (ps ++ qs)
joined _ qs none b = b
joined _ qs (alone p ps stop plain a) b = alone p (ps ++ qs) stop plain (joined ps qs a b)
joined _ qs (pair p k d ps stop leads a) b = pair p k d (ps ++ qs) stop leads (joined ps qs a b)

apart : (d : ℕ) (ks ls : List PointKind) → map (at_depth d) (ks ++ ls) ≡ map (at_depth d) ks ++ map (at_depth d) ls
apart d [] ls = refl
apart d (k ∷ ks) ls = ap (λ x. at_depth d k ∷ x) (apart d ks ls)

abbrev PairedAt : ℕ → List PointKind → Type 0
PairedAt d ks = Paired (map (at_depth d) ks)

and : (d : ℕ) (ks ls : List PointKind) → PairedAt d ks → PairedAt d ls → PairedAt d (ks ++ ls)
and d ks ls a b = subst Paired (sym (apart d ks ls)) (joined (map (at_depth d) ks) (map (at_depth d) ls) a b)

one : (d : ℕ) (k : PointKind) → check_in_of k ≡ None → check_in_after k ≡ None → Paired (at_depth d k ∷ [])
one d k stop plain = alone (at_depth d k) [] stop plain none

read : (d : ℕ) (p : Place) → PairedAt d (reads p)
read d (Local name) = none
read d (Global name) = one d (kind.ReadGlobal name) refl refl
read d (Element name index) = one d (kind.ReadElement name) refl refl
read d (Field tag handle name) = one d _ refl refl

write : (d : ℕ) (p : Place) → PairedAt d (writes p)
write d (Local name) = none
write d (Global name) = one d (kind.WriteGlobal name) refl refl
write d (Element name index) = one d (kind.WriteElement name) refl refl
write d (Field tag handle name) = one d _ refl refl

mutual
  expression : (d : ℕ) (e : Expression) → PairedAt d (of_expression e)
  expression d (Constant v) = none
  expression d (Read p) = and d (of_parts p) (reads p) (parts d p) (read d p)
  expression d (Unary op a) = expression d a
  expression d (Binary op a b) = and d (of_expression a) (of_expression b) (expression d a) (expression d b)
  expression d (Convert type a) = expression d a
  expression d (And a b) = and d (of_expression a) (of_expression b) (expression d a) (expression d b)
  expression d (Or a b) = and d (of_expression a) (of_expression b) (expression d a) (expression d b)
  expression d (Choice c a b) =
      and d (of_expression c ++ of_expression a) (of_expression b)
      (and d (of_expression c) (of_expression a) (expression d c) (expression d a)) (expression d b)
  expression d (Assign p e) =
      and d (of_parts p ++ of_expression e) (writes p) (and d (of_parts p) (of_expression e) (parts d p) (expression d e)) (write d p)
  expression d (Update type op p e) =
      and d (of_parts p ++ reads p ++ of_expression e) (writes p)
      (and d (of_parts p ++ reads p) (of_expression e) (and d (of_parts p) (reads p) (parts d p) (read d p)) (expression d e))
      (write d p)
  expression d (Postfix type op p) =
      and d (of_parts p ++ reads p) (writes p) (and d (of_parts p) (reads p) (parts d p) (read d p)) (write d p)
  expression d (Call name arguments) =
      and d (of_expressions arguments) (kind.Call name ∷ kind.CheckIn check_in.Call ∷ []) (expressions d arguments)
      (pair (at_depth d (kind.Call name)) check_in.Call d [] refl refl none)
  expression d (Print format arguments) =
      and d (of_expressions arguments) (kind.Print ∷ []) (expressions d arguments) (one d kind.Print refl refl)
  expression d (New tag) = one d _ refl refl
  expression d (Free tag e) = and d (of_expression e) _ (expression d e) (one d _ refl refl)
  expression d (Create p name e) =
      and d (of_parts p ++ of_expression e) (kind.Spawn name ∷ writes p)
      (and d (of_parts p) (of_expression e) (parts d p) (expression d e))
      (alone (at_depth d (kind.Spawn name)) (map (at_depth d) (writes p)) refl refl (write d p))
  expression d (Join e) = and d (of_expression e) (kind.Join ∷ []) (expression d e) (one d kind.Join refl refl)
  expression d (JoinInto e p) =
      and d (of_expression e ++ of_parts p) (kind.Join ∷ writes p)
      (and d (of_expression e) (of_parts p) (expression d e) (parts d p))
      (alone (at_depth d kind.Join) (map (at_depth d) (writes p)) refl refl (write d p))
  expression d (InitMutex name) = one d (kind.InitMutex name) refl refl
  expression d (Lock name) = one d (kind.Lock name) refl refl
  expression d (Unlock name) = one d (kind.Unlock name) refl refl

  expressions : (d : ℕ) (es : Expressions) → PairedAt d (of_expressions es)
  expressions d NoExpressions = none
  expressions d (ExpressionThen e es) = and d (of_expression e) (of_expressions es) (expression d e) (expressions d es)

  parts : (d : ℕ) (p : Place) → PairedAt d (of_parts p)
  parts d (Local name) = none
  parts d (Global name) = none
  parts d (Element name index) = expression d index
  parts d (Field tag handle name) = expression d handle

expression_if : (d : ℕ) (e : Option Expression) → Paired (evaluated_if d e)
expression_if d None = none
expression_if d (Some e) = expression d e

back : (d : ℕ) → Paired (at_depth d kind.Back ∷ [])
back d = one d kind.Back refl refl

mutual
  statement : (d : ℕ) (a : Statement) → Paired (of_statement d a)
  statement d (Block ss) = statements d ss
  statement d Empty = none
  statement d (Evaluate e) = expression d e
  statement d (Declare type name e) = expression_if d e
  statement d (If c a) = joined (evaluated d c) (of_statement d a) (expression d c) (statement d a)
  statement d (IfElse c a b) =
      joined (evaluated d c ++ of_statement d a) (of_statement d b)
      (joined (evaluated d c) (of_statement d a) (expression d c) (statement d a)) (statement d b)
  statement d (While c a) =
      joined (evaluated d c ++ of_statement d a) (at_depth d kind.Back ∷ [])
      (joined (evaluated d c) (of_statement d a) (expression d c) (statement d a)) (back d)
  statement d (DoWhile a c) =
      joined (of_statement d a ++ evaluated d c) (at_depth d kind.Back ∷ [])
      (joined (of_statement d a) (evaluated d c) (statement d a) (expression d c)) (back d)
  statement d (For first test step a) =
      joined (of_statements d first ++ evaluated_if d test ++ of_statement d a ++ evaluated_if d step) (at_depth d kind.Back ∷ [])
      (joined (of_statements d first ++ evaluated_if d test ++ of_statement d a) (evaluated_if d step)
      (joined (of_statements d first ++ evaluated_if d test) (of_statement d a)
      (joined (of_statements d first) (evaluated_if d test) (statements d first) (expression_if d test)) (statement d a))
      (expression_if d step))
      (back d)
  statement d Break = none
  statement d Continue = none
  statement d (Return e) =
      joined (evaluated d e) (at_depth d kind.Return ∷ []) (expression d e) (one d kind.Return refl refl)
  statement d UpdatePoint = pair (at_depth d kind.Update) check_in.Update d [] refl refl none
  statement d (Transaction ss) =
      pair (at_depth d kind.Begin) check_in.Begin (suc d) _ refl refl
      (joined (of_statements (suc d) ss) _ (statements (suc d) ss)
      (pair (at_depth (suc d) kind.End) check_in.End d [] refl refl none))

  statements : (d : ℕ) (ss : Statements) → Paired (of_statements d ss)
  statements d NoStatements = none
  statements d (StatementThen a ss) = joined (of_statement d a) (of_statements d ss) (statement d a) (statements d ss)

-- after each stop of a body a check-in follows exactly where the stop leads to one
pub kinds_paired : (body : Statements) (n : ℕ) (p : Point) → point_at (skeleton body) n ≡ Some p → check_in_of p.kind ≡ None
    → check_in_at (skeleton body) (after n) ≡ check_in_after p.kind
kinds_paired body zero p e h = absurd (no_check_in check_in.Entry p (some_is (at_depth 0 (kind.CheckIn check_in.Entry)) p e) h)
kinds_paired body (suc n) p e h =
    followed (of_statements 0 body ++ at_depth 0 kind.Return ∷ [])
    (joined (of_statements 0 body) (at_depth 0 kind.Return ∷ []) (statements 0 body) (one 0 kind.Return refl refl)) n p e h
