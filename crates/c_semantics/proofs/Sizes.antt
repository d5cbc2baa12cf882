-- A part of a tree has as many points as ways on from points.
use Rattle.std.proofs.Common.{◌≡◌, ℕ, suc, ◌+◌, List, [], ◌∷◌, ◌++◌, length, Option, Some, None, refl, sym, ◌∙◌, zero-add, append-nil, append_assoc, arith, length-append}
use Rattle.run_types.specs.Skeleton.{PointKind}
use Rattle.c_semantics.specs.Resolved.{Expression, Expressions, Place, Statement, Statements, Constant, Read, Unary, Binary, Convert, And, Or, Choice, Assign, Update, Postfix, Call, Print, New, Free, Create, Join, JoinInto, InitMutex, Lock, Unlock, NoExpressions, ExpressionThen, Local, Global, Element, Field, Block, Empty, Evaluate, Declare, If, IfElse, While, DoWhile, For, Break, Continue, Return, UpdatePoint, Transaction, NoStatements, StatementThen}
use Rattle.c_semantics.specs.Points.{reads, writes, of_expression, of_expressions, of_parts, evaluated, evaluated_if, of_statement, of_statements, size, size_if, size_stmt, size_stmts}
use Rattle.c_semantics.specs.Skeletons.{Flow, Targets, union, on_to, guarded, loop, access, expression, expressions, parts, expression_if, statement, statements}
use Rattle.c_semantics.proofs.Segments.{map_length}

-- as many
pub record Alike {A B : Type 0} (xs : List A) (ys : List B) : Type 0 where
  pub alike : length xs ≡ length ys

pub joined : {A B : Type 0} {xs us : List A} {ys vs : List B} → Alike xs ys → Alike us vs → Alike (xs ++ us) (ys ++ vs)
joined {A} {B} {xs} {us} {ys} {vs} a b = record { alike = sum }
  where
    sum : length (xs ++ us) ≡ length (ys ++ vs)
    sum = let h = a.alike in let k = b.alike in simp length-append (omega arith)

pub none : {A B : Type 0} → Alike {A = A} {B = B} [] []
none = record { alike = refl }

pub one : {A B : Type 0} {x : A} {y : B} → Alike (x ∷ []) (y ∷ [])
one = record { alike = refl }

pub two : {A B : Type 0} {x u : A} {y v : B} → Alike (x ∷ u ∷ []) (y ∷ v ∷ [])
two = record { alike = refl }

pub read_rows : (p : Place) (n : ℕ) (to : List ℕ) → Alike (access p n to).next (reads p)
read_rows (Local name) n to = none
read_rows (Global name) n to = one
read_rows (Element name index) n to = one
read_rows (Field tag handle name) n to = one

write_rows : (p : Place) (n : ℕ) (to : List ℕ) → Alike (access p n to).next (writes p)
write_rows (Local name) n to = none
write_rows (Global name) n to = one
write_rows (Element name index) n to = one
write_rows (Field tag handle name) n to = one

-- the same, after a point
spawn_rows : (p : Place) (n : ℕ) (row to : List ℕ) (k : PointKind) → Alike (row ∷ (access p n to).next) (k ∷ writes p)
spawn_rows (Local name) n row to k = one
spawn_rows (Global name) n row to k = two
spawn_rows (Element name index) n row to k = two
spawn_rows (Field tag handle name) n row to k = two

mutual
  pub rows : (e : Expression) (n : ℕ) (to : List ℕ) → Alike (expression e n to).next (of_expression e)
  rows (Constant v) n to = none
  rows (Read p) n to = joined (part_rows p n _) (read_rows p _ to)
  rows (Unary op a) n to = rows a n to
  rows (Binary op a b) n to = joined (rows a n _) (rows b _ to)
  rows (Convert type a) n to = rows a n to
  rows (And a b) n to = rw append-nil (joined (rows a n _) (rows b _ to))
  rows (Or a b) n to = joined (rows a n _) (rows b _ to)
  rows (Choice c a b) n to = simp append_assoc (joined (rows c n _) (joined (rows a _ to) (rows b _ to)))
  rows (Assign p e) n to = simp append_assoc (joined (part_rows p n _) (joined (rows e _ _) (write_rows p _ to)))
  rows (Update type op p e) n to =
      simp append_assoc (joined (part_rows p n _) (joined (read_rows p _ _) (joined (rows e _ _) (write_rows p _ to))))
  rows (Postfix type op p) n to = simp append_assoc (joined (part_rows p n _) (joined (read_rows p _ _) (write_rows p _ to)))
  rows (Call name arguments) n to = joined (rows_all arguments n _) two
  rows (Print format arguments) n to = joined (rows_all arguments n _) one
  rows (New tag) n to = one
  rows (Free tag e) n to = joined (rows e n _) one
  rows (Create p name e) n to = simp append_assoc (joined (part_rows p n _) (joined (rows e _ _) (spawn_rows p _ _ to _)))
  rows (Join e) n to = joined (rows e n _) one
  rows (JoinInto e p) n to = simp append_assoc (joined (rows e n _) (joined (part_rows p _ _) (spawn_rows p _ _ to _)))
  rows (InitMutex name) n to = one
  rows (Lock name) n to = one
  rows (Unlock name) n to = one

  pub rows_all : (es : Expressions) (n : ℕ) (to : List ℕ) → Alike (expressions es n to).next (of_expressions es)
  rows_all NoExpressions n to = none
  rows_all (ExpressionThen e es) n to = joined (rows e n _) (rows_all es _ to)

  pub part_rows : (p : Place) (n : ℕ) (to : List ℕ) → Alike (parts p n to).next (of_parts p)
  part_rows (Local name) n to = none
  part_rows (Global name) n to = none
  part_rows (Element name index) n to = rows index n to
  part_rows (Field tag handle name) n to = rows handle n to

pub rows_if : (e : Option Expression) (n : ℕ) (to : List ℕ) → length (expression_if e n to).next ≡ size_if e
rows_if None n to = refl
rows_if (Some e) n to = (rows e n to).alike

-- the points of a statement at any depth are as many as at depth 0
pub evaluated_count : (d : ℕ) (e : Expression) → length (evaluated d e) ≡ size e
evaluated_count d e = map_length d (of_expression e)

pub evaluated_if_count : (d : ℕ) (e : Option Expression) → length (evaluated_if d e) ≡ size_if e
evaluated_if_count d None = refl
evaluated_if_count d (Some e) = evaluated_count d e

-- the ways on from the points of a loop, of which the back edge is the last
loop_rows : (c : Option Expression) (n : ℕ) (inside : Flow) (on : List ℕ)
    → length (guarded c n inside on).next ≡ size_if c + length inside.next
loop_rows None n inside on = sym (zero-add (length inside.next))
loop_rows (Some c) n inside on = let h = (rows c n (union inside.first on)).alike in simp (length-append, append-nil) (omega arith)

mutual
  pub count : (d : ℕ) (s : Statement) → length (of_statement d s) ≡ size_stmt s
  count d (Block ss) = count_all d ss
  count d Empty = refl
  count d (Evaluate e) = evaluated_count d e ∙ sym (evaluated_count 0 e)
  count d (Declare type name e) = evaluated_if_count d e ∙ sym (evaluated_if_count 0 e)
  count d (If c s) =
      let x = evaluated_count d c in
      let y = evaluated_count 0 c in
      let z = count d s in
      simp length-append (omega arith)
  count d (IfElse c s t) =
      let x = evaluated_count d c in
      let y = evaluated_count 0 c in
      let z = count d s in
      let v = count d t in
      simp length-append (omega arith)
  count d (While c s) =
      let x = evaluated_count d c in
      let y = evaluated_count 0 c in
      let z = count d s in
      simp length-append (omega arith)
  count d (DoWhile s c) =
      let x = evaluated_count d c in
      let y = evaluated_count 0 c in
      let z = count d s in
      simp length-append (omega arith)
  count d (For first test step s) =
      let x = count_all d first in
      let y = evaluated_if_count d test in
      let z = evaluated_if_count 0 test in
      let v = count d s in
      let p = evaluated_if_count d step in
      let q = evaluated_if_count 0 step in
      simp length-append (omega arith)
  count d Break = refl
  count d Continue = refl
  count d (Return e) =
      let x = evaluated_count d e in
      let y = evaluated_count 0 e in
      simp length-append (omega arith)
  count d UpdatePoint = refl
  count d (Transaction ss) =
      let x = count_all (suc d) ss in
      let y = count_all 1 ss in
      simp length-append (omega arith)

  pub count_all : (d : ℕ) (ss : Statements) → length (of_statements d ss) ≡ size_stmts ss
  count_all d NoStatements = refl
  count_all d (StatementThen s ss) =
      let x = count d s in
      let y = count_all d ss in
      simp length-append (omega arith)

mutual
  pub statement_rows : (s : Statement) (n : ℕ) (k : Targets) → length (statement s n k).next ≡ size_stmt s
  statement_rows (Block ss) n k = statements_rows ss n k
  statement_rows Empty n k = refl
  statement_rows (Evaluate e) n k = (rows e n k.on).alike ∙ sym (evaluated_count 0 e)
  statement_rows (Declare type name e) n k = rows_if e n k.on ∙ sym (evaluated_if_count 0 e)
  statement_rows (If c s) n k =
      let x = (rows c n (union (statement s (n + size c) k).first k.on)).alike in
      let y = evaluated_count 0 c in
      let z = statement_rows s (n + size c) k in
      simp (length-append, append-nil) (omega arith)
  statement_rows (IfElse c s t) n k =
      let m = n + size c in
      let x = (rows c n (union (statement s m k).first (statement t (m + size_stmt s) k).first)).alike in
      let y = evaluated_count 0 c in
      let z = statement_rows s m k in
      let v = statement_rows t (m + size_stmt s) k in
      simp length-append (omega arith)
  statement_rows (While c s) n k =
      let b = n + size c + size_stmt s in
      let inside = statement s (n + size c) (record { on = b ∷ []; broken = k.on; continued = b ∷ [] }) in
      let x = (rows c n (union inside.first k.on)).alike in
      let y = evaluated_count 0 c in
      let z = statement_rows s (n + size c) (record { on = b ∷ []; broken = k.on; continued = b ∷ [] }) in
      simp (length-append, append-nil) (omega arith)
  statement_rows (DoWhile s c) n k =
      let m = n + size_stmt s in
      let to = union ((m + size c) ∷ []) k.on in
      let x = (rows c m to).alike in
      let y = evaluated_count 0 c in
      let z = statement_rows s n (record { on = (expression c m to).first; broken = k.on; continued = (expression c m to).first }) in
      simp length-append (omega arith)
  statement_rows (For first test step s) n k =
      let t = n + size_stmts first in
      let m = t + size_if test in
      let p = m + size_stmt s in
      let behind = expression_if step p ((p + size_if step) ∷ []) in
      let inner : Targets = record { on = behind.first; broken = k.on; continued = behind.first } in
      let inside = statement s m inner in
      let turns = loop test t (statement s m) (expression_if step p) (p + size_if step) k in
      let x = statements_rows first n (on_to turns.first k) in
      let y = loop_rows test t inside k.on in
      let z = evaluated_if_count 0 test in
      let v = statement_rows s m inner in
      let u = rows_if step p ((p + size_if step) ∷ []) in
      let q = evaluated_if_count 0 step in
      simp length-append (omega arith)
  statement_rows Break n k = refl
  statement_rows Continue n k = refl
  statement_rows (Return e) n k =
      let x = (rows e n ((n + size e) ∷ [])).alike in
      let y = evaluated_count 0 e in
      simp length-append (omega arith)
  statement_rows UpdatePoint n k = refl
  statement_rows (Transaction ss) n k =
      let e = n + 2 + size_stmts ss in
      let x = statements_rows ss (n + 2) (on_to (e ∷ []) k) in
      let y = count_all 1 ss in
      simp length-append (omega arith)

  pub statements_rows : (ss : Statements) (n : ℕ) (k : Targets) → length (statements ss n k).next ≡ size_stmts ss
  statements_rows NoStatements n k = refl
  statements_rows (StatementThen s ss) n k =
      let behind = statements ss (n + size_stmt s) k in
      let x = statement_rows s n (on_to behind.first k) in
      let y = statements_rows ss (n + size_stmt s) k in
      simp length-append (omega arith)
