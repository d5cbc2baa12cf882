-- The skeleton of a function's tree: its points, and between which of them control may go without a point between.
-- Each condition is taken both ways, also in `&&`, `||` and `?:`.
use Rattle.std.specs.Prelude.{ℕ, ◌+◌, ◌==◌, nat_lt, Bool, List, [], ◌∷◌, ◌++◌, Option, Some, None, count_by, filter_map, if◌then◌else◌}
use Rattle.std.specs.Option.{is_some}
use Rattle.run_types.specs.Skeleton.{PointKind, Skeleton, direct_use, check_in_of, after}
use Rattle.c_tree.specs.BareExpr.{Bytes}
use Rattle.c_tree.specs.BareDef.{BareDef}
use Rattle.name_sets.specs.NameLists.{name_set}
use Rattle.c_semantics.specs.Texts.{Definitions}
use Rattle.c_semantics.specs.Resolved.{Expression, Expressions, Place, Statement, Statements, Constant, Read, Unary, Binary, Convert, And, Or, Choice, Assign, Update, Postfix, Call, Print, New, Free, Create, Join, JoinInto, InitMutex, Lock, Unlock, NoExpressions, ExpressionThen, Local, Global, Element, Field, Block, Empty, Evaluate, Declare, If, IfElse, While, DoWhile, For, Break, Continue, Return, UpdatePoint, Transaction, NoStatements, StatementThen}
use Rattle.c_semantics.specs.Resolution.{resolved_body}
use Rattle.c_semantics.specs.Points.{of_body, size, size_if, size_all, size_parts, size_read, size_stmt, size_stmts}

-- an ordered set of points with one more
abbrev pub with_point : ℕ → List ℕ → List ℕ
with_point n [] = n ∷ []
with_point n (m ∷ ms) =
    if n == m then m ∷ ms else (if nat_lt n m then n ∷ m ∷ ms else m ∷ with_point n ms)

-- the union of two ordered sets of points
abbrev pub union : List ℕ → List ℕ → List ℕ
union [] ms = ms
union (n ∷ ns) ms = with_point n (union ns ms)

-- a part of a tree: the points to which control may go at its beginning, as an ordered set; and for each of its points
-- in order those to which control may go from it
pub record Flow : Type 0 where
  pub first : List ℕ
  pub next : List (List ℕ)

-- what a part of a tree is, by the points to which control may go after it
abbrev pub Part : Type 0
Part = List ℕ → Flow

-- a part without points
abbrev pub pass : Part
pass to = record { first = to; next = [] }

-- the point n
abbrev pub point : ℕ → Part
point n to = record { first = n ∷ []; next = to ∷ [] }

-- the point n, from which control goes nowhere in the function
abbrev pub last_point : ℕ → Part
last_point n to = record { first = n ∷ []; next = [] ∷ [] }

-- one part and then the other
infixr 20 ◌then_part◌
abbrev pub ◌then_part◌ : Part → Part → Part
◌then_part◌ a b to =
    let behind = b to in
    let before = a behind.first in
    record { first = before.first; next = before.next ++ behind.next }

-- one part or the other
abbrev pub either : Part → Part → Part
either a b to =
    let x = a to in
    let y = b to in
    record { first = union x.first y.first; next = x.next ++ y.next }

-- the read of a place, and its write, at the number n
abbrev pub access : Place → ℕ → Part
access (Local name) n = pass
access (Global name) n = point n
access (Element name index) n = point n
access (Field tag handle name) n = point n

-- an expression whose first point is n, arguments, the parts of a place
abbrev mutual
  pub expression : Expression → ℕ → Part
  expression (Constant v) n = pass
  expression (Read p) n = parts p n then_part access p (n + size_parts p)
  expression (Unary op a) n = expression a n
  expression (Binary op a b) n = expression a n then_part expression b (n + size a)
  expression (Convert type a) n = expression a n
  expression (And a b) n = expression a n then_part either (expression b (n + size a)) pass
  expression (Or a b) n = expression a n then_part either pass (expression b (n + size a))
  expression (Choice c a b) n =
      let m = n + size c in expression c n then_part either (expression a m) (expression b (m + size a))
  expression (Assign p e) n =
      let m = n + size_parts p in parts p n then_part expression e m then_part access p (m + size e)
  expression (Update type op p e) n =
      let r = n + size_parts p in
      let m = r + size_read p in
      parts p n then_part access p r then_part expression e m then_part access p (m + size e)
  expression (Postfix type op p) n =
      let r = n + size_parts p in parts p n then_part access p r then_part access p (r + size_read p)
  expression (Call name arguments) n =
      let m = n + size_all arguments in expressions arguments n then_part point m then_part point (after m)
  expression (Print format arguments) n = expressions arguments n then_part point (n + size_all arguments)
  expression (New tag) n = point n
  expression (Free tag e) n = expression e n then_part point (n + size e)
  expression (Create p name e) n =
      let m = n + size_parts p in
      let s = m + size e in
      parts p n then_part expression e m then_part point s then_part access p (s + 1)
  expression (Join e) n = expression e n then_part point (n + size e)
  expression (JoinInto e p) n =
      let m = n + size e in
      let j = m + size_parts p in
      expression e n then_part parts p m then_part point j then_part access p (j + 1)
  expression (InitMutex name) n = point n
  expression (Lock name) n = point n
  expression (Unlock name) n = point n

  pub expressions : Expressions → ℕ → Part
  expressions NoExpressions n = pass
  expressions (ExpressionThen e es) n = expression e n then_part expressions es (n + size e)

  pub parts : Place → ℕ → Part
  parts (Local name) n = pass
  parts (Global name) n = pass
  parts (Element name index) n = expression index n
  parts (Field tag handle name) n = expression handle n

-- an expression that may be absent
abbrev pub expression_if : Option Expression → ℕ → Part
expression_if None n = pass
expression_if (Some e) n = expression e n

-- where control goes: on, at a `break`, at a `continue`
pub record Targets : Type 0 where
  pub on : List ℕ
  pub broken : List ℕ
  pub continued : List ℕ

-- the same ways out but the way on
abbrev pub on_to : List ℕ → Targets → Targets
on_to on k = record k { on = on }

-- one part before what is given
abbrev pub before : Part → Flow → Flow
before a behind = let f = a behind.first in record { first = f.first; next = f.next ++ behind.next }

-- a way out that is taken at once
abbrev pub goes : List ℕ → Flow
goes to = record { first = to; next = [] }

-- two ways
abbrev pub both : Flow → Flow → Flow
both x y = record { first = union x.first y.first; next = x.next ++ y.next }

-- a test before a flow where there is one: where it fails, control goes on
abbrev pub guarded : Option Expression → ℕ → Flow → List ℕ → Flow
guarded None n inside on = inside
guarded (Some c) n inside on = before (expression c n) (both inside (goes on))

-- a loop: its test, its body, its step and its back edge b, from which control goes to the loop's beginning; `body` is
-- what its body is, by where control goes from it
abbrev pub loop : Option Expression → ℕ → (Targets → Flow) → Part → ℕ → Targets → Flow
loop test n body step b k =
    let behind = step (b ∷ []) in
    let inside = body (record { on = behind.first; broken = k.on; continued = behind.first }) in
    let whole = guarded test n inside k.on in
    record { first = whole.first; next = whole.next ++ behind.next ++ whole.first ∷ [] }

-- a `do` loop: its body, its condition and its back edge
abbrev pub do_loop : (Targets → Flow) → Part → ℕ → Targets → Flow
do_loop body test b k =
    let behind = test (union (b ∷ []) k.on) in
    let inside = body (record { on = behind.first; broken = k.on; continued = behind.first }) in
    record { first = inside.first; next = inside.next ++ behind.next ++ inside.first ∷ [] }

-- a statement whose first point is n, and statements in order
abbrev mutual
  pub statement : Statement → ℕ → Targets → Flow
  statement (Block ss) n k = statements ss n k
  statement Empty n k = goes k.on
  statement (Evaluate e) n k = expression e n k.on
  statement (Declare type name e) n k = expression_if e n k.on
  statement (If c s) n k = before (expression c n) (both (statement s (n + size c) k) (goes k.on))
  statement (IfElse c s t) n k =
      let m = n + size c in
      before (expression c n) (both (statement s m k) (statement t (m + size_stmt s) k))
  statement (While c s) n k =
      let m = n + size c in loop (Some c) n (statement s m) pass (m + size_stmt s) k
  statement (DoWhile s c) n k =
      let m = n + size_stmt s in do_loop (statement s n) (expression c m) (m + size c) k
  statement (For first test step s) n k =
      let t = n + size_stmts first in
      let m = t + size_if test in
      let p = m + size_stmt s in
      let turns = loop test t (statement s m) (expression_if step p) (p + size_if step) k in
      let start = statements first n (on_to turns.first k) in
      record { first = start.first; next = start.next ++ turns.next }
  statement Break n k = goes k.broken
  statement Continue n k = goes k.continued
  statement (Return e) n k = (expression e n then_part last_point (n + size e)) []
  statement UpdatePoint n k = (point n then_part point (after n)) k.on
  statement (Transaction ss) n k =
      let e = n + 2 + size_stmts ss in
      let end = (point e then_part point (after e)) k.on in
      let inside = statements ss (n + 2) (on_to end.first k) in
      before (point n then_part point (after n)) (record { first = inside.first; next = inside.next ++ end.next })

  pub statements : Statements → ℕ → Targets → Flow
  statements NoStatements n k = goes k.on
  statements (StatementThen s ss) n k =
      let behind = statements ss (n + size_stmt s) k in
      let f = statement s n (on_to behind.first k) in
      record { first = f.first; next = f.next ++ behind.next }

-- the skeleton of a function's body: its entry, the body, the closing return
abbrev pub skeleton : Statements → Skeleton
skeleton body =
    let last = 1 + size_stmts body in
    let inside = statements body 1 (record { on = last ∷ []; broken = []; continued = [] }) in
    record { points = of_body body; next = inside.first ∷ inside.next ++ [] ∷ [] }

-- the skeleton of a function under the definitions of its text
abbrev pub skeleton_of : Definitions → Option BareDef → Skeleton
skeleton_of look definition = skeleton (resolved_body look definition)

-- whether a point is a check-in
abbrev pub is_check_in_kind : PointKind → Bool
is_check_in_kind kind = is_some (check_in_of kind)

-- how many check-ins a skeleton has
abbrev pub check_ins : Skeleton → ℕ
check_ins s = count_by (λ p. is_check_in_kind p.kind) s.points

-- the direct uses of a function: the names at its points
abbrev pub direct_uses : Skeleton → List Bytes
direct_uses s = name_set (filter_map (λ p. direct_use p.kind) s.points)
