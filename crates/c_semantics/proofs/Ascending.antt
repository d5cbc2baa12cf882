-- The successors of each point of a skeleton are in ascending order.
use Rattle.std.proofs.Common.{◌≡◌, ℕ, zero, suc, ◌+◌, ◌<◌, Bool, true, false, List, [], ◌∷◌, ◌++◌, Option, Some, None, refl, arith}
use Rattle.std.specs.Prelude.{◌==◌, nat_lt, slice_index_or, if◌then◌else◌}
use Rattle.std.proofs.lemmas.Bool.Decides.{nat_tests}
use Rattle.c_semantics.specs.Resolved.{Expression, Expressions, Place, Statement, Statements, Constant, Read, Unary, Binary, Convert, And, Or, Choice, Assign, Update, Postfix, Call, Print, New, Free, Create, Join, JoinInto, InitMutex, Lock, Unlock, NoExpressions, ExpressionThen, Local, Global, Element, Field, Block, Empty, Evaluate, Declare, If, IfElse, While, DoWhile, For, Break, Continue, Return, UpdatePoint, Transaction, NoStatements, StatementThen}
use Rattle.c_semantics.specs.Points.{size, size_if, size_stmt, size_stmts}
use Rattle.c_semantics.specs.Skeletons.{Flow, Part, Targets, with_point, union, pass, point, last_point, ◌then_part◌, either, both, goes, before, on_to, guarded, loop, do_loop, access, expression_if}
use Rattle.c_semantics.specs.Skeletons as flow
use Rattle.c_semantics.specs.SkeletonLaws.{Ascends, WaysAscend}

-- a number is below the first of some
abbrev Above : ℕ → List ℕ → Type 0
Above m [] = Unit {0}
Above m (n ∷ ns) = m < n

in_front : (m : ℕ) (ns : List ℕ) → Above m ns → Ascends ns → Ascends (m ∷ ns)
in_front m [] below up = tt
in_front m (n ∷ ns) below up = (below, up)

above_rest : (n : ℕ) (ns : List ℕ) → Ascends (n ∷ ns) → Above n ns
above_rest n [] up = tt
above_rest n (m ∷ ms) (below, up) = below

rest_of : (n : ℕ) (ns : List ℕ) → Ascends (n ∷ ns) → Ascends ns
rest_of n [] up = tt
rest_of n (m ∷ ms) (below, up) = up

below_by : (n m : ℕ) → nat_lt n m ≡ true → n < m
below_by n m h = grind (arith, nat_tests, h)

above_by : (n m : ℕ) → (n == m) ≡ false → nat_lt n m ≡ false → m < n
above_by n m e h = grind (arith, nat_tests, e, h)

-- one more point
above_put : (k n m : ℕ) (ms : List ℕ) (same less : Bool) → k < n → k < m
    → Above k (if same then m ∷ ms else (if less then n ∷ m ∷ ms else m ∷ with_point n ms))
above_put k n m ms true less a b = b
above_put k n m ms false true a b = a
above_put k n m ms false false a b = b

above_more : (k n : ℕ) (ms : List ℕ) → k < n → Above k ms → Above k (with_point n ms)
above_more k n [] a b = a
above_more k n (m ∷ ms) a b = above_put k n m ms (n == m) (nat_lt n m) a b

put_by : (n m : ℕ) (ms : List ℕ) (same less : Bool) → (n == m) ≡ same → nat_lt n m ≡ less → Ascends (m ∷ ms)
    → Ascends (with_point n ms)
    → Ascends (if same then m ∷ ms else (if less then n ∷ m ∷ ms else m ∷ with_point n ms))
put_by n m ms true less e l up more = up
put_by n m ms false true e l up more = (below_by n m l, up)
put_by n m ms false false e l up more =
    in_front m (with_point n ms) (above_more m n ms (above_by n m e l) (above_rest m ms up)) more

put : (n : ℕ) (ms : List ℕ) → Ascends ms → Ascends (with_point n ms)
put n [] up = tt
put n (m ∷ ms) up = put_by n m ms (n == m) (nat_lt n m) refl refl up (put n ms (rest_of m ms up))

united : (ns ms : List ℕ) → Ascends ms → Ascends (union ns ms)
united [] ms up = up
united (n ∷ ns) ms up = put n (union ns ms) (united ns ms up)

-- all rows do
abbrev AllAscend : List (List ℕ) → Type 0
AllAscend [] = Unit {0}
AllAscend (row ∷ rows) = Ascends row × AllAscend rows

along : (rows more : List (List ℕ)) → AllAscend rows → AllAscend more → AllAscend (rows ++ more)
along [] more a b = b
along (row ∷ rows) more (here, rest) b = (here, along rows more rest b)

row_of : (rows : List (List ℕ)) (n : ℕ) → AllAscend rows → Ascends (slice_index_or rows n [])
row_of [] n all = tt
row_of (row ∷ rows) zero (here, rest) = here
row_of (row ∷ rows) (suc n) (here, rest) = row_of rows n rest

record Neat (f : Flow) : Type 0 where
  first : Ascends f.first
  next : AllAscend f.next

-- a part is neat where what is after it is in order
record Orderly (x : Part) : Type 0 where
  orderly : (to : List ℕ) → Ascends to → Neat (x to)

passes : Orderly pass
passes = record { orderly = λ to up. record { first = up; next = tt } }

at : (n : ℕ) → Orderly (point n)
at n = record { orderly = λ to up. record { first = tt; next = (up, tt) } }

last : (n : ℕ) → Orderly (last_point n)
last n = record { orderly = λ to up. record { first = tt; next = (tt, tt) } }

then_do : {x y : Part} → Orderly x → Orderly y → Orderly (x then_part y)
then_do {x} {y} a b = record { orderly = by }
  where
    by : (to : List ℕ) → Ascends to → Neat ((x then_part y) to)
    by to up =
        let behind = b.orderly to up in
        let ahead = a.orderly (y to).first behind.first in
        record { first = ahead.first; next = along (x (y to).first).next (y to).next ahead.next behind.next }

one_of : {x y : Part} → Orderly x → Orderly y → Orderly (either x y)
one_of {x} {y} a b = record { orderly = by }
  where
    by : (to : List ℕ) → Ascends to → Neat (either x y to)
    by to up =
        let l = a.orderly to up in
        let r = b.orderly to up in
        record { first = united (x to).first (y to).first r.first; next = along (x to).next (y to).next l.next r.next }

accesses : (p : Place) (n : ℕ) → Orderly (access p n)
accesses (Local name) n = passes
accesses (Global name) n = at n
accesses (Element name index) n = at n
accesses (Field tag handle name) n = at n

mutual
  expression : (e : Expression) (n : ℕ) → Orderly (flow.expression e n)
  expression (Constant v) n = passes
  expression (Read p) n = then_do (parts p n) (accesses p _)
  expression (Unary op a) n = expression a n
  expression (Binary op a b) n = then_do (expression a n) (expression b _)
  expression (Convert type a) n = expression a n
  expression (And a b) n = then_do (expression a n) (one_of (expression b _) passes)
  expression (Or a b) n = then_do (expression a n) (one_of passes (expression b _))
  expression (Choice c a b) n = then_do (expression c n) (one_of (expression a _) (expression b _))
  expression (Assign p e) n = then_do (parts p n) (then_do (expression e _) (accesses p _))
  expression (Update type op p e) n =
      then_do (parts p n) (then_do (accesses p _) (then_do (expression e _) (accesses p _)))
  expression (Postfix type op p) n = then_do (parts p n) (then_do (accesses p _) (accesses p _))
  expression (Call name arguments) n = then_do (expressions arguments n) (then_do (at _) (at _))
  expression (Print format arguments) n = then_do (expressions arguments n) (at _)
  expression (New tag) n = at n
  expression (Free tag e) n = then_do (expression e n) (at _)
  expression (Create p name e) n = then_do (parts p n) (then_do (expression e _) (then_do (at _) (accesses p _)))
  expression (Join e) n = then_do (expression e n) (at _)
  expression (JoinInto e p) n = then_do (expression e n) (then_do (parts p _) (then_do (at _) (accesses p _)))
  expression (InitMutex name) n = at n
  expression (Lock name) n = at n
  expression (Unlock name) n = at n

  expressions : (es : Expressions) (n : ℕ) → Orderly (flow.expressions es n)
  expressions NoExpressions n = passes
  expressions (ExpressionThen e es) n = then_do (expression e n) (expressions es _)

  parts : (p : Place) (n : ℕ) → Orderly (flow.parts p n)
  parts (Local name) n = passes
  parts (Global name) n = passes
  parts (Element name index) n = expression index n
  parts (Field tag handle name) n = expression handle n

maybe : (e : Option Expression) (n : ℕ) → Orderly (expression_if e n)
maybe None n = passes
maybe (Some e) n = expression e n

-- the ways out are in order
record Ordered (k : Targets) : Type 0 where
  on : Ascends k.on
  broken : Ascends k.broken
  continued : Ascends k.continued

leaving : (to : List ℕ) → Ascends to → Neat (goes to)
leaving to up = record { first = up; next = tt }

ahead_of : (x : Part) (f : Flow) → Orderly x → Neat f → Neat (before x f)
ahead_of x f a b =
    let ahead = a.orderly f.first b.first in
    record { first = ahead.first; next = along (x f.first).next f.next ahead.next b.next }

two_ways : (f g : Flow) → Neat f → Neat g → Neat (both f g)
two_ways f g a b = record { first = united f.first g.first b.first; next = along f.next g.next a.next b.next }

tested : (c : Option Expression) (n : ℕ) (inside : Flow) (on : List ℕ) → Neat inside → Ascends on → Neat (guarded c n inside on)
tested None n inside on a up = a
tested (Some c) n inside on a up =
    ahead_of (flow.expression c n) (both inside (goes on)) (expression c n) (two_ways inside (goes on) a (leaving on up))

inner : (behind : List ℕ) (k : Targets) → Ascends behind → Ordered k
    → Ordered (record { on = behind; broken = k.on; continued = behind })
inner behind k up o = record { on = up; broken = o.on; continued = up }

loops : (c : Option Expression) (n : ℕ) (body : Targets → Flow) (step : Part) (b : ℕ) (k : Targets)
    → ((t : Targets) → Ordered t → Neat (body t)) → Orderly step → Ordered k → Neat (loop c n body step b k)
loops c n body step b k each s o =
    let behind = s.orderly (b ∷ []) tt in
    let to = (step (b ∷ [])).first in
    let targets : Targets = record { on = to; broken = k.on; continued = to } in
    let whole = tested c n (body targets) k.on (each targets (inner to k behind.first o)) o.on in
    let rows = (guarded c n (body targets) k.on).next in
    record {
      first = whole.first;
      next = along (rows ++ (step (b ∷ [])).next) ((guarded c n (body targets) k.on).first ∷ [])
          (along rows (step (b ∷ [])).next whole.next behind.next) (whole.first, tt);
    }

do_loops : (body : Targets → Flow) (test : Part) (b : ℕ) (k : Targets) → ((t : Targets) → Ordered t → Neat (body t))
    → Orderly test → Ordered k → Neat (do_loop body test b k)
do_loops body test b k each s o =
    let behind = s.orderly (union (b ∷ []) k.on) (united (b ∷ []) k.on o.on) in
    let f = test (union (b ∷ []) k.on) in
    let targets : Targets = record { on = f.first; broken = k.on; continued = f.first } in
    let inside = each targets (inner f.first k behind.first o) in
    record {
      first = inside.first;
      next = along ((body targets).next ++ f.next) ((body targets).first ∷ [])
          (along (body targets).next f.next inside.next behind.next) (inside.first, tt);
    }

going_on : (to : List ℕ) (k : Targets) → Ascends to → Ordered k → Ordered (on_to to k)
going_on to k up o = record { on = up; broken = o.broken; continued = o.continued }

-- one flow and then another
after_it : (f g : Flow) → Neat f → Neat g → Neat (record { first = f.first; next = f.next ++ g.next })
after_it f g a b = record { first = a.first; next = along f.next g.next a.next b.next }

mutual
  statement : (s : Statement) (n : ℕ) (k : Targets) → Ordered k → Neat (flow.statement s n k)
  statement (Block ss) n k o = statements ss n k o
  statement Empty n k o = leaving k.on o.on
  statement (Evaluate e) n k o = (expression e n).orderly k.on o.on
  statement (Declare type name e) n k o = (maybe e n).orderly k.on o.on
  statement (If c a) n k o =
      let x = flow.statement a (n + size c) k in
      ahead_of (flow.expression c n) (both x (goes k.on)) (expression c n)
      (two_ways x (goes k.on) (statement a (n + size c) k o) (leaving k.on o.on))
  statement (IfElse c a b) n k o =
      let m = n + size c in
      let x = flow.statement a m k in
      let y = flow.statement b (m + size_stmt a) k in
      ahead_of (flow.expression c n) (both x y) (expression c n)
      (two_ways x y (statement a m k o) (statement b (m + size_stmt a) k o))
  statement (While c a) n k o =
      let m = n + size c in
      loops (Some c) n (flow.statement a m) pass (m + size_stmt a) k (λ t. statement a m t) passes o
  statement (DoWhile a c) n k o =
      let m = n + size_stmt a in
      do_loops (flow.statement a n) (flow.expression c m) (m + size c) k (λ t. statement a n t) (expression c m) o
  statement (For first test step a) n k o =
      let t = n + size_stmts first in
      let m = t + size_if test in
      let p = m + size_stmt a in
      let turns = loop test t (flow.statement a m) (expression_if step p) (p + size_if step) k in
      let round = loops test t (flow.statement a m) (expression_if step p) (p + size_if step) k (λ u. statement a m u) (maybe step p) o in
      after_it (flow.statements first n (on_to turns.first k)) turns
      (statements first n (on_to turns.first k) (going_on turns.first k round.first o)) round
  statement Break n k o = leaving k.broken o.broken
  statement Continue n k o = leaving k.continued o.continued
  statement (Return e) n k o = (then_do (expression e n) (last (n + size e))).orderly [] tt
  statement UpdatePoint n k o = (then_do (at n) (at (suc n))).orderly k.on o.on
  statement (Transaction ss) n k o =
      let e = n + 2 + size_stmts ss in
      let end = (point e then_part point (suc e)) k.on in
      let ends = (then_do (at e) (at (suc e))).orderly k.on o.on in
      let inside = flow.statements ss (n + 2) (on_to end.first k) in
      ahead_of (point n then_part point (suc n)) (record { first = inside.first; next = inside.next ++ end.next })
      (then_do (at n) (at (suc n)))
      (after_it inside end (statements ss (n + 2) (on_to end.first k) (going_on end.first k ends.first o)) ends)

  statements : (ss : Statements) (n : ℕ) (k : Targets) → Ordered k → Neat (flow.statements ss n k)
  statements NoStatements n k o = leaving k.on o.on
  statements (StatementThen a ss) n k o =
      let m = n + size_stmt a in
      let behind = flow.statements ss m k in
      let more = statements ss m k o in
      after_it (flow.statement a n (on_to behind.first k)) behind
      (statement a n (on_to behind.first k) (going_on behind.first k more.first o)) more

pub ways_ascend : WaysAscend
ways_ascend body n =
    let last = 1 + size_stmts body in
    let k : Targets = record { on = last ∷ []; broken = []; continued = [] } in
    let inside = statements body 1 k (record { on = tt; broken = tt; continued = tt }) in
    row_of (flow.skeleton body).next n
    (inside.first, along (flow.statements body 1 k).next ([] ∷ []) inside.next (tt, tt))
