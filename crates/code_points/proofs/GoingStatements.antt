-- The code of a statement goes along its skeleton, and that of a function.
use Rattle.std.proofs.Common.{◌≡◌, ℕ, suc, ◌+◌, Bool, true, false, List, [], ◌∷◌, ◌++◌, length, Option, Some, None, refl, subst, ap, sym, ◌∙◌, append_assoc, append-nil, arith}
use Rattle.std.specs.Prelude.{IsTrue, ◌||◌}
use Rattle.run_types.specs.CheckIns as check_in
use Rattle.run_types.specs.Skeleton as kind
use Rattle.c_semantics.specs.Texts.{Definitions}
use Rattle.c_semantics.specs.Resolved.{Expression, Statement, Statements, Block, Empty, Evaluate, Declare, If, IfElse, While, DoWhile, For, Break, Continue, Return, UpdatePoint, Transaction, NoStatements, StatementThen}
use Rattle.c_semantics.specs.Points.{size, size_if, size_stmt, size_stmts}
use Rattle.c_semantics.specs.Skeletons.{Flow, Part, Targets, union, before, both, expression, expression_if, goes, on_to, pass, point, skeleton}
use Rattle.c_semantics.specs.Skeletons as skeleton
use Rattle.c_semantics.specs.Stops as stop
use Rattle.typed_trees.specs.ValueTypes.{Environment, in_scope}
use Rattle.typed_trees.specs.StatementTypes.{with_variable, declares, declare_all, jumps, some_jump}
use Rattle.bytecode.specs.Instructions.{Jump, Halt, Back, CheckIn}
use Rattle.tree_code.specs.Code.{Code, condition_code, effect_if, guarded, guarded_if, looping, negated, statement, statements, turning, unless_jump}
use Rattle.tree_code.proofs.CodePlaces.{Span, halves, next, nothing_between}
use Rattle.code_points.proofs.Exact.{Along, Does, Forks, From, Rests, Rows, arrived, at_point, back_row, done, forked, jumped, never, private, rows_behind}
use Rattle.code_points.proofs.Going.{and_then, check_point, return_point, stop_point}
use Rattle.code_points.proofs.GoingExpressions.{condition_along, no_return, effect_along, effect_if_along, initial_along, value_along}

left_true : (a b : Bool) → IsTrue a → IsTrue (a || b)
left_true true b e = refl
left_true false b e = absurd (never e)

right_true : (a b : Bool) → IsTrue b → IsTrue (a || b)
right_true true b e = refl
right_true false b e = e

unless_forks : (o : Option Expression) (d : ℕ) → Forks (unless_jump o d) d
unless_forks None d = record { none = refl; far = refl; on = refl }
unless_forks (Some a) d = record { none = refl; far = refl; on = refl }

back_rests : (d n v : ℕ) → Rests (Back d n v) n
back_rests d n v = record { point = record { number = n; kind = kind.Back }; is_point = refl; numbered = refl; near = refl; stays = never }

-- a test before a flow, with where control goes if it fails
abbrev tested : Expression → ℕ → Flow → List ℕ → Flow
tested c n inside on = before (expression c n) (record { first = union inside.first on; next = inside.next })

abbrev tested_if : Option Expression → ℕ → Flow → List ℕ → Flow
tested_if None n inside on = inside
tested_if (Some c) n inside on = tested c n inside on

none_on : (p : ℕ) → p + 0 ≡ p
none_on p = omega arith

module _ (code : Code) where
  -- jumps out of some code lead so far on
  abbrev Out : Bool → Targets → ℕ → ℕ → ℕ → Type 0
  Out jump k end broken continued = IsTrue jump → From code (end + broken) k.broken × From code (end + continued) k.continued

  -- some code is a part of a skeleton that may be left by jumps
  abbrev pub Leaves : Code → Bool → ℕ → ℕ → (Targets → Flow) → Type 0
  Leaves is jump broken continued f =
      (p end : ℕ) (k : Targets) → Span code p is end → From code end k.on → Out jump k end broken continued → Along code p is (f k)

  -- the same flow in other words
  same_rows : {p : ℕ} {is : Code} {to : List ℕ} {xs : List (List ℕ)} (ys : List (List ℕ)) → xs ≡ ys
      → Along code p is (record { first = to; next = xs }) → Along code p is (record { first = to; next = ys })
  same_rows {p} {is} {to} {xs} ys e a = record { first = a.first; rows = subst (λ r. Rows code p is r) e a.rows }

  reached : {p q : ℕ} {to : List ℕ} → p ≡ q → From code p to → From code q to
  reached {p} {q} {to} e f = subst (λ x. From code x to) e f

  -- a back edge
  record Edge (p start end d b v : ℕ) : Type 0 where
    edge : From code p (b ∷ [])
    behind : end ≡ suc p
    row : (to : List ℕ) → From code start to → Rows code p (Back d b v ∷ []) (to ∷ [])

  edge_of : (p start end d b v : ℕ) → start + d ≡ p → Span code p (Back d b v ∷ []) end → Edge p start end d b v
  edge_of p start end d b v e s =
      let x = next code p (Back d b v) [] end s in
      record {
        edge = arrived code (Back d b v) (back_rests d b v) x.stands;
        behind = nothing_between code (suc p) end x.later;
        row = λ to f. at_point p (Back d b v) (record { number = b; kind = kind.Back }) [] to [] refl (back_row code d b v e f) (done (suc p));
      }

  module _ (look : Definitions) where
    -- ---- tests

    far : (j x further q m : ℕ) → q ≡ suc j → m ≡ q + x → m + further ≡ suc j + (x + further)
    far j x further q m e f = omega (arith, e, f)

    -- a test, from the flow of what is behind it, wherever that stands
    test_along : (env : Environment) (c : Expression) (n further : ℕ) (is : Code) (f : Flow) (on : List ℕ) (p m : ℕ)
        → Span code p (guarded look env c n is further) m → ((q : ℕ) → Span code q is m → Along code q is f) → From code (m + further) on
        → Along code p (guarded look env c n is further) (tested c n f on)
    test_along env c n further is f on p m s inside over =
        let jump = unless_jump (negated c) (length is + further) in
        let x = halves code p (condition_code look env c (negated c) n) (jump ∷ is) m s in
        let y = next code x.middle jump is m x.second in
        let a = inside (suc x.middle) y.later in
        let target = reached (far x.middle (length is) further (suc x.middle) m refl y.later.ends) over in
        let forks = forked code jump (unless_forks (negated c) (length is + further)) y.stands a.first target in
        let t = condition_along code look env c n p x.middle (union f.first on) x.first forks in
        record {
          first = t.first;
          rows = rows_behind code x.first.ends t.rows (private x.middle jump is f.next (unless_forks (negated c) (length is + further)).none a.rows);
        }

    test_if_along : (env : Environment) (c : Option Expression) (n further : ℕ) (is : Code) (f : Flow) (on : List ℕ) (p m : ℕ)
        → Span code p (guarded_if look env c n is further) m → ((q : ℕ) → Span code q is m → Along code q is f) → From code (m + further) on
        → Along code p (guarded_if look env c n is further) (tested_if c n f on)
    test_if_along env None n further is f on p m s inside over = inside p s
    test_if_along env (Some c) n further is f on p m s inside over = test_along env c n further is f on p m s inside over

    -- ---- loops

    -- the rows of a loop in the order of its code
    loop_rows : (test : Option Expression) (n : ℕ) (inside : Flow) (on : List ℕ) (step : List (List ℕ)) (last : List (List ℕ))
        → (tested_if test n (record { first = inside.first; next = inside.next ++ step }) on).next ++ last
        ≡ (skeleton.guarded test n inside on).next ++ step ++ last
    loop_rows None n inside on step last = refl
    loop_rows (Some c) n inside on step last =
        simp (append_assoc, append-nil) refl

    loop_first : (test : Option Expression) (n : ℕ) (inside : Flow) (on : List ℕ) (step : List (List ℕ))
        → (tested_if test n (record { first = inside.first; next = inside.next ++ step }) on).first ≡ (skeleton.guarded test n inside on).first
    loop_first None n inside on step = refl
    loop_first (Some c) n inside on step = refl

    past_edge : (q x : ℕ) {r e : ℕ} → e ≡ suc r → r ≡ q + x → e ≡ q + suc x
    past_edge q x f g = omega (arith, f, g)

    one_past : {r e : ℕ} → e ≡ suc r → e ≡ r + 1
    one_past f = omega (arith, f)

    turning_along : (env : Environment) (test : Option Expression) (t : ℕ) (turn stepped : Code) (b : ℕ) (body : Targets → Flow) (step : Part)
        (inner jump : Bool) (broken continued : ℕ) → Leaves turn inner (suc (length stepped)) 0 body → Does code stepped step
        → Leaves (turning look env test t turn stepped b) jump broken continued (skeleton.loop test t body step b)
    turning_along env test t turn stepped b body step inner jump broken continued turns steps p end k s h out =
        let is = turn ++ stepped in
        let g = guarded_if look env test t is 1 in
        let x = halves code p g (Back (length g) b (length (in_scope env)) ∷ []) end s in
        let e = edge_of x.middle p end (length g) b (length (in_scope env)) (sym x.first.ends) x.second in
        let behind = step (b ∷ []) in
        let targets : Targets = record { on = behind.first; broken = k.on; continued = behind.first } in
        let whole = skeleton.guarded test t (body targets) k.on in
        let along : (q : ℕ) → Span code q is x.middle
        → Along code q is (record { first = (body targets).first; next = (body targets).next ++ behind.next }) =
        λ q sq.
        let y = halves code q turn stepped x.middle sq in
        let v = steps y.middle x.middle (b ∷ []) y.second e.edge in
        let u = turns q y.middle targets y.first v.first
        (λ j. (reached (past_edge y.middle (length stepped) e.behind y.second.ends) h, reached (sym (none_on y.middle)) v.first)) in
        record { first = u.first; rows = rows_behind code y.first.ends u.rows v.rows } in
        let w = test_if_along env test t 1 is (record { first = (body targets).first; next = (body targets).next ++ behind.next }) k.on p x.middle
        x.first along (reached (one_past e.behind) h) in
        let first = subst (λ to. From code p to) (loop_first test t (body targets) k.on behind.next) w.first in
        record {
          first = first;
          rows = subst (λ r. Rows code p (g ++ Back (length g) b (length (in_scope env)) ∷ []) r) (loop_rows test t (body targets) k.on behind.next (whole.first ∷ []))
              (rows_behind code x.first.ends w.rows (e.row whole.first first));
        }

    do_along : (env : Environment) (c : Expression) (m : ℕ) (turn : Code) (b : ℕ) (body : Targets → Flow)
        (inner jump : Bool) (broken continued : ℕ)
        → let test = condition_code look env c (negated c) m ++ unless_jump (negated c) 1 ∷ [] in
        Leaves turn inner (suc (length test)) 0 body
        → Leaves (looping env (turn ++ test) b) jump broken continued (skeleton.do_loop body (expression c m) b)
    do_along env c m turn b body inner jump broken continued turns p end k s h out =
        let condition = condition_code look env c (negated c) m in
        let leave = unless_jump (negated c) 1 in
        let forks = unless_forks (negated c) 1 in
        let test = condition ++ leave ∷ [] in
        let is = turn ++ test in
        let x = halves code p is (Back (length is) b (length (in_scope env)) ∷ []) end s in
        let e = edge_of x.middle p end (length is) b (length (in_scope env)) (sym x.first.ends) x.second in
        let y = halves code p turn test x.middle x.first in
        let z = halves code y.middle condition (leave ∷ []) x.middle y.second in
        let j = next code z.middle leave [] x.middle z.second in
        let close = nothing_between code (suc z.middle) x.middle j.later in
        let ways = forked code leave forks j.stands (reached close e.edge) (reached (one_past e.behind ∙ ap (λ q. q + 1) close) h) in
        let to = union (b ∷ []) k.on in
        let v = condition_along code look env c m y.middle z.middle to z.first ways in
        let behind = expression c m to in
        let targets : Targets = record { on = behind.first; broken = k.on; continued = behind.first } in
        let u = turns p y.middle targets y.first v.first
        (λ t. (reached (past_edge y.middle (length test) e.behind y.second.ends) h, reached (sym (none_on y.middle)) v.first)) in
        let rows = subst (λ r. Rows code y.middle test r) (append-nil behind.next)
        (rows_behind code z.first.ends v.rows (private z.middle leave [] [] forks.none (done (suc z.middle)))) in
        record {
          first = u.first;
          rows = rows_behind code x.first.ends (rows_behind code y.first.ends u.rows rows) (e.row (body targets).first u.first);
        }

    -- ---- branches

    if_along : (env : Environment) (c : Expression) (n : ℕ) (is : Code) (jump : Bool) (broken continued : ℕ) (body : Targets → Flow)
        → Leaves is jump broken continued body
        → Leaves (guarded look env c n is 0) jump broken continued (λ k. before (expression c n) (both (body k) (goes k.on)))
    if_along env c n is jump broken continued body leaves p end k s h out =
        let f = body k in
        same_rows ((expression c n (union f.first k.on)).next ++ (f.next ++ []))
        (ap (λ r. (expression c n (union f.first k.on)).next ++ r) (sym (append-nil f.next)))
        (test_along env c n 0 is f k.on p end s (λ q sq. leaves q end k sq h out) (reached (sym (none_on end)) h))

    over_other : {r q e : ℕ} (x m : ℕ) → e ≡ r + x → r ≡ suc q → e + m ≡ q + (suc x + m)
    over_other x m f g = omega (arith, f, g)

    onto_other : {r q e : ℕ} (x : ℕ) → e ≡ r + x → r ≡ suc q → e ≡ suc q + x
    onto_other x f g = omega (arith, f, g)

    if_else_along : (env : Environment) (c : Expression) (n : ℕ) (is other : Code) (jump other_jump : Bool) (broken continued : ℕ)
        (body other_body : Targets → Flow) → Leaves is jump (suc (length other) + broken) (suc (length other) + continued) body
        → Leaves other other_jump broken continued other_body
        → Leaves (guarded look env c n (is ++ Jump (length other) ∷ []) 0 ++ other) (jump || other_jump) broken continued
        (λ k. before (expression c n) (both (body k) (other_body k)))
    if_else_along env c n is other jump other_jump broken continued body other_body leaves other_leaves p end k s h out =
        let leave = Jump (length other) in
        let g = guarded look env c n (is ++ leave ∷ []) 0 in
        let x = halves code p g other end s in
        let v = other_leaves x.middle end k x.second h (λ t. out (right_true jump other_jump t)) in
        let f = body k in
        let to = (other_body k).first in
        let along : (q : ℕ) → Span code q (is ++ leave ∷ []) x.middle → Along code q (is ++ leave ∷ []) f =
        λ q sq.
        let y = halves code q is (leave ∷ []) x.middle sq in
        let j = next code y.middle leave [] x.middle y.second in
        let close = nothing_between code (suc y.middle) x.middle j.later in
        let on = jumped code j.stands (reached (onto_other (length other) x.second.ends close) h) in
        let u = leaves q y.middle k y.first on (λ t. let o = out (left_true jump other_jump t) in (
          reached (over_other (length other) broken x.second.ends close) o.0,
          reached (over_other (length other) continued x.second.ends close) o.1,
        )) in
        record {
          first = u.first;
          rows = subst (λ r. Rows code q (is ++ leave ∷ []) r) (append-nil f.next)
              (rows_behind code y.first.ends u.rows (private y.middle leave [] [] refl (done (suc y.middle))));
        } in
        let w = test_along env c n 0 (is ++ leave ∷ []) f to p x.middle x.first along (reached (sym (none_on x.middle)) v.first) in
        record {
          first = w.first;
          rows = subst (λ r. Rows code p (g ++ other) r) (append_assoc (expression c n (union f.first to)).next f.next (other_body k).next)
              (rows_behind code x.first.ends w.rows v.rows);
        }

    -- ---- sequences

    further_on : (r x m : ℕ) {e : ℕ} → e ≡ r + x → e + m ≡ r + (x + m)
    further_on r x m f = omega (arith, f)

    -- jumps out of the first of two parts
    out_of_first : {jump : Bool} {middle end : ℕ} (k : Targets) (broken continued : ℕ) (on : List ℕ) (is : Code) → Span code middle is end
        → Out jump k end broken continued → Out jump (on_to on k) middle (length is + broken) (length is + continued)
    out_of_first {jump} {middle} {end} k broken continued on is s out t =
        (reached (further_on middle (length is) broken s.ends) (out t).0, reached (further_on middle (length is) continued s.ends) (out t).1)

    mutual
      pub statement_along : (env : Environment) (s : Statement) (n broken continued : ℕ)
          → Leaves (statement look env s n broken continued) (jumps s) broken continued (skeleton.statement s n)
      statement_along env (Block ss) n broken continued p end k s h out = statements_along ([] ∷ env) ss n broken continued p end k s h out
      statement_along env Empty n broken continued p end k s h out =
          record { first = reached (nothing_between code p end s) h; rows = done p }
      statement_along env (Evaluate e) n broken continued p end k s h out = effect_along code look env e n p end k.on s h
      statement_along env (Declare type name e) n broken continued p end k s h out =
          initial_along code look (with_variable type name env) type name e n p end k.on s h
      statement_along env (If c s) n broken continued p end k sp h out =
          if_along env c n (statement look env s (n + size c) broken continued) (jumps s) broken continued (skeleton.statement s (n + size c))
          (statement_along env s (n + size c) broken continued) p end k sp h out
      statement_along env (IfElse c s t) n broken continued p end k sp h out =
          let m = n + size c in
          let o = m + size_stmt s in
          let other = statement look env t o broken continued in
          let passed = suc (length other) in
          if_else_along env c n (statement look env s m (passed + broken) (passed + continued)) other (jumps s) (jumps t) broken continued
          (skeleton.statement s m) (skeleton.statement t o)
          (statement_along env s m (passed + broken) (passed + continued)) (statement_along env t o broken continued) p end k sp h out
      statement_along env (While c s) n broken continued p end k sp h out =
          let m = n + size c in
          let b = m + size_stmt s in
          subst (λ x. Along code p (turning look env (Some c) n (statement look env s m 1 0) [] (b + 0)) (skeleton.loop (Some c) n (skeleton.statement s m) pass x k))
          (none_on b)
          (turning_along env (Some c) n (statement look env s m 1 0) [] (b + 0) (skeleton.statement s m) pass (jumps s) false broken continued
          (statement_along env s m 1 0) (effect_if_along code look env None 0) p end k sp h out)
      statement_along env (DoWhile s c) n broken continued p end k sp h out =
          let m = n + size_stmt s in
          let test = condition_code look env c (negated c) m ++ unless_jump (negated c) 1 ∷ [] in
          do_along env c m (statement look env s n (suc (length test)) 0) (m + size c) (skeleton.statement s n) (jumps s) false broken continued
          (statement_along env s n (suc (length test)) 0) p end k sp h out
      statement_along env (For first test step s) n broken continued p end k sp h out =
          let inner = declare_all first ([] ∷ env) in
          let t = n + size_stmts first in
          let m = t + size_if test in
          let q = m + size_stmt s in
          let b = q + size_if step in
          let stepped = effect_if look inner step q in
          let turn = statement look inner s m (suc (length stepped)) 0 in
          let turns = turning look inner test t turn stepped b in
          let loop = skeleton.loop test t (skeleton.statement s m) (expression_if step q) b k in
          let start = statements look ([] ∷ env) first n (length turns + broken) (length turns + continued) in
          let x = halves code p start turns end sp in
          let v = turning_along inner test t turn stepped b (skeleton.statement s m) (expression_if step q) (jumps s) (some_jump first) broken continued
          (statement_along inner s m (suc (length stepped)) 0) (effect_if_along code look inner step q) x.middle end k x.second h out in
          let u = statements_along ([] ∷ env) first n (length turns + broken) (length turns + continued) p x.middle (on_to loop.first k) x.first v.first
          (out_of_first k broken continued loop.first turns x.second out) in
          record { first = u.first; rows = rows_behind code x.first.ends u.rows v.rows }
      statement_along env Break n broken continued p end k s h out =
          let x = next code p (Jump broken) [] end s in
          record {
            first = jumped code x.stands (reached (ap (λ q. q + broken) (nothing_between code (suc p) end x.later)) (out refl).0);
            rows = private p (Jump broken) [] [] refl (done (suc p));
          }
      statement_along env Continue n broken continued p end k s h out =
          let x = next code p (Jump continued) [] end s in
          record {
            first = jumped code x.stands (reached (ap (λ q. q + continued) (nothing_between code (suc p) end x.later)) (out refl).1);
            rows = private p (Jump continued) [] [] refl (done (suc p));
          }
      statement_along env (Return e) n broken continued p end k s h out =
          and_then code (value_along code look env e n) (return_point code (n + size e)) p end k.on s h
      statement_along env UpdatePoint n broken continued p end k s h out =
          and_then code (stop_point code stop.Update n (no_return stop.Update refl)) (check_point code check_in.Update (suc n)) p end k.on s h
      statement_along env (Transaction ss) n broken continued p end k sp h out =
          let e = n + 2 + size_stmts ss in
          let inside = statements look ([] ∷ env) ss (n + 2) (2 + broken) (2 + continued) in
          let opening = Halt stop.Begin n ∷ CheckIn check_in.Begin (suc n) ∷ [] in
          let closing = Halt stop.End e ∷ CheckIn check_in.End (suc e) ∷ [] in
          let x = halves code p (opening ++ inside) closing end sp in
          let y = halves code p opening inside x.middle x.first in
          let v = and_then code (stop_point code stop.End e (no_return stop.End refl)) (check_point code check_in.End (suc e)) x.middle end k.on x.second h in
          let u = statements_along ([] ∷ env) ss (n + 2) (2 + broken) (2 + continued) y.middle x.middle (on_to (e ∷ []) k) y.second v.first
          (out_of_first k broken continued (e ∷ []) closing x.second out) in
          let w = and_then code (stop_point code stop.Begin n (no_return stop.Begin refl)) (check_point code check_in.Begin (suc n)) p y.middle
          (skeleton.statements ss (n + 2) (on_to (e ∷ []) k)).first y.first u.first in
          record { first = w.first; rows = rows_behind code x.first.ends (rows_behind code y.first.ends w.rows u.rows) v.rows }

      pub statements_along : (env : Environment) (ss : Statements) (n broken continued : ℕ)
          → Leaves (statements look env ss n broken continued) (some_jump ss) broken continued (skeleton.statements ss n)
      statements_along env NoStatements n broken continued p end k s h out =
          record { first = reached (nothing_between code p end s) h; rows = done p }
      statements_along env (StatementThen s ss) n broken continued p end k sp h out =
          let rest = statements look (declares s env) ss (n + size_stmt s) broken continued in
          let behind = skeleton.statements ss (n + size_stmt s) k in
          let x = halves code p (statement look env s n (length rest + broken) (length rest + continued)) rest end sp in
          let v = statements_along (declares s env) ss (n + size_stmt s) broken continued x.middle end k x.second h
          (λ t. out (right_true (jumps s) (some_jump ss) t)) in
          let u = statement_along env s n (length rest + broken) (length rest + continued) p x.middle (on_to behind.first k) x.first v.first
          (out_of_first k broken continued behind.first rest x.second (λ t. out (left_true (jumps s) (some_jump ss) t))) in
          record { first = u.first; rows = rows_behind code x.first.ends u.rows v.rows }
