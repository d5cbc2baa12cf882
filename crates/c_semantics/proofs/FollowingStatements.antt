-- The same of statements: control goes on after them, to the end of a loop at a `break`, to its next turn at a `continue`.
use Rattle.std.proofs.Common.{◌≡◌, ℕ, zero, suc, ◌+◌, Bool, true, false, ◌&&◌, List, [], ◌∷◌, ◌++◌, Option, Some, None, refl, sym, ◌∙◌, ap, subst, append_assoc, append-nil, add-zero}
use Rattle.std.specs.Prelude.{◌==◌}
use Rattle.run_types.specs.CheckIns as check_in
use Rattle.run_types.specs.Skeleton.{PointKind, Point, Skeleton}
use Rattle.run_types.specs.Skeleton as kind
use Rattle.c_semantics.specs.Values.{zero_of}
use Rattle.c_semantics.specs.Resolved.{Expression, Statement, Statements, Local, Block, Empty, Evaluate, Declare, If, IfElse, While, DoWhile, For, Break, Continue, Return, UpdatePoint, Transaction, NoStatements, StatementThen}
use Rattle.c_semantics.specs.Points.{at_depth, evaluated, evaluated_if, of_statement, of_statements, size, size_if, size_stmt, size_stmts}
use Rattle.c_semantics.specs.Stops as stop
use Rattle.c_semantics.specs.Pieces.{Loop, Piece, body_at, step_at, back_at, Set, Drop, Then, ThenElse, Turn, Repeat, Do, Sequence, Close, LoopTest, AfterBody, BackEdge, Until, At}
use Rattle.c_semantics.specs.Evaluation.{Next, Ways, local, ways, stop_at, set, drop, choose, closing, back_edge, stepped, looped, tested, loop_test, repeated, until, loop_of, declared}
use Rattle.c_semantics.specs.Evaluation as ev
use Rattle.c_semantics.specs.Skeletons.{Flow, Targets, union, on_to, guarded, loop, do_loop, expression_if, pass}
use Rattle.c_semantics.specs.Skeletons as flow
use Rattle.c_semantics.specs.Leaving.{stays, all_stay}
use Rattle.c_semantics.proofs.Segments.{Has, has_left, has_right}
use Rattle.c_semantics.proofs.Sizes.{rows, rows_if, evaluated_count, evaluated_if_count, count, count_all, statement_rows, statements_rows}
use Rattle.c_semantics.proofs.Landing.{enough, Holds, fewer, untracked, drop_holds, choose_holds, local_write_holds, close_holds, stop_holds}
use Rattle.c_semantics.proofs.Following.{plain, leading, expression}

both_true : (a b : Bool) → (a && b) ≡ true → (a ≡ true) × (b ≡ true)
both_true true true e = (refl, refl)
both_true true false e = (refl, e)
both_true false b e = (e, absurd (no e))
  where
    no : false ≡ true → ⊥
    no e = cc

-- the ways on are good; those of a `break` and of a `continue` where these may be
pub record Goes (s : Skeleton) (tracked : Bool) (i t : ℕ) (inside : Bool) (k : Targets) (w : Ways) : Type 0 where
  pub on : Holds s tracked i t k.on w.on
  pub broken : (tracked ≡ true → inside ≡ true) → Holds s tracked i t k.broken w.broken
  pub continued : (tracked ≡ true → inside ≡ true) → Holds s tracked i t k.continued w.continued

never_true : false ≡ true → ⊥
never_true e = cc

module _ (s : Skeleton) (tracked : Bool) where
  -- a return, after which the frame is gone
  pub returns : (i t d n : ℕ) (rest : List Piece) → Has s n (at_depth d kind.Return ∷ []) ([] ∷ []) → (tracked ≡ true → d ≡ t)
      → (tracked ≡ true → (d == 0) ≡ true) → Holds s tracked i t (n ∷ []) (stop_at stop.Return n rest)
  returns i t d n rest has same level =
      plain s tracked i t d [] stop.Return n rest has refl same (λ held. subst (λ x. (x == 0) ≡ true) (same held) (level held))
      (λ not. absurd (not refl))

  -- fewer stops on each way, the ends of scopes on each way
  few : (i t : ℕ) (inside : Bool) (k : Targets) (w : Ways) → Goes s tracked (suc i) t inside k w → Goes s tracked i t inside k w
  few i t inside k w g = record {
    on = λ x y. fewer s tracked i t k.on (w.on x y) (g.on x y);
    broken = λ may x y. fewer s tracked i t k.broken (w.broken x y) (g.broken may x y);
    continued = λ may x y. fewer s tracked i t k.continued (w.continued x y) (g.continued may x y);
  }

  pub closed : (i t : ℕ) (inside : Bool) (k : Targets) (w : Ways) → Goes s tracked i t inside k w → Goes s tracked i t inside k (closing w)
  closed i t inside k w g = record {
    on = close_holds s tracked i t k.on w.on g.on;
    broken = λ may. close_holds s tracked i t k.broken w.broken (g.broken may);
    continued = λ may. close_holds s tracked i t k.continued w.continued (g.continued may);
  }

  -- an expression that may be absent, before what it leaves is dropped
  step_holds : (l : Loop) (e : Option Expression) (i t d : ℕ) (to : List ℕ) (rest : List Piece)
      → Has s (step_at l) (evaluated_if d e) (expression_if e (step_at l) to).next → (tracked ≡ true → d ≡ t)
      → Holds s tracked i t to (back_edge l rest) → Holds s tracked i t (expression_if e (step_at l) to).first (stepped l e rest)
  step_holds l None i t d to rest has same h = h
  step_holds l (Some e) i t d to rest has same h =
      expression s tracked e i t d (step_at l) to (Drop ∷ BackEdge l ∷ rest) has same (drop_holds s tracked i t to (back_edge l rest) h)

  -- a loop's test, after which is its body
  test_holds : (l : Loop) (c : Option Expression) (i t d : ℕ) (inside : Flow) (on : List ℕ) (rest : List Piece) (w : Ways)
      → (same_rest : w ≡ ways rest)
      → Has s l.first (evaluated_if d c) (expression_if c l.first (union inside.first on)).next → (tracked ≡ true → d ≡ t)
      → Holds s tracked i t inside.first (ev.statement l.body (body_at l) (AfterBody l ∷ rest) (looped l rest w))
      → Holds s tracked i t on w.on
      → Holds s tracked i t (guarded c l.first inside on).first (tested l c (ev.statement l.body (body_at l)) rest w)
  test_holds l None i t d inside on rest w e has same h k = h
  test_holds l (Some c) i t d inside on rest w e has same h k =
      subst (λ v. Holds s tracked i t inside.first (ev.statement l.body (body_at l) (AfterBody l ∷ rest) (looped l rest v))
      → Holds s tracked i t on v.on
      → Holds s tracked i t (guarded (Some c) l.first inside on).first (tested l (Some c) (ev.statement l.body (body_at l)) rest v)) (sym e)
      (λ h k. expression s tracked c i t d l.first (union inside.first on) (Turn l ∷ rest) has same
      (choose_holds s tracked i t inside.first on (ev.statement l.body (body_at l) (AfterBody l ∷ rest) (looped l rest (ways rest)))
      (local rest) h k))
      h k

  guarded_next : (c : Option Expression) (n : ℕ) (inside : Flow) (on : List ℕ)
      → (guarded c n inside on).next ≡ (expression_if c n (union inside.first on)).next ++ inside.next
  guarded_next None n inside on = refl
  guarded_next (Some c) n inside on = ap (λ x. (flow.expression c n (union inside.first on)).next ++ x) (append-nil inside.next)

  -- a loop of a test, a body and a step: the parts of its flow
  abbrev inner_of : Loop → Targets → Targets
  inner_of l k =
      let behind = expression_if l.step (step_at l) (back_at l ∷ []) in
      record { on = behind.first; broken = k.on; continued = behind.first }

  abbrev inside_of : Loop → Targets → Flow
  inside_of l k = flow.statement l.body (body_at l) (inner_of l k)

  abbrev turns_of : Loop → Targets → Flow
  turns_of l k = loop l.test l.first (flow.statement l.body (body_at l)) (expression_if l.step (step_at l)) (back_at l) k

  -- where they are in the skeleton
  record LoopAt (l : Loop) (d : ℕ) (k : Targets) : Type 0 where
    test : Has s l.first (evaluated_if d l.test) (expression_if l.test l.first (union (inside_of l k).first k.on)).next
    body : Has s (body_at l) (of_statement d l.body) (inside_of l k).next
    step : Has s (step_at l) (evaluated_if d l.step) (expression_if l.step (step_at l) (back_at l ∷ [])).next
    back : Has s (back_at l) (at_depth d kind.Back ∷ []) ((turns_of l k).first ∷ [])

  loop_at : (l : Loop) (d : ℕ) (k : Targets)
      → Has s l.first (evaluated_if d l.test ++ (of_statement d l.body ++ (evaluated_if d l.step ++ at_depth d kind.Back ∷ [])))
      (turns_of l k).next
      → LoopAt l d k
  loop_at l d k has =
      let test = expression_if l.test l.first (union (inside_of l k).first k.on) in
      let step = expression_if l.step (step_at l) (back_at l ∷ []) in
      let turned = (turns_of l k).first ∷ [] in
      let tail = evaluated_if d l.step ++ at_depth d kind.Back ∷ [] in
      let whole = subst (λ x. Has s l.first (evaluated_if d l.test ++ (of_statement d l.body ++ tail)) x)
      (ap (λ x. (x ++ step.next) ++ turned) (guarded_next l.test l.first (inside_of l k) k.on)
      ∙ append_assoc (test.next ++ (inside_of l k).next) step.next turned
      ∙ append_assoc test.next (inside_of l k).next (step.next ++ turned)) has in
      let after_test = has_right s l.first (size_if l.test) (evaluated_if d l.test) (of_statement d l.body ++ tail) test.next
      ((inside_of l k).next ++ (step.next ++ turned)) (evaluated_if_count d l.test)
      (rows_if l.test l.first (union (inside_of l k).first k.on)) whole in
      let after_body = has_right s (body_at l) (size_stmt l.body) (of_statement d l.body) tail (inside_of l k).next
      (step.next ++ turned) (count d l.body) (statement_rows l.body (body_at l) (inner_of l k)) after_test in
      record {
        test = has_left s l.first (evaluated_if d l.test) (of_statement d l.body ++ tail) test.next
            ((inside_of l k).next ++ (step.next ++ turned)) whole;
        body = has_left s (body_at l) (of_statement d l.body) tail (inside_of l k).next (step.next ++ turned) after_test;
        step = has_left s (step_at l) (evaluated_if d l.step) (at_depth d kind.Back ∷ []) step.next turned after_body;
        back = has_right s (step_at l) (size_if l.step) (evaluated_if d l.step) (at_depth d kind.Back ∷ []) step.next turned
            (evaluated_if_count d l.step) (rows_if l.step (step_at l) (back_at l ∷ [])) after_body;
      }

  -- a loop, by its body at any number of stops
  loop_holds : (i : ℕ) (l : Loop) (t d : ℕ) (inside : Bool) (k : Targets) (rest : List Piece) → LoopAt l d k
      → (tracked ≡ true → d ≡ t)
      → ((j : ℕ) → Goes s tracked j t true (inner_of l k) (ways (AfterBody l ∷ rest))
      → Holds s tracked j t (inside_of l k).first (ev.statement l.body (body_at l) (AfterBody l ∷ rest) (ways (AfterBody l ∷ rest))))
      → Goes s tracked i t inside k (ways rest)
      → Holds s tracked i t (turns_of l k).first (loop_test l (ev.statement l.body (body_at l)) rest (ways rest))
  loop_holds zero l t d inside k rest at same body g = λ values scopes. enough t (turns_of l k).first _
  loop_holds (suc i) l t d inside k rest at same body g =
      let around : Holds s tracked (suc i) t (back_at l ∷ []) (back_edge l rest) =
      λ x y. stop_holds s tracked i t d (turns_of l k).first stop.Back (back_at l) (LoopTest l ∷ rest) x y at.back refl same (λ _. refl)
      (λ _. loop_holds i l t d inside k rest at same body (few i t inside k (ways rest) g)) in
      let again = step_holds l l.step (suc i) t d (back_at l ∷ []) rest at.step same around in
      test_holds l l.test (suc i) t d (inside_of l k) k.on rest (ways rest) refl at.test same
      (body (suc i) (record { on = again; broken = λ _. g.on; continued = λ _. again }))
      g.on

  -- a `do` loop likewise
  abbrev test_of : Statement → Expression → ℕ → Targets → Flow
  test_of a c n k = flow.expression c (n + size_stmt a) (union ((n + size_stmt a + size c) ∷ []) k.on)

  abbrev done_of : Statement → Expression → ℕ → Targets → Flow
  done_of a c n k =
      flow.statement a n (record { on = (test_of a c n k).first; broken = k.on; continued = (test_of a c n k).first })

  do_holds : (i : ℕ) (a : Statement) (c : Expression) (t d n : ℕ) (inside : Bool) (k : Targets) (rest : List Piece)
      → Has s (n + size_stmt a) (evaluated d c) (test_of a c n k).next
      → Has s (n + size_stmt a + size c) (at_depth d kind.Back ∷ []) ((done_of a c n k).first ∷ [])
      → (tracked ≡ true → d ≡ t)
      → ((j : ℕ) → Goes s tracked j t true (record { on = (test_of a c n k).first; broken = k.on; continued = (test_of a c n k).first }) (ways (Until a c n ∷ rest))
      → Holds s tracked j t (done_of a c n k).first (ev.statement a n (Until a c n ∷ rest) (ways (Until a c n ∷ rest))))
      → Goes s tracked i t inside k (ways rest)
      → Holds s tracked i t (done_of a c n k).first (ev.statement (DoWhile a c) n rest (ways rest))
  do_holds zero a c t d n inside k rest has back same body g = λ values scopes. enough t (done_of a c n k).first _
  do_holds (suc i) a c t d n inside k rest has back same body g =
      let b = n + size_stmt a + size c in
      let around : Holds s tracked (suc i) t (b ∷ []) (repeated a c n rest) =
      λ x y. stop_holds s tracked i t d (done_of a c n k).first stop.Back b (Do (DoWhile a c) n ∷ rest) x y back refl same (λ _. refl)
      (λ _. do_holds i a c t d n inside k rest has back same body (few i t inside k (ways rest) g)) in
      let again = expression s tracked c (suc i) t d (n + size_stmt a) (union (b ∷ []) k.on) (Repeat a c n ∷ rest) has same
      (choose_holds s tracked (suc i) t (b ∷ []) k.on (repeated a c n rest) (local rest) around g.on) in
      body (suc i) (record { on = again; broken = λ _. g.on; continued = λ _. again })

  mutual
    statement : (a : Statement) (i t d n : ℕ) (inside : Bool) (k : Targets) (rest : List Piece)
        → Has s n (of_statement d a) (flow.statement a n k).next → (tracked ≡ true → stays d inside a ≡ true)
        → (tracked ≡ true → d ≡ t) → Goes s tracked i t inside k (ways rest)
        → Holds s tracked i t (flow.statement a n k).first (ev.statement a n rest (ways rest))
    statement (Block ss) i t d n inside k rest has stay same g = λ values scopes.
        statements ss i t d n inside k (Close ∷ rest) has stay same (closed i t inside k (ways rest) g) values ([] ∷ scopes)
    statement Empty i t d n inside k rest has stay same g = g.on
    statement (Evaluate e) i t d n inside k rest has stay same g =
        expression s tracked e i t d n k.on (Drop ∷ rest) has same (drop_holds s tracked i t k.on (local rest) g.on)
    statement (Declare type name None) i t d n inside k rest has stay same g = λ values scopes.
        g.on values (declared name (zero_of type) scopes)
    statement (Declare type name (Some e)) i t d n inside k rest has stay same g = λ values scopes.
        expression s tracked e i t d n k.on (Set (Local name) (n + size e) ∷ Drop ∷ rest) has same
        (local_write_holds s tracked i t k.on name (local (Drop ∷ rest)) (drop_holds s tracked i t k.on (local rest) g.on))
        values (declared name (zero_of type) scopes)
    statement (If c a) i t d n inside k rest has stay same g =
        let m = n + size c in
        let x = flow.statement a m k in
        let u = union x.first k.on in
        let z = flow.expression c n u in
        let given = subst (λ more. Has s n (evaluated d c ++ of_statement d a) (z.next ++ more)) (append-nil x.next) has in
        expression s tracked c i t d n u (Then a m ∷ rest) (has_left s n (evaluated d c) (of_statement d a) z.next x.next given) same
        (choose_holds s tracked i t x.first k.on (ev.statement a m rest (ways rest)) (local rest)
        (statement a i t d m inside k rest
        (has_right s n (size c) (evaluated d c) (of_statement d a) z.next x.next (evaluated_count d c) (rows c n u).alike given)
        stay same g)
        g.on)
    statement (IfElse c a b) i t d n inside k rest has stay same g =
        let m = n + size c in
        let j = m + size_stmt a in
        let x = flow.statement a m k in
        let y = flow.statement b j k in
        let u = union x.first y.first in
        let z = flow.expression c n u in
        let given = subst (λ ps. Has s n ps (z.next ++ (x.next ++ y.next)))
        (append_assoc (evaluated d c) (of_statement d a) (of_statement d b)) has in
        let both = has_right s n (size c) (evaluated d c) (of_statement d a ++ of_statement d b) z.next (x.next ++ y.next)
        (evaluated_count d c) (rows c n u).alike given in
        expression s tracked c i t d n u (ThenElse a b m ∷ rest)
        (has_left s n (evaluated d c) (of_statement d a ++ of_statement d b) z.next (x.next ++ y.next) given) same
        (choose_holds s tracked i t x.first y.first (ev.statement a m rest (ways rest)) (ev.statement b j rest (ways rest))
        (statement a i t d m inside k rest (has_left s m (of_statement d a) (of_statement d b) x.next y.next both)
        (λ e. (both_true (stays d inside a) (stays d inside b) (stay e)).0) same g)
        (statement b i t d j inside k rest
        (has_right s m (size_stmt a) (of_statement d a) (of_statement d b) x.next y.next (count d a) (statement_rows a m k) both)
        (λ e. (both_true (stays d inside a) (stays d inside b) (stay e)).1) same g))
    statement (While c a) i t d n inside k rest has stay same g =
        let l = loop_of (Some c) None a n in
        let m = n + size c in
        let zero_more : m + size_stmt a ≡ back_at l = sym (add-zero (m + size_stmt a)) in
        let points = evaluated d c ++ (of_statement d a ++ at_depth d kind.Back ∷ []) in
        let given = subst (λ ps. Has s n ps (flow.statement (While c a) n k).next)
        (append_assoc (evaluated d c) (of_statement d a) (at_depth d kind.Back ∷ [])) has in
        let at = loop_at l d k (subst (λ b. Has s n points (loop (Some c) n (flow.statement a m) pass b k).next) zero_more given) in
        subst (λ b. Holds s tracked i t (loop (Some c) n (flow.statement a m) pass b k).first (ev.statement (While c a) n rest (ways rest)))
        (sym zero_more)
        (loop_holds i l t d inside k rest at same
        (λ j h. statement a j t d m true (inner_of l k) (AfterBody l ∷ rest) at.body stay same h) g)
    statement (DoWhile a c) i t d n inside k rest has stay same g =
        let m = n + size_stmt a in
        let z = test_of a c n k in
        let x = done_of a c n k in
        let turned = x.first ∷ [] in
        let inner : Targets = record { on = z.first; broken = k.on; continued = z.first } in
        let ps = evaluated d c ++ at_depth d kind.Back ∷ [] in
        let given = subst (λ ps. Has s n ps (x.next ++ (z.next ++ turned)))
        (append_assoc (of_statement d a) (evaluated d c) (at_depth d kind.Back ∷ []))
        (subst (λ more. Has s n (of_statement d (DoWhile a c)) more) (append_assoc x.next z.next turned) has) in
        let behind = has_right s n (size_stmt a) (of_statement d a) ps x.next (z.next ++ turned) (count d a)
        (statement_rows a n inner) given in
        do_holds i a c t d n inside k rest
        (has_left s m (evaluated d c) (at_depth d kind.Back ∷ []) z.next turned behind)
        (has_right s m (size c) (evaluated d c) (at_depth d kind.Back ∷ []) z.next turned (evaluated_count d c)
        (rows c m (union ((m + size c) ∷ []) k.on)).alike behind)
        same
        (λ j h. statement a j t d n true inner (Until a c n ∷ rest)
        (has_left s n (of_statement d a) ps x.next (z.next ++ turned) given) stay same h)
        g
    statement (For first test step a) i t d n inside k rest has stay same g =
        let l = loop_of test step a (n + size_stmts first) in
        let turns = turns_of l k in
        let start = flow.statements first n (on_to turns.first k) in
        let fs = of_statements d first in
        let back = at_depth d kind.Back ∷ [] in
        let tail = evaluated_if d test ++ (of_statement d a ++ (evaluated_if d step ++ back)) in
        let given = subst (λ ps. Has s n ps (start.next ++ turns.next))
        (append_assoc (fs ++ evaluated_if d test ++ of_statement d a) (evaluated_if d step) back
        ∙ append_assoc (fs ++ evaluated_if d test) (of_statement d a) (evaluated_if d step ++ back)
        ∙ append_assoc fs (evaluated_if d test) (of_statement d a ++ (evaluated_if d step ++ back))) has in
        let at = loop_at l d k (has_right s n (size_stmts first) fs tail start.next turns.next (count_all d first)
        (statements_rows first n (on_to turns.first k)) given) in
        let stay_first : tracked ≡ true → all_stay d inside first ≡ true =
        λ e. (both_true (all_stay d inside first) (stays d true a) (stay e)).0 in
        let stay_body : tracked ≡ true → stays d true a ≡ true =
        λ e. (both_true (all_stay d inside first) (stays d true a) (stay e)).1 in
        let ending = closed i t inside k (ways rest) g in
        λ values scopes. statements first i t d n inside (on_to turns.first k) (LoopTest l ∷ Close ∷ rest)
        (has_left s n fs tail start.next turns.next given) stay_first same
        (record {
          on = loop_holds i l t d inside k (Close ∷ rest) at same
              (λ j h. statement a j t d (body_at l) true (inner_of l k) (AfterBody l ∷ Close ∷ rest) at.body stay_body same h) ending;
          broken = ending.broken;
          continued = ending.continued;
        })
        values ([] ∷ scopes)
    statement Break i t d n inside k rest has stay same g = g.broken stay
    statement Continue i t d n inside k rest has stay same g = g.continued stay
    statement (Return e) i t d n inside k rest has stay same g =
        let m = n + size e in
        let back = at_depth d kind.Return ∷ [] in
        let z = flow.expression e n (m ∷ []) in
        expression s tracked e i t d n (m ∷ []) (At stop.Return m ∷ rest)
        (has_left s n (evaluated d e) back z.next ([] ∷ []) has) same
        (returns i t d m rest
        (has_right s n (size e) (evaluated d e) back z.next ([] ∷ []) (evaluated_count d e) (rows e n (m ∷ [])).alike has)
        same stay)
    statement UpdatePoint i t d n inside k rest has stay same g =
        leading s tracked i t d d k.on stop.Update check_in.Update n rest has refl same (λ _. refl) (λ _. g.on)
    statement (Transaction ss) i t d n inside k rest has stay same g =
        let e = n + 2 + size_stmts ss in
        let inner = on_to (e ∷ []) k in
        let x = flow.statements ss (n + 2) inner in
        let begin : List Point = at_depth d kind.Begin ∷ at_depth (suc d) (kind.CheckIn check_in.Begin) ∷ [] in
        let end : List Point = at_depth (suc d) kind.End ∷ at_depth d (kind.CheckIn check_in.End) ∷ [] in
        let opens = (suc n ∷ []) ∷ x.first ∷ [] in
        let closes = (suc e ∷ []) ∷ k.on ∷ [] in
        let ps = of_statements (suc d) ss in
        let within = has_right s n 2 begin (ps ++ end) opens (x.next ++ closes) refl refl has in
        let same_deeper : tracked ≡ true → suc d ≡ suc t = λ held. ap suc (same held) in
        let ended : Holds s tracked i (suc t) (e ∷ []) (stop_at stop.End e rest) =
        leading s tracked i (suc t) (suc d) d k.on stop.End check_in.End e rest
        (has_right s (n + 2) (size_stmts ss) ps end x.next closes (count_all (suc d) ss)
        (statements_rows ss (n + 2) inner) within)
        refl same_deeper (λ _. refl) (λ _. g.on) in
        let out : Goes s tracked i (suc t) false inner (ways (At stop.End e ∷ rest)) = record {
          on = ended;
          broken = λ never x y. untracked s tracked i t (suc t) k.broken ((ways rest).broken x y) (λ held. never_true (never held))
              (g.broken (λ held. absurd (never_true (never held))) x y);
          continued = λ never x y. untracked s tracked i t (suc t) k.continued ((ways rest).continued x y) (λ held. never_true (never held))
              (g.continued (λ held. absurd (never_true (never held))) x y);
        } in
        leading s tracked i t d (suc d) x.first stop.Begin check_in.Begin n (Do (Block ss) (n + 2) ∷ At stop.End e ∷ rest)
        (has_left s n begin (ps ++ end) opens (x.next ++ closes) has) refl same (λ _. refl)
        (λ _ values scopes. statements ss i (suc t) (suc d) (n + 2) false inner (Close ∷ At stop.End e ∷ rest)
        (has_left s (n + 2) ps end x.next closes within) stay same_deeper
        (closed i (suc t) false inner (ways (At stop.End e ∷ rest)) out) values ([] ∷ scopes))

    pub statements : (ss : Statements) (i t d n : ℕ) (inside : Bool) (k : Targets) (rest : List Piece)
        → Has s n (of_statements d ss) (flow.statements ss n k).next → (tracked ≡ true → all_stay d inside ss ≡ true)
        → (tracked ≡ true → d ≡ t) → Goes s tracked i t inside k (ways rest)
        → Holds s tracked i t (flow.statements ss n k).first (ev.sequence ss n rest (ways rest))
    statements NoStatements i t d n inside k rest has stay same g = g.on
    statements (StatementThen a ss) i t d n inside k rest has stay same g =
        let m = n + size_stmt a in
        let y = flow.statements ss m k in
        let first = on_to y.first k in
        let x = flow.statement a n first in
        statement a i t d n inside first (Sequence ss m ∷ rest)
        (has_left s n (of_statement d a) (of_statements d ss) x.next y.next has)
        (λ e. (both_true (stays d inside a) (all_stay d inside ss) (stay e)).0) same
        (record {
          on = statements ss i t d m inside k rest
              (has_right s n (size_stmt a) (of_statement d a) (of_statements d ss) x.next y.next (count d a)
              (statement_rows a n first) has)
              (λ e. (both_true (stays d inside a) (all_stay d inside ss) (stay e)).1) same g;
          broken = g.broken;
          continued = g.continued;
        })
