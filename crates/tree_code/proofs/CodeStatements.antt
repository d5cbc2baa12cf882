-- The code of a statement does what its tree does, where the code behind it does what comes after it, and where its jumps lead
-- to code that does what they lead to.
use Rattle.std.proofs.Common.{◌≡◌, ℕ, suc, ◌+◌, Bool, IsTrue, List, [], ◌∷◌, ◌++◌, length, Option, Some, None, refl, sym, ap, subst, ◌∙◌, arith, length-append}
use Rattle.c_tree.specs.BareExpr.{BareType}
use Rattle.c_tree.specs.BareDef.{BareBinding}
use Rattle.c_semantics.specs.Resolved.{Expression, Statement, DoWhile}
use Rattle.c_semantics.specs.Points.{size, size_stmt}
use Rattle.c_semantics.specs.Stops as stop
use Rattle.c_semantics.specs.Pieces.{Loop, Piece, back_at, body_at, step_at, Then, ThenElse, Turn, Repeat, Do, Close, LoopTest, AfterBody, BackEdge, Until}
use Rattle.c_semantics.specs.Evaluation.{Next, Ways, back_edge, choose, close_scope, closing, drop, loop_of, loop_test, looped, only, repeated, set, stepped, stop_at, tested, until}
use Rattle.c_semantics.specs.Evaluation as ev
use Rattle.typed_trees.specs.ValueTypes.{Environment, in_scope}
use Rattle.typed_trees.specs.ExpressionTypes.{IsScalar}
use Rattle.typed_trees.specs.StatementTypes.{ConditionIf, IsPart, StatementTyped, TypedIf, declares, jumps}
use Rattle.typed_trees.specs.PieceTypes.{DoTyped, Inside, LoopTyped, Stack}
use Rattle.typed_trees.proofs.ValuesOfTypes.{never}
use Rattle.typed_trees.proofs.SafeStatements.{part_declares}
use Rattle.bytecode.specs.Instructions.{CheckIn, Jump, Store}
use Rattle.bytecode.specs.Instructions as instruction
use Rattle.tree_code.specs.Code.{Code, HasRoom, HaveRoom, effect, effect_if, guarded, slot, turning, value, zero_code}
use Rattle.tree_code.specs.Code as made
use Rattle.tree_code.specs.CodedPieces.{At, Branch, DoAt, HasAt, LoopAt, Reaches, StatementAt, StatementsAt, Tests, Where, back_place, body_place, coding, do_test, do_turn, edge_place, end_place, guard_length, jumps_on, loop_code, step_code, step_place, test_place, there, turn_code}
use Rattle.tree_code.specs.CodedPieces as coded
use Rattle.tree_code.proofs.CodePlaces.{Span, nothing_between}
use Rattle.tree_code.proofs.CodeLoops.{DoParts, Parts, do_parts_of, guarded_of, parts_of}
use Rattle.tree_code.proofs.CodeReached.{fine_reached}
use Rattle.tree_code.proofs.CodeSteps.{Coded, Fine, Ready, Setting, choose_ready, close_ready, fine_on, ready_on, stop_fine}
use Rattle.tree_code.proofs.CodeEffects.{condition_ready, effect_ready}

module _ (c : Setting) where
  abbrev Well : List Piece → Next → Stack → Environment → Where → Type 0
  Well = Fine c

  abbrev Ends : Next → Stack → Environment → Where → Type 0
  Ends = Ready c

  -- ---- jumps

  -- the code at the place of a `break` and at that of a `continue` does what they lead to
  pub record Jumps (ps : List Piece) (k : Ways) (stack : Stack) (env : Environment) (b d : ℕ) : Type 0 where
    pub broken_coded : (coding c.code c.most c.look c.result ps).broken stack env (At b)
    pub continued_coded : (coding c.code c.most c.look c.result ps).continued stack env (At d)
    pub broken : Ends k.broken stack env (At b)
    pub continued : Ends k.continued stack env (At d)

  pub jumps_at : (ps : List Piece) (k : Ways) (stack : Stack) (env : Environment) (a b d e : ℕ) → a ≡ b → d ≡ e → Jumps ps k stack env a d
      → Jumps ps k stack env b e
  jumps_at ps k stack env a b d e p q j = subst (λ y. Jumps ps k stack env b y) q (subst (λ x. Jumps ps k stack env x d) p j)

  pub jumps_well : (jump : Bool) (ps : List Piece) (k : Ways) (stack : Stack) (env : Environment) (end broken continued : ℕ)
      → (IsTrue jump → Jumps ps k stack env (end + broken) (end + continued))
      → coded.JumpsWell jump (coding c.code c.most c.look c.result ps) stack env end broken continued
  jumps_well jump ps k stack env end broken continued j e = let h = j e in (h.broken_coded, h.continued_coded)

  pub inside_well : (ps : List Piece) (k : Ways) (stack : Stack) (env : Environment) (b d : ℕ) → Inside env (λ inner. Jumps ps k stack inner b d)
      → Inside env (λ inner.
      (coding c.code c.most c.look c.result ps).broken stack inner (At b) × (coding c.code c.most c.look c.result ps).continued stack inner (At d))
  inside_well ps k stack [] b d j = absurd j
  inside_well ps k stack (bs ∷ outer) b d j = λ more. ((j more).broken_coded, (j more).continued_coded)

  pub closed_jumps : (bs : List BareBinding) (ps : List Piece) (k : Ways) (stack : Stack) (env : Environment) (b d : ℕ) → Jumps ps k stack env b d
      → Jumps (Close ∷ ps) (closing k) stack (bs ∷ env) b d
  closed_jumps bs ps k stack env b d j = record {
    broken_coded = j.broken_coded;
    continued_coded = j.continued_coded;
    broken = close_ready c k.broken stack env bs (At b) j.broken;
    continued = close_ready c k.continued stack env bs (At d) j.continued;
  }

  -- ---- statements before others

  -- a statement is done from wherever its code is
  abbrev pub Does : Environment → Statement → ℕ → List Piece → Ways → Stack → Type 0
  Does env s n ps k stack =
      (broken continued p end : ℕ) → Span c.code p (made.statement c.look env s n broken continued) end → Well ps k.on stack (declares s env) (At end)
      → (IsTrue (jumps s) → Jumps ps k stack env (end + broken) (end + continued)) → Ends (ev.statement s n ps k) stack env (At p)

  pub statement_at : (env : Environment) (s : Statement) (n broken continued p end : ℕ) → HasRoom c.most env s
      → Span c.code p (made.statement c.look env s n broken continued) end → StatementAt c.code c.most c.look env s n broken continued p end
  statement_at env s n broken continued p end r x = record { there = x.has; ends = x.ends; room = r }

  -- a part, after which control is where it was
  pub after_part : (s : Statement) (ps : List Piece) (k : Next) (stack : Stack) (env : Environment) (w : Where) → IsPart s → Well ps k stack env w
      → Well ps k stack (declares s env) w
  after_part s ps k stack env w part f = subst (λ e. Well ps k stack e w) (sym (part_declares s env part)) f

  pub then_fine : (s : Statement) (m : ℕ) (t : BareType) (ps : List Piece) (k : Ways) (stack : Stack) (env : Environment) (w : Where)
      (so nt broken continued : ℕ) → IsScalar t → StatementTyped c.look c.result env s → IsPart s → HasRoom c.most env s → Tests c.code w so nt
      → Span c.code so (made.statement c.look env s m broken continued) nt
      → (IsTrue (jumps s) → Jumps ps k stack env (nt + broken) (nt + continued)) → Well ps k.on stack env (At nt) → Does env s m ps k stack
      → Well (Then s m ∷ ps) (choose (ev.statement s m ps k) k.on) (t ∷ stack) env w
  then_fine s m t ps k stack env w so nt broken continued o typed part room test x j f go = record {
    coded = (
      o,
      typed,
      part,
      (
        so,
        nt,
        test,
        (
          broken,
          continued,
          statement_at env s m broken continued so nt room x,
          jumps_well (jumps s) ps k stack env nt broken continued j,
          f.coded,
        ),
      ),
    );
    ready =
        choose_ready c t (ev.statement s m ps k) k.on stack env w so nt o test
        (go broken continued so nt x (after_part s ps k.on stack env (At nt) part f) j) f.ready;
  }

  pub record Branches (s r : Statement) (m : ℕ) (env : Environment) (so nt broken continued other_broken other_continued middle end : ℕ) : Type 0 where
    pub one : Span c.code so (made.statement c.look env s m broken continued) middle
    pub over : Reaches c.code middle end
    pub other : Span c.code nt (made.statement c.look env r (m + size_stmt s) other_broken other_continued) end
    pub room : HasRoom c.most env s
    pub other_room : HasRoom c.most env r

  pub then_else_fine : (s r : Statement) (m : ℕ) (t : BareType) (ps : List Piece) (k : Ways) (stack : Stack) (env : Environment) (w : Where)
      (so nt broken continued other_broken other_continued middle end : ℕ) → IsScalar t → StatementTyped c.look c.result env s
      → StatementTyped c.look c.result env r → IsPart s → IsPart r → Tests c.code w so nt
      → Branches s r m env so nt broken continued other_broken other_continued middle end
      → (IsTrue (jumps s) → Jumps ps k stack env (middle + broken) (middle + continued))
      → (IsTrue (jumps r) → Jumps ps k stack env (end + other_broken) (end + other_continued)) → Well ps k.on stack env (At end)
      → Does env s m ps k stack → Does env r (m + size_stmt s) ps k stack
      → Well (ThenElse s r m ∷ ps) (choose (ev.statement s m ps k) (ev.statement r (m + size_stmt s) ps k)) (t ∷ stack) env w
  then_else_fine s r m t ps k stack env w so nt broken continued ob oc middle end o ts tr part other_part test x j i f first second = record {
    coded = (
      o,
      ts,
      tr,
      part,
      other_part,
      (
        so,
        nt,
        test,
        (
          broken,
          continued,
          ob,
          oc,
          middle,
          end,
          statement_at env s m broken continued so middle x.room x.one,
          x.over,
          statement_at env r (m + size_stmt s) ob oc nt end x.other_room x.other,
          jumps_well (jumps s) ps k stack env middle broken continued j,
          jumps_well (jumps r) ps k stack env end ob oc i,
          f.coded,
        ),
      ),
    );
    ready =
        choose_ready c t (ev.statement s m ps k) (ev.statement r (m + size_stmt s) ps k) stack env w so nt o test
        (first broken continued so middle x.one
        (after_part s ps k.on stack env (At middle) part (fine_reached c middle end x.over ps k.on stack env f)) j)
        (second ob oc nt end x.other (after_part r ps k.on stack env (At end) other_part f) i);
  }

  -- ---- loops

  loop_parts : (env : Environment) (l : Loop) (start : ℕ) → LoopAt c.code c.most c.look env l start
      → Parts c.code c.look env l.test l.first (turn_code c.look env l) (step_code c.look env l) (back_at l) start
  loop_parts env l start x = parts_of c.code c.look env l.test l.first (turn_code c.look env l) (step_code c.look env l) (back_at l) start x.there

  -- the back edge of a loop
  pub turned : (l : Loop) (ps : List Piece) (stack : Stack) (env : Environment) (start : ℕ) → LoopTyped c.look c.result env l
      → LoopAt c.code c.most c.look env l start → Coded c ps stack env (At (end_place c.look env l start))
      → Well (BackEdge l ∷ ps) (back_edge l ps) stack env (At (back_place c.look env l start))
  turned l ps stack env start t x f =
      let back = back_place c.look env l start in
      let y = loop_parts env l start x in
      record {
        coded = (t, (back, there back, (start, x, refl, f)));
        ready =
            (stop_fine c stop.Back (back_at l) (LoopTest l ∷ ps) stack env back start (y.distance, length (in_scope env), y.round, y.back)
            (t, (start, there start, (x, f)))).ready;
      }

  step_ready : (l : Loop) (step : Option Expression) (ps : List Piece) (stack : Stack) (env : Environment) (start : ℕ) → l.step ≡ step
      → LoopTyped c.look c.result env l → TypedIf c.look env step → LoopAt c.code c.most c.look env l start
      → Coded c ps stack env (At (end_place c.look env l start)) → Ends (stepped l step ps) stack env (At (step_place c.look env l start))
  step_ready l None ps stack env start e t s x f =
      let y = loop_parts env l start x in
      let back = back_place c.look env l start in
      let place = step_place c.look env l start in
      let z : Span c.code place (effect_if c.look env None (step_at l)) back =
      subst (λ o. Span c.code place (effect_if c.look env o (step_at l)) back) e y.step_is in
      ready_on c (back_edge l ps) stack env back place (nothing_between c.code place back z) (turned l ps stack env start t x f).ready
  step_ready l (Some a) ps stack env start e t s x f =
      let y = loop_parts env l start x in
      let back = back_place c.look env l start in
      let place = step_place c.look env l start in
      let z : Span c.code place (effect_if c.look env (Some a) (step_at l)) back =
      subst (λ o. Span c.code place (effect_if c.look env o (step_at l)) back) e y.step_is in
      effect_ready c a (step_at l) (BackEdge l ∷ ps) (back_edge l ps) stack env s place back z (turned l ps stack env start t x f)

  -- what comes after a loop's body, and where its jumps lead
  pub after_body : (l : Loop) (ps : List Piece) (k : Ways) (stack : Stack) (env : Environment) (start : ℕ) → LoopTyped c.look c.result env l
      → LoopAt c.code c.most c.look env l start → Coded c ps stack env (At (end_place c.look env l start))
      → Well (AfterBody l ∷ ps) (looped l ps k).on stack env (At (step_place c.look env l start))
  after_body l ps k stack env start t x f =
      let place = step_place c.look env l start in
      record { coded = (t, (place, there place, (start, x, refl, f))); ready = step_ready l l.step ps stack env start refl t t.step x f }

  loop_jumps : (l : Loop) (ps : List Piece) (k : Ways) (stack : Stack) (env : Environment) (start : ℕ) → LoopTyped c.look c.result env l
      → LoopAt c.code c.most c.look env l start → Well ps k.on stack env (At (end_place c.look env l start))
      → Jumps (AfterBody l ∷ ps) (looped l ps k) stack env (end_place c.look env l start) (step_place c.look env l start)
  loop_jumps l ps k stack env start t x f =
      let after = after_body l ps k stack env start t x f.coded in
      record { broken_coded = f.coded; continued_coded = after.coded; broken = f.ready; continued = after.ready }

  -- the body of a loop
  abbrev pub DoesBody : Environment → Loop → List Piece → Ways → Stack → Type 0
  DoesBody env l ps k stack = Does env l.body (body_at l) (AfterBody l ∷ ps) (looped l ps k) stack

  pub body_ready : (l : Loop) (ps : List Piece) (k : Ways) (stack : Stack) (env : Environment) (start : ℕ) → LoopTyped c.look c.result env l
      → LoopAt c.code c.most c.look env l start → Well ps k.on stack env (At (end_place c.look env l start)) → DoesBody env l ps k stack
      → Ends (ev.statement l.body (body_at l) (AfterBody l ∷ ps) (looped l ps k)) stack env (At (body_place c.look env l start))
  body_ready l ps k stack env start t x f go =
      let place = step_place c.look env l start in
      let steps = length (step_code c.look env l) in
      go (suc steps) 0 (body_place c.look env l start) place (loop_parts env l start x).body_is
      (after_part l.body (AfterBody l ∷ ps) (looped l ps k).on stack env (At place) t.part (after_body l ps k stack env start t x f.coded))
      (λ e. jumps_at (AfterBody l ∷ ps) (looped l ps k) stack env (end_place c.look env l start) (place + suc steps) place (place + 0)
      (far place steps) (near place)
      (loop_jumps l ps k stack env start t x f))
    where
      far : (a b : ℕ) → suc (a + b) ≡ a + suc b
      far a b = omega arith

      near : (a : ℕ) → a ≡ a + 0
      near a = omega arith

  pub turn_fine : (l : Loop) (t : BareType) (ps : List Piece) (k : Ways) (stack : Stack) (env : Environment) (w : Where) (so nt start : ℕ)
      → IsScalar t → LoopTyped c.look c.result env l → Tests c.code w so nt → LoopAt c.code c.most c.look env l start
      → so ≡ body_place c.look env l start → nt ≡ end_place c.look env l start → Well ps k.on stack env (At nt) → DoesBody env l ps k stack
      → Well (Turn l ∷ ps) (choose (ev.statement l.body (body_at l) (AfterBody l ∷ ps) (looped l ps k)) k.on) (t ∷ stack) env w
  turn_fine l t ps k stack env w so nt start o typed test x a b f go =
      let body = ev.statement l.body (body_at l) (AfterBody l ∷ ps) (looped l ps k) in
      record {
        coded = (o, typed, (so, nt, test, (start, x, a, b, f.coded)));
        ready =
            choose_ready c t body k.on stack env w so nt o test
            (ready_on c body stack env (body_place c.look env l start) so (sym a)
            (body_ready l ps k stack env start typed x (fine_on c ps k.on stack env nt (end_place c.look env l start) b f) go))
            f.ready;
      }

  pub tested_ready : (l : Loop) (test : Option Expression) (ps : List Piece) (k : Ways) (stack : Stack) (env : Environment) (start : ℕ)
      → l.test ≡ test → LoopTyped c.look c.result env l → ConditionIf c.look env test → LoopAt c.code c.most c.look env l start
      → Well ps k.on stack env (At (end_place c.look env l start)) → DoesBody env l ps k stack
      → Ends (tested l test (ev.statement l.body (body_at l)) ps k) stack env (At start)
  tested_ready l None ps k stack env start e t cond x f go =
      let body = ev.statement l.body (body_at l) (AfterBody l ∷ ps) (looped l ps k) in
      ready_on c body stack env (body_place c.look env l start) start
      (ap (λ o. start + guard_length c.look env o l.first) e ∙ none start) (body_ready l ps k stack env start t x f go)
    where
      none : (a : ℕ) → a + 0 ≡ a
      none a = omega arith
  tested_ready l (Some a) ps k stack env start e t cond x f go =
      let turn = turn_code c.look env l in
      let steps = step_code c.look env l in
      let g =
      guarded_of c.code c.look env a l.first turn steps (back_at l) start
      (subst (λ o. HasAt c.code start (turning c.look env o l.first turn steps (back_at l))) e x.there) in
      let end = end_place c.look env l start in
      let same = ap (λ o. start + guard_length c.look env o l.first) (sym e) in
      condition_ready c a l.first g.distance (Turn l ∷ ps) (choose (ev.statement l.body (body_at l) (AfterBody l ∷ ps) (looped l ps k)) k.on) stack env cond
      start g.middle end g.condition g.jump (g.far ∙ ap (λ i. suc (i + length turn + length steps)) same)
      (λ w u o tests. turn_fine l u ps k stack env w (suc g.middle) end start o t tests x (g.starts ∙ same) refl f go)

  -- ---- `do`

  do_parts : (env : Environment) (s : Statement) (e : Expression) (n start : ℕ) → DoAt c.code c.most c.look env s e n start
      → DoParts c.code c.look env s e n start
  do_parts env s e n start x = do_parts_of c.code c.look env s e n start x.there

  -- its back edge
  repeats : (s : Statement) (e : Expression) (n : ℕ) (ps : List Piece) (stack : Stack) (env : Environment) (start : ℕ)
      → DoTyped c.look c.result env s e → DoAt c.code c.most c.look env s e n start → Coded c ps stack env (At (suc (edge_place c.look env s e n start)))
      → Ends (repeated s e n ps) stack env (At (edge_place c.look env s e n start))
  repeats s e n ps stack env start t x f =
      let edge = edge_place c.look env s e n start in
      let y = do_parts env s e n start x in
      let inside = do_turn c.look env s e n ++ do_test c.look env s e n in
      let at : StatementAt c.code c.most c.look env (DoWhile s e) n 0 0 start (suc edge) =
      record {
        there = x.there;
        ends =
            whole_is (length (do_turn c.look env s e n)) (length (do_test c.look env s e n))
            (length-append (do_turn c.look env s e n) (do_test c.look env s e n))
            (length-append inside (instruction.Back (length inside) (n + size_stmt s + size e) (length (in_scope env)) ∷ []));
        room = x.room;
      } in
      (stop_fine c stop.Back (n + size_stmt s + size e) (Do (DoWhile s e) n ∷ ps) stack env edge start (y.distance, length (in_scope env), y.round, y.back)
      ((t.condition, t.body, t.part), (start, there start, (0, 0, suc edge, at, (λ j. absurd (never j)), f)))).ready
    where
      whole_is : (l k : ℕ) {y z : ℕ} → y ≡ l + k → z ≡ y + 1 → suc (start + l + k) ≡ start + z
      whole_is l k e f = omega (arith, e, f)

  pub repeat_fine : (s : Statement) (e : Expression) (n : ℕ) (t : BareType) (ps : List Piece) (k : Ways) (stack : Stack) (env : Environment) (w : Where)
      (so nt start : ℕ) → IsScalar t → DoTyped c.look c.result env s e → Tests c.code w so nt → DoAt c.code c.most c.look env s e n start
      → so ≡ edge_place c.look env s e n start → nt ≡ suc (edge_place c.look env s e n start) → Well ps k.on stack env (At nt)
      → Well (Repeat s e n ∷ ps) (choose (repeated s e n ps) k.on) (t ∷ stack) env w
  repeat_fine s e n t ps k stack env w so nt start o typed test x a b f = record {
    coded = (o, typed, (so, nt, test, (start, x, a, b, f.coded)));
    ready =
        choose_ready c t (repeated s e n ps) k.on stack env w so nt o test
        (ready_on c (repeated s e n ps) stack env (edge_place c.look env s e n start) so (sym a)
        (repeats s e n ps stack env start typed x (fine_on c ps k.on stack env nt (suc (edge_place c.look env s e n start)) b f).coded))
        f.ready;
  }

  pub until_fine : (s : Statement) (e : Expression) (n : ℕ) (ps : List Piece) (k : Ways) (stack : Stack) (env : Environment) (start : ℕ)
      → DoTyped c.look c.result env s e → DoAt c.code c.most c.look env s e n start
      → Well ps k.on stack env (At (suc (edge_place c.look env s e n start)))
      → Well (Until s e n ∷ ps) (until s e n ps k) stack env (At (test_place c.look env s e n start))
  until_fine s e n ps k stack env start t x f =
      let y = do_parts env s e n start x in
      let place = test_place c.look env s e n start in
      let nt = suc (edge_place c.look env s e n start) in
      record {
        coded = (t, (place, there place, (start, x, refl, f.coded)));
        ready =
            condition_ready c e (n + size_stmt s) 1 (Repeat s e n ∷ ps) (choose (repeated s e n ps) k.on) stack env t.condition place y.middle nt
            y.condition y.jump (one_on (suc y.middle) ∙ ap suc y.edge)
            (λ w u o tests. repeat_fine s e n u ps k stack env w (suc y.middle) nt start o t tests x y.edge refl f);
      }
    where
      one_on : (a : ℕ) → a + 1 ≡ suc a
      one_on a = omega arith
