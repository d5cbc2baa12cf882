-- All statements: their code does what their trees do.
use Rattle.std.proofs.Common.{◌≡◌, ℕ, suc, ◌+◌, IsTrue, List, [], ◌∷◌, ◌++◌, length, Option, Some, None, refl, sym, ap, subst, ◌∙◌, arith}
use Rattle.std.specs.Option.{is_some, option_map_or}
use Rattle.run_types.specs.CheckIns as check_in
use Rattle.c_tree.specs.BareExpr.{Bytes, BareType}
use Rattle.c_semantics.specs.Texts.{int}
use Rattle.c_semantics.specs.Resolved.{Expression, Statement, Statements, Local, Block, Empty, Evaluate, Declare, If, IfElse, While, DoWhile, For, Break, Continue, Return, UpdatePoint, Transaction, NoStatements, StatementThen}
use Rattle.c_semantics.specs.Points.{size, size_if, size_stmt, size_stmts}
use Rattle.c_semantics.specs.Stops as stop
use Rattle.c_semantics.specs.Pieces.{Piece, Set, Drop, Then, ThenElse, Do, Sequence, Close, LoopTest, Until, At as StopAt}
use Rattle.c_semantics.specs.Evaluation.{Next, Ways, choose, close_scope, closing, drop, loop_of, loop_test, looped, only, set, stop_at, until}
use Rattle.c_semantics.specs.Evaluation as ev
use Rattle.typed_trees.specs.ValueTypes.{Environment}
use Rattle.typed_trees.specs.ExpressionTypes.{IsPlaced, place_type, type_of}
use Rattle.typed_trees.specs.StatementTypes.{StatementTyped, StatementsTyped, declare_all, declares, jumps, some_jump, with_variable}
use Rattle.typed_trees.specs.PieceTypes.{DoTyped, Inside, LoopTyped, Stack}
use Rattle.typed_trees.proofs.ValuesOfTypes.{newest}
use Rattle.typed_trees.proofs.SafeStatements.{all_within, inside_after, inside_now, left_jumps, right_jumps}
use Rattle.bytecode.specs.Instructions.{CheckIn, Jump, Store}
use Rattle.bytecode.specs.Instructions as instruction
use Rattle.tree_code.specs.Code.{Code, HasRoom, HaveRoom, effect_if, guarded, slot, turning, value, zero_code}
use Rattle.tree_code.specs.Code as made
use Rattle.tree_code.specs.CodedPieces.{At, DoAt, LoopAt, edge_place, end_place, jumps_on, test_place, there}
use Rattle.tree_code.specs.CodedPieces as coded
use Rattle.tree_code.proofs.CodePlaces.{Span, halves, next, nothing_between}
use Rattle.tree_code.proofs.CodeLoops.{do_ends, do_parts_of, guard_of, loop_ends}
use Rattle.tree_code.proofs.CodeSteps.{Fine, Ready, Setting, declare_ready, fine_on, open_ready, reached, ready_on, stop_fine, to_next}
use Rattle.tree_code.proofs.CodeFine.{close_fine, set_drop_fine}
use Rattle.tree_code.proofs.CodeTrees.{expression}
use Rattle.tree_code.proofs.CodeEffects.{condition_ready, effect_ready}
use Rattle.tree_code.proofs.CodeStatements.{Does, Jumps, after_part, closed_jumps, inside_well, jumps_at, statement_at, tested_ready, then_else_fine, then_fine, until_fine}

module _ (c : Setting) where
  abbrev Well : List Piece → Next → Stack → Environment → coded.Where → Type 0
  Well = Fine c

  abbrev Ends : Next → Stack → Environment → coded.Where → Type 0
  Ends = Ready c

  two_on : (p : ℕ) → p + 2 ≡ suc (suc p)
  two_on p = omega arith

  zero_on : (p : ℕ) → p ≡ p + 0
  zero_on p = omega arith

  along : (m l end b : ℕ) → end ≡ m + l → end + b ≡ m + (l + b)
  along m l end b e = omega (arith, e)

  past : (m end b : ℕ) → end ≡ m + 2 → end + b ≡ m + (2 + b)
  past m end b e = omega (arith, e)

  -- where a jump leads
  leads : (p end d target : ℕ) → Span c.code p (Jump d ∷ []) end → target ≡ end + d → coded.Reaches c.code p target
  leads p end d target x e =
      jumps_on p d target x.has.0 (subst (λ z. coded.Reaches c.code z target) (e ∙ ap (λ z. z + d) (to_next c.code p (Jump d) end x)) (there target))

  -- a declaration; then its first value is stored
  declared_ready : (type : BareType) (name : Bytes) (e : Option Expression) (n : ℕ) (ps : List Piece) (k : Ways) (stack : Stack) (env : Environment)
      → StatementTyped c.look c.result env (Declare type name e) → HasRoom c.most env (Declare type name e) → (p end : ℕ)
      → Span c.code p (made.initial c.look (with_variable type name env) type name e n) end
      → Well ps k.on stack (with_variable type name env) (At end) → Ends (ev.statement (Declare type name e) n ps k) stack env (At p)
  declared_ready type name None n ps k stack env t room p end s f =
      declare_ready c type name k.on stack env p s.has.0 s.has.1.0 room
      (ready_on c k.on stack (with_variable type name env) end (suc (suc p)) (s.ends ∙ two_on p) f.ready)
  declared_ready type name (Some e) n ps k stack env t room p end s f =
      let inner = with_variable type name env in
      let w = n + size e in
      let stores = Store (slot inner name) in
      let code = value c.look inner e n in
      let is : place_type c.look inner (Local name) ≡ type = ap (λ o. option_map_or (λ b. b.declared) o int) (newest env type name) in
      let placed : IsPlaced c.look inner (Local name) = ap is_some (newest env type name) in
      let a = next c.code p (zero_code type) (stores ∷ (code ++ stores ∷ [])) end s in
      let b = next c.code (suc p) stores (code ++ stores ∷ []) end a.later in
      let h = halves c.code (suc (suc p)) code (stores ∷ []) end b.later in
      let written = set_drop_fine c (Local name) w (type_of c.look inner e) ps k.on stack inner h.middle end placed (t.1 ∙ sym is) h.second f in
      declare_ready c type name (ev.expression e n (Set (Local name) w ∷ Drop ∷ ps) (set (Local name) w (Drop ∷ ps) (drop k.on))) stack env p
      a.stands b.stands room
      (expression c e n (Set (Local name) w ∷ Drop ∷ ps) (set (Local name) w (Drop ∷ ps) (drop k.on)) stack inner t.0 (suc (suc p)) h.middle h.first written)

  -- an `if`, from what its part does
  if_ready : (e : Expression) (s : Statement) (n : ℕ) (ps : List Piece) (k : Ways) (stack : Stack) (env : Environment)
      → StatementTyped c.look c.result env (If e s) → HasRoom c.most env s → Does c env s (n + size e) ps k stack → Does c env (If e s) n ps k stack
  if_ready e s n ps k stack env t room go broken continued p end x f j =
      let m = n + size e in
      let inside = made.statement c.look env s m broken continued in
      let g = guard_of c.code c.look env e n inside 0 p end x in
      condition_ready c e n (length inside + 0) (Then s m ∷ ps) (choose (ev.statement s m ps k) k.on) stack env t.0 p g.middle end g.condition g.jump
      (g.far ∙ sym (zero_on end))
      (λ w u o tests. then_fine c s m u ps k stack env w (suc g.middle) end broken continued o t.1 t.2 room tests g.inner j f go)

  -- an `if` with an `else`
  if_else_ready : (e : Expression) (s r : Statement) (n : ℕ) (ps : List Piece) (k : Ways) (stack : Stack) (env : Environment)
      → StatementTyped c.look c.result env (IfElse e s r) → HasRoom c.most env (IfElse e s r) → Does c env s (n + size e) ps k stack
      → Does c env r (n + size e + size_stmt s) ps k stack → Does c env (IfElse e s r) n ps k stack
  if_else_ready e s r n ps k stack env t room first second broken continued p end x f j =
      let m = n + size e in
      let other = made.statement c.look env r (m + size_stmt s) broken continued in
      let passed = suc (length other) in
      let one = made.statement c.look env s m (passed + broken) (passed + continued) in
      let inside = one ++ Jump (length other) ∷ [] in
      let h = halves c.code p (guarded c.look env e n inside 0) other end x in
      let g = guard_of c.code c.look env e n inside 0 p h.middle h.first in
      let i = halves c.code (suc g.middle) one (Jump (length other) ∷ []) h.middle g.inner in
      let after : h.middle ≡ suc i.middle = to_next c.code i.middle (Jump (length other)) h.middle i.second in
      let far : suc i.middle + length other ≡ end = ap (λ z. z + length other) (sym after) ∙ sym h.second.ends in
      condition_ready c e n (length inside + 0) (ThenElse s r m ∷ ps) (choose (ev.statement s m ps k) (ev.statement r (m + size_stmt s) ps k)) stack env t.0
      p g.middle h.middle g.condition g.jump (g.far ∙ sym (zero_on h.middle))
      (λ w u o tests. then_else_fine c s r m u ps k stack env w (suc g.middle) h.middle (passed + broken) (passed + continued) broken continued i.middle end o
      t.1 t.2 t.3 t.4 tests
      (record {
        one = i.first;
        over = leads i.middle h.middle (length other) end i.second h.second.ends;
        other = h.second;
        room = room.0;
        other_room = room.1;
      })
      (λ y. jumps_at c ps k stack env (end + broken) (i.middle + (passed + broken)) (end + continued) (i.middle + (passed + continued))
      (along i.middle (length other) broken far) (along i.middle (length other) continued far) (j (left_jumps (jumps s) (jumps r) y)))
      (λ y. j (right_jumps (jumps s) (jumps r) y)) f first second)
    where
      along : (a l b : ℕ) → suc a + l ≡ end → end + b ≡ a + (suc l + b)
      along a l b e = omega (arith, e)

  while_ready : (e : Expression) (s : Statement) (n : ℕ) (ps : List Piece) (k : Ways) (stack : Stack) (env : Environment)
      → StatementTyped c.look c.result env (While e s) → HasRoom c.most env s
      → ((qs : List Piece) (i : Ways) → Does c env s (n + size e) qs i stack) → Does c env (While e s) n ps k stack
  while_ready e s n ps k stack env t room go broken continued p end x f j =
      let l = loop_of (Some e) None s n in
      let typed : LoopTyped c.look c.result env l = record { test = t.0; step = tt; body = t.1; part = t.2 } in
      let at : LoopAt c.code c.most c.look env l p = record { there = x.has; room = room } in
      tested_ready c l (Some e) ps k stack env p refl typed t.0 at
      (fine_on c ps k.on stack env end (end_place c.look env l p) (loop_ends c.code c.look env l p end x) f)
      (go _ _)

  do_ready : (s : Statement) (e : Expression) (n : ℕ) (ps : List Piece) (k : Ways) (stack : Stack) (env : Environment)
      → StatementTyped c.look c.result env (DoWhile s e) → HasRoom c.most env s → ((i : Ways) → Does c env s n (Until s e n ∷ ps) i stack)
      → Does c env (DoWhile s e) n ps k stack
  do_ready s e n ps k stack env t room go broken continued p end x f j =
      let typed : DoTyped c.look c.result env s e = record { condition = t.0; body = t.1; part = t.2 } in
      let at : DoAt c.code c.most c.look env s e n p = record { there = x.has; room = room } in
      let last = suc (edge_place c.look env s e n p) in
      let place = test_place c.look env s e n p in
      let tests = length (coded.do_test c.look env s e n) in
      let g = fine_on c ps k.on stack env end last (do_ends c.code c.look env s e n p end x) f in
      let after = until_fine c s e n ps k stack env p typed at g in
      let ways : Ways = record { on = until s e n ps k; broken = k.on; continued = until s e n ps k } in
      go ways (suc tests) 0 p place (record { has = (do_parts_of c.code c.look env s e n p x.has).body_is.has; ends = refl })
      (after_part c s (Until s e n ∷ ps) (until s e n ps k) stack env (At place) t.2 after)
      (λ y. jumps_at c (Until s e n ∷ ps) ways stack env last (place + suc tests) place (place + 0) (far place tests) (zero_on place)
      (record { broken_coded = g.coded; continued_coded = after.coded; broken = g.ready; continued = after.ready }))
    where
      far : (a b : ℕ) → suc (a + b) ≡ a + suc b
      far a b = omega arith

  mutual
    pub statement : (s : Statement) (n : ℕ) (ps : List Piece) (k : Ways) (stack : Stack) (env : Environment) → StatementTyped c.look c.result env s
        → HasRoom c.most env s → Does c env s n ps k stack
    statement (Block ss) n ps k stack env t room broken continued p end x f j =
        let w = all_within ss [] env in
        let closed : Well (Close ∷ ps) (close_scope k.on) stack (declare_all ss ([] ∷ env)) (At end) =
        subst (λ e. Well (Close ∷ ps) (close_scope k.on) stack e (At end)) (sym w.1) (close_fine c w.0 ps k.on stack env (At end) f) in
        open_ready c (ev.sequence ss n (Close ∷ ps) (closing k)) stack env (At p)
        (sequence ss n (Close ∷ ps) (closing k) stack ([] ∷ env) t room broken continued p end x closed
        (λ y more. closed_jumps c more ps k stack env (end + broken) (end + continued) (j y)))
    statement Empty n ps k stack env t room broken continued p end x f j = ready_on c k.on stack env end p (nothing_between c.code p end x) f.ready
    statement (Evaluate e) n ps k stack env t room broken continued p end x f j = effect_ready c e n ps k.on stack env t p end x f
    statement (Declare type name e) n ps k stack env t room broken continued p end x f j =
        declared_ready type name e n ps k stack env t room p end x f
    statement (If e s) n ps k stack env t room broken continued p end x f j =
        if_ready e s n ps k stack env t room (statement s (n + size e) ps k stack env t.1 room) broken continued p end x f j
    statement (IfElse e s r) n ps k stack env t room broken continued p end x f j =
        if_else_ready e s r n ps k stack env t room (statement s (n + size e) ps k stack env t.1 room.0)
        (statement r (n + size e + size_stmt s) ps k stack env t.2 room.1) broken continued p end x f j
    statement (While e s) n ps k stack env t room broken continued p end x f j =
        while_ready e s n ps k stack env t room (λ qs i. statement s (n + size e) qs i stack env t.1 room) broken continued p end x f j
    statement (DoWhile s e) n ps k stack env t room broken continued p end x f j =
        do_ready s e n ps k stack env t room (λ i. statement s n (Until s e n ∷ ps) i stack env t.1 room) broken continued p end x f j
    statement (For first test step s) n ps k stack env t room broken continued p end x f j =
        let m = n + size_stmts first in
        let l = loop_of test step s m in
        let inner = declare_all first ([] ∷ env) in
        let w = all_within first [] env in
        let rest = Close ∷ ps in
        let turns = coded.loop_code c.look inner l in
        let typed : LoopTyped c.look c.result inner l = record { test = t.1; step = t.2; body = t.3; part = t.4 } in
        let h = halves c.code p (made.statements c.look ([] ∷ env) first n (length turns + broken) (length turns + continued)) turns end x in
        let at : LoopAt c.code c.most c.look inner l h.middle = record { there = h.second.has; room = room.1 } in
        let last = end_place c.look inner l h.middle in
        let closed : Well rest (closing k).on stack inner (At end) =
        subst (λ e. Well rest (closing k).on stack e (At end)) (sym w.1) (close_fine c w.0 ps k.on stack env (At end) f) in
        let there_closed = fine_on c rest (closing k).on stack inner end last (loop_ends c.code c.look inner l h.middle end h.second) closed in
        let go = loop_test l (ev.statement s (m + size_if test)) rest (closing k) in
        let turning : Well (LoopTest l ∷ rest) go stack inner (At h.middle) = record {
          coded = (typed, (h.middle, there h.middle, (at, there_closed.coded)));
          ready =
              tested_ready c l test rest (closing k) stack inner h.middle refl typed t.1 at there_closed
              (statement s (m + size_if test) _ _ stack inner t.3 room.1);
        } in
        open_ready c (ev.sequence first n (LoopTest l ∷ rest) (only go (closing k))) stack env (At p)
        (sequence first n (LoopTest l ∷ rest) (only go (closing k)) stack ([] ∷ env) t.0 room.0 (length turns + broken)
        (length turns + continued) p h.middle h.first
        turning
        (λ y more. let i = closed_jumps c more ps k stack env (h.middle + (length turns + broken)) (h.middle + (length turns + continued))
        (jumps_at c ps k stack env (end + broken) (h.middle + (length turns + broken)) (end + continued) (h.middle + (length turns + continued))
        (along h.middle (length turns) end broken h.second.ends) (along h.middle (length turns) end continued h.second.ends) (j y)) in
        record { broken_coded = i.broken_coded; continued_coded = i.continued_coded; broken = i.broken; continued = i.continued }))
    statement Break n ps k stack env t room broken continued p end x f j =
        reached c k.broken stack env p (end + broken) (leads p end broken (end + broken) x refl) (j refl).broken
    statement Continue n ps k stack env t room broken continued p end x f j =
        reached c k.continued stack env p (end + continued) (leads p end continued (end + continued) x refl) (j refl).continued
    statement (Return e) n ps k stack env t room broken continued p end x f j =
        let m = n + size e in
        let h = halves c.code p (value c.look env e n) (instruction.Halt stop.Return m ∷ []) end x in
        expression c e n (StopAt stop.Return m ∷ ps) (stop_at stop.Return m ps) stack env t.0 p h.middle h.first
        (stop_fine c stop.Return m ps (type_of c.look env e ∷ stack) env h.middle end
        (h.second.has.0, to_next c.code h.middle (instruction.Halt stop.Return m) end h.second) t.1)
    statement UpdatePoint n ps k stack env t room broken continued p end x f j =
        (stop_fine c stop.Update n ps stack env p end (x.has.0, (x.has.1.0, x.ends ∙ two_on p)) f.coded).ready
    statement (Transaction ss) n ps k stack env t room broken continued p end x f j =
        let e = n + 2 + size_stmts ss in
        let inside = made.statements c.look ([] ∷ env) ss (n + 2) (2 + broken) (2 + continued) in
        let finish = instruction.Halt stop.End e ∷ CheckIn check_in.End (suc e) ∷ [] in
        let a = next c.code p (instruction.Halt stop.Begin n) (CheckIn check_in.Begin (suc n) ∷ (inside ++ finish)) end x in
        let b = next c.code (suc p) (CheckIn check_in.Begin (suc n)) (inside ++ finish) end a.later in
        let h = halves c.code (suc (suc p)) inside finish end b.later in
        let ended =
        stop_fine c stop.End e ps stack env h.middle end (h.second.has.0, (h.second.has.1.0, h.second.ends ∙ two_on h.middle)) f.coded in
        (stop_fine c stop.Begin n (Do (Block ss) (n + 2) ∷ StopAt stop.End e ∷ ps) stack env p (suc (suc p)) (a.stands, (b.stands, refl)) (
          t,
          (
            suc (suc p),
            there (suc (suc p)),
            (
              2 + broken,
              2 + continued,
              h.middle,
              statement_at c env (Block ss) (n + 2) (2 + broken) (2 + continued) (suc (suc p)) h.middle room h.first,
              (λ y. let i = jumps_at c ps k stack env (end + broken) (h.middle + (2 + broken)) (end + continued) (h.middle + (2 + continued))
                  (past h.middle end broken h.second.ends) (past h.middle end continued h.second.ends) (j y) in (i.broken_coded, i.continued_coded)),
              ended.coded,
            ),
          ),
        )).ready

    pub sequence : (ss : Statements) (n : ℕ) (ps : List Piece) (k : Ways) (stack : Stack) (env : Environment) → StatementsTyped c.look c.result env ss
        → HaveRoom c.most env ss → (broken continued p end : ℕ) → Span c.code p (made.statements c.look env ss n broken continued) end
        → Well ps k.on stack (declare_all ss env) (At end)
        → (IsTrue (some_jump ss) → Inside env (λ inner. Jumps c ps k stack inner (end + broken) (end + continued)))
        → Ends (ev.sequence ss n ps k) stack env (At p)
    sequence NoStatements n ps k stack env t room broken continued p end x f j = ready_on c k.on stack env end p (nothing_between c.code p end x) f.ready
    sequence (StatementThen s ss) n ps k stack env t room broken continued p end x f j =
        let m = n + size_stmt s in
        let inner = declares s env in
        let rest = made.statements c.look inner ss m broken continued in
        let h = halves c.code p (made.statement c.look env s n (length rest + broken) (length rest + continued)) rest end x in
        let later : IsTrue (some_jump ss) → Inside inner (λ i. Jumps c ps k stack i (end + broken) (end + continued)) =
        λ e. inside_after s env (λ i. Jumps c ps k stack i (end + broken) (end + continued)) (j (right_jumps (jumps s) (some_jump ss) e)) in
        let go = ev.sequence ss m ps k in
        statement s n (Sequence ss m ∷ ps) (only go k) stack env t.0 room.0 (length rest + broken) (length rest + continued) p h.middle h.first
        (record {
          coded = (
            t.1,
            (
              h.middle,
              there h.middle,
              (
                broken,
                continued,
                end,
                record { there = h.second.has; ends = h.second.ends; room = room.1 },
                (λ e. inside_well c ps k stack inner (end + broken) (end + continued) (later e)),
                f.coded,
              ),
            ),
          );
          ready = sequence ss m ps k stack inner t.1 room.1 broken continued h.middle end h.second f later;
        })
        (λ e. let i =
        jumps_at c ps k stack env (end + broken) (h.middle + (length rest + broken)) (end + continued) (h.middle + (length rest + continued))
        (along h.middle (length rest) end broken h.second.ends) (along h.middle (length rest) end continued h.second.ends)
        (inside_now env (λ inner. Jumps c ps k stack inner (end + broken) (end + continued)) (j (left_jumps (jumps s) (some_jump ss) e))) in
        record { broken_coded = i.broken_coded; continued_coded = i.continued_coded; broken = i.broken; continued = i.continued })
