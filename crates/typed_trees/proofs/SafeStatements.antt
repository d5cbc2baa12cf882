-- Local evaluation of a typed statement is safe where what comes after it is, and where its jumps lead is.
use Rattle.std.proofs.Common.{◌≡◌, ℕ, ◌+◌, Bool, true, false, IsTrue, List, [], ◌∷◌, Option, Some, None, refl, sym, ap, subst, ◌∙◌}
use Rattle.std.specs.Prelude.{◌||◌}
use Rattle.std.specs.Option.{is_some, option_map_or}
use Rattle.c_tree.specs.BareExpr.{Bytes, BareType}
use Rattle.c_tree.specs.BareDef.{BareBinding}
use Rattle.c_semantics.specs.Texts.{Definitions, int}
use Rattle.c_semantics.specs.Resolved.{Expression, Statement, Statements, Local, Block, Empty, Evaluate, Declare, If, IfElse, While, DoWhile, For, Break, Continue, Return, UpdatePoint, Transaction, NoStatements, StatementThen}
use Rattle.c_semantics.specs.Points.{size, size_if, size_stmt, size_stmts}
use Rattle.c_semantics.specs.Stops as stop
use Rattle.c_semantics.specs.Pieces.{Loop, Piece, back_at, step_at, Set, Drop, Then, ThenElse, Turn, Repeat, Do, Sequence, Close, LoopTest, AfterBody, BackEdge, Until, At}
use Rattle.c_semantics.specs.Evaluation.{Next, Ways, back_edge, choose, close_scope, closing, drop, loop_of, loop_test, looped, only, repeated, set, stepped, stop_at, tested, until}
use Rattle.c_semantics.specs.Evaluation as ev
use Rattle.typed_trees.specs.ValueTypes.{Environment}
use Rattle.typed_trees.specs.ExpressionTypes.{IsPlaced, IsTyped, place_type, type_of}
use Rattle.typed_trees.specs.StatementTypes.{ConditionIf, IsPart, StatementTyped, StatementsTyped, TypedIf, declare_all, declares, jumps, some_jump, with_variable}
use Rattle.typed_trees.specs.PieceTypes.{DoTyped, Inside, JumpsWell, LoopTyped, Stack, going}
use Rattle.typed_trees.proofs.ValuesOfTypes.{never, newest}
use Rattle.typed_trees.proofs.SafeSteps.{Fine, Safe, Typed, choose_safe, close_fine, close_safe, declare_safe, drop_fine, open_safe, set_fine, stop_fine, stop_safe}
use Rattle.typed_trees.proofs.SafeTrees.{expression}

-- ---- what is declared

pub part_declares : (s : Statement) (env : Environment) → IsPart s → declares s env ≡ env
part_declares (Block ss) env p = refl
part_declares Empty env p = refl
part_declares (Evaluate e) env p = refl
part_declares (Declare type name initial) env p = absurd p
part_declares (If c s) env p = refl
part_declares (IfElse c s t) env p = refl
part_declares (While c s) env p = refl
part_declares (DoWhile s c) env p = refl
part_declares (For first test step s) env p = refl
part_declares Break env p = refl
part_declares Continue env p = refl
part_declares (Return e) env p = refl
part_declares UpdatePoint env p = refl
part_declares (Transaction ss) env p = refl

-- statements declare in the innermost scope
abbrev pub Within : Environment → List BareBinding → Environment → Type 0
Within env bs outer = (more : List BareBinding) × (env ≡ more ∷ outer)

declares_within : (s : Statement) (bs : List BareBinding) (outer : Environment) → Within (declares s (bs ∷ outer)) bs outer
declares_within (Block ss) bs outer = (bs, refl)
declares_within Empty bs outer = (bs, refl)
declares_within (Evaluate e) bs outer = (bs, refl)
declares_within (Declare type name initial) bs outer = (record { declared = type; name = name } ∷ bs, refl)
declares_within (If c s) bs outer = (bs, refl)
declares_within (IfElse c s t) bs outer = (bs, refl)
declares_within (While c s) bs outer = (bs, refl)
declares_within (DoWhile s c) bs outer = (bs, refl)
declares_within (For first test step s) bs outer = (bs, refl)
declares_within Break bs outer = (bs, refl)
declares_within Continue bs outer = (bs, refl)
declares_within (Return e) bs outer = (bs, refl)
declares_within UpdatePoint bs outer = (bs, refl)
declares_within (Transaction ss) bs outer = (bs, refl)

pub all_within : (ss : Statements) (bs : List BareBinding) (outer : Environment) → Within (declare_all ss (bs ∷ outer)) bs outer
all_within NoStatements bs outer = (bs, refl)
all_within (StatementThen s ss) bs outer =
    let w = declares_within s bs outer in
    subst (λ env. Within (declare_all ss env) bs outer) (sym w.1) (all_within ss w.0 outer)

-- what holds whatever the innermost scope declares
pub inside_now : (env : Environment) (P : Environment → Type 0) → Inside env P → P env
inside_now [] P h = absurd h
inside_now (bs ∷ outer) P h = h bs

pub inside_after : (s : Statement) (env : Environment) (P : Environment → Type 0) → Inside env P → Inside (declares s env) P
inside_after s [] P h = absurd h
inside_after s (bs ∷ outer) P h =
    let w = declares_within s bs outer in subst (λ env. Inside env P) (sym w.1) h

pub left_jumps : (a b : Bool) → IsTrue a → IsTrue (a || b)
left_jumps true b e = refl
left_jumps false b e = absurd (never e)

pub right_jumps : (a b : Bool) → IsTrue b → IsTrue (a || b)
right_jumps true b e = refl
right_jumps false b e = e

module _ (look : Definitions) (result : BareType) (tags : List Bytes) where
  abbrev Well : List Piece → Next → Stack → Environment → Type 0
  Well = Fine look result tags

  abbrev Ends : Next → Stack → Environment → Type 0
  Ends = Safe look result tags

  -- the ways of a `break` and of a `continue` go on well
  pub record Jumps (ps : List Piece) (k : Ways) (stack : Stack) (env : Environment) : Type 0 where
    pub broken_typed : (going look result ps).broken stack env
    pub continued_typed : (going look result ps).continued stack env
    pub broken : Ends k.broken stack env
    pub continued : Ends k.continued stack env

  jumps_well : (jump : Bool) (ps : List Piece) (k : Ways) (stack : Stack) (env : Environment) → (IsTrue jump → Jumps ps k stack env)
      → JumpsWell jump (going look result ps) stack env
  jumps_well jump ps k stack env j e = let h = j e in (h.broken_typed, h.continued_typed)

  inside_well : (ps : List Piece) (k : Ways) (stack : Stack) (env : Environment) → Inside env (Jumps ps k stack)
      → Inside env (λ inner. (going look result ps).broken stack inner × (going look result ps).continued stack inner)
  inside_well ps k stack [] j = absurd j
  inside_well ps k stack (bs ∷ outer) j = λ more. ((j more).broken_typed, (j more).continued_typed)

  closed_jumps : (bs : List BareBinding) (ps : List Piece) (k : Ways) (stack : Stack) (env : Environment) → Jumps ps k stack env
      → Jumps (Close ∷ ps) (closing k) stack (bs ∷ env)
  closed_jumps bs ps k stack env j = record {
    broken_typed = j.broken_typed;
    continued_typed = j.continued_typed;
    broken = close_safe look result tags k.broken stack env bs j.broken;
    continued = close_safe look result tags k.continued stack env bs j.continued;
  }

  -- an expression before pieces
  value : (e : Expression) (n : ℕ) (ps : List Piece) (k : Next) (stack : Stack) (env : Environment) → IsTyped look env e
      → Well ps k (type_of look env e ∷ stack) env → Ends (ev.expression e n ps k) stack env
  value = expression look result tags

  -- ---- loops

  pub turned : (l : Loop) (ps : List Piece) (stack : Stack) (env : Environment) → LoopTyped look result env l → Typed look result tags ps stack env
      → Well (BackEdge l ∷ ps) (back_edge l ps) stack env
  turned l ps stack env t f =
      record { typed = (t, f); safe = stop_safe look result tags stop.Back (back_at l) (LoopTest l ∷ ps) stack env (t, f) }

  step_safe : (l : Loop) (step : Option Expression) (ps : List Piece) (stack : Stack) (env : Environment) → LoopTyped look result env l
      → TypedIf look env step → Typed look result tags ps stack env → Ends (stepped l step ps) stack env
  step_safe l None ps stack env t s f = (turned l ps stack env t f).safe
  step_safe l (Some e) ps stack env t s f =
      value e (step_at l) (Drop ∷ BackEdge l ∷ ps) (drop (back_edge l ps)) stack env s
      (drop_fine look result tags (type_of look env e) (BackEdge l ∷ ps) (back_edge l ps) stack env (turned l ps stack env t f))

  -- what comes after a loop's body, and where its jumps lead
  pub after_body : (l : Loop) (ps : List Piece) (k : Ways) (stack : Stack) (env : Environment) → LoopTyped look result env l → Well ps k.on stack env
      → Well (AfterBody l ∷ ps) (looped l ps k).on stack env
  after_body l ps k stack env t f =
      record { typed = (t, f.typed); safe = step_safe l l.step ps stack env t t.step f.typed }

  pub loop_jumps : (l : Loop) (ps : List Piece) (k : Ways) (stack : Stack) (env : Environment) → LoopTyped look result env l → Well ps k.on stack env
      → Jumps (AfterBody l ∷ ps) (looped l ps k) stack env
  loop_jumps l ps k stack env t f = record {
    broken_typed = f.typed;
    continued_typed = (t, f.typed);
    broken = f.safe;
    continued = step_safe l l.step ps stack env t t.step f.typed;
  }

  pub tested_safe : (l : Loop) (test : Option Expression) (body : List Piece → Ways → Next) (ps : List Piece) (k : Ways) (stack : Stack)
      (env : Environment) → LoopTyped look result env l → ConditionIf look env test → Well ps k.on stack env
      → Ends (body (AfterBody l ∷ ps) (looped l ps k)) stack env → Ends (tested l test body ps k) stack env
  tested_safe l None body ps k stack env t c f b = b
  tested_safe l (Some e) body ps k stack env t c f b =
      value e l.first (Turn l ∷ ps) (choose (body (AfterBody l ∷ ps) (looped l ps k)) k.on) stack env c.0
      (record {
        typed = (c.1, t, f.typed);
        safe = choose_safe look result tags (type_of look env e) (body (AfterBody l ∷ ps) (looped l ps k)) k.on stack env b f.safe;
      })

  -- after the body of `do`
  pub until_safe : (s : Statement) (c : Expression) (n : ℕ) (ps : List Piece) (k : Ways) (stack : Stack) (env : Environment)
      → DoTyped look result env s c → Well ps k.on stack env → Ends (until s c n ps k) stack env
  until_safe s c n ps k stack env t f =
      value c (n + size_stmt s) (Repeat s c n ∷ ps) (choose (repeated s c n ps) k.on) stack env t.condition.0
      (record {
        typed = (t.condition.1, t, f.typed);
        safe =
            choose_safe look result tags (type_of look env c) (repeated s c n ps) k.on stack env
            (stop_safe look result tags stop.Back (n + size_stmt s + size c) (Do (DoWhile s c) n ∷ ps) stack env
            ((t.condition, t.body, t.part), (λ e. absurd (never e)), f.typed)) f.safe;
      })

  mutual
    pub statement : (s : Statement) (n : ℕ) (ps : List Piece) (k : Ways) (stack : Stack) (env : Environment) → StatementTyped look result env s
        → Well ps k.on stack (declares s env) → (IsTrue (jumps s) → Jumps ps k stack env) → Ends (ev.statement s n ps k) stack env
    statement (Block ss) n ps k stack env t f j =
        let w = all_within ss [] env in
        let closed : Well (Close ∷ ps) (close_scope k.on) stack (declare_all ss ([] ∷ env)) =
        subst (λ e. Well (Close ∷ ps) (close_scope k.on) stack e) (sym w.1) (close_fine look result tags w.0 ps k.on stack env f) in
        open_safe look result tags (ev.sequence ss n (Close ∷ ps) (closing k)) stack env
        (sequence ss n (Close ∷ ps) (closing k) stack ([] ∷ env) t closed (λ e more. closed_jumps more ps k stack env (j e)))
    statement Empty n ps k stack env t f j = f.safe
    statement (Evaluate e) n ps k stack env t f j =
        value e n (Drop ∷ ps) (drop k.on) stack env t (drop_fine look result tags (type_of look env e) ps k.on stack env f)
    statement (Declare type name None) n ps k stack env t f j = declare_safe look result tags type name k.on stack env f.safe
    statement (Declare type name (Some e)) n ps k stack env t f j =
        let w = n + size e in
        let inner = with_variable type name env in
        let is : place_type look inner (Local name) ≡ type = ap (λ o. option_map_or (λ b. b.declared) o int) (newest env type name) in
        let placed : IsPlaced look inner (Local name) = ap is_some (newest env type name) in
        let last = drop_fine look result tags (place_type look inner (Local name)) ps k.on stack inner f in
        let written = set_fine look result tags (Local name) w (type_of look inner e) (Drop ∷ ps) (drop k.on) stack inner placed (t.1 ∙ sym is) last in
        declare_safe look result tags type name (ev.expression e n (Set (Local name) w ∷ Drop ∷ ps) (set (Local name) w (Drop ∷ ps) (drop k.on))) stack env
        (value e n (Set (Local name) w ∷ Drop ∷ ps) (set (Local name) w (Drop ∷ ps) (drop k.on)) stack inner t.0 written)
    statement (If c s) n ps k stack env t f j =
        let m = n + size c in
        let same : Well ps k.on stack (declares s env) = subst (λ e. Well ps k.on stack e) (sym (part_declares s env t.2)) f in
        value c n (Then s m ∷ ps) (choose (ev.statement s m ps k) k.on) stack env t.0.0
        (record {
          typed = (t.0.1, t.1, t.2, jumps_well (jumps s) ps k stack env j, f.typed);
          safe =
              choose_safe look result tags (type_of look env c) (ev.statement s m ps k) k.on stack env
              (statement s m ps k stack env t.1 same j) f.safe;
        })
    statement (IfElse c s r) n ps k stack env t f j =
        let m = n + size c in
        let one : Well ps k.on stack (declares s env) = subst (λ e. Well ps k.on stack e) (sym (part_declares s env t.3)) f in
        let other : Well ps k.on stack (declares r env) = subst (λ e. Well ps k.on stack e) (sym (part_declares r env t.4)) f in
        let of_one : IsTrue (jumps s) → Jumps ps k stack env = λ e. j (left_jumps (jumps s) (jumps r) e) in
        let of_other : IsTrue (jumps r) → Jumps ps k stack env = λ e. j (right_jumps (jumps s) (jumps r) e) in
        value c n (ThenElse s r m ∷ ps) (choose (ev.statement s m ps k) (ev.statement r (m + size_stmt s) ps k)) stack env t.0.0
        (record {
          typed = (
            t.0.1,
            t.1,
            t.2,
            t.3,
            t.4,
            jumps_well (jumps s) ps k stack env of_one,
            jumps_well (jumps r) ps k stack env of_other,
            f.typed,
          );
          safe =
              choose_safe look result tags (type_of look env c) (ev.statement s m ps k) (ev.statement r (m + size_stmt s) ps k) stack env
              (statement s m ps k stack env t.1 one of_one) (statement r (m + size_stmt s) ps k stack env t.2 other of_other);
        })
    statement (While c s) n ps k stack env t f j =
        let l = loop_of (Some c) None s n in
        let typed : LoopTyped look result env l = record { test = t.0; step = tt; body = t.1; part = t.2 } in
        let after : Well (AfterBody l ∷ ps) (looped l ps k).on stack (declares s env) =
        subst (λ e. Well (AfterBody l ∷ ps) (looped l ps k).on stack e) (sym (part_declares s env t.2)) (after_body l ps k stack env typed f) in
        tested_safe l (Some c) (ev.statement s (n + size c)) ps k stack env typed t.0 f
        (statement s (n + size c) (AfterBody l ∷ ps) (looped l ps k) stack env t.1 after (λ e. loop_jumps l ps k stack env typed f))
    statement (DoWhile s c) n ps k stack env t f j =
        let typed : DoTyped look result env s c = record { condition = t.0; body = t.1; part = t.2 } in
        let go = until s c n ps k in
        let safe = until_safe s c n ps k stack env typed f in
        let after : Well (Until s c n ∷ ps) go stack (declares s env) =
        subst (λ e. Well (Until s c n ∷ ps) go stack e) (sym (part_declares s env t.2)) (record { typed = (typed, f.typed); safe = safe }) in
        statement s n (Until s c n ∷ ps) (record { on = go; broken = k.on; continued = go }) stack env t.1 after
        (λ e. record { broken_typed = f.typed; continued_typed = (typed, f.typed); broken = f.safe; continued = safe })
    statement (For first test step s) n ps k stack env t f j =
        let m = n + size_stmts first in
        let l = loop_of test step s m in
        let inner = declare_all first ([] ∷ env) in
        let w = all_within first [] env in
        let rest = Close ∷ ps in
        let typed : LoopTyped look result inner l = record { test = t.1; step = t.2; body = t.3; part = t.4 } in
        let closed : Well rest (closing k).on stack inner =
        subst (λ e. Well rest (closing k).on stack e) (sym w.1) (close_fine look result tags w.0 ps k.on stack env f) in
        let after : Well (AfterBody l ∷ rest) (looped l rest (closing k)).on stack (declares s inner) =
        subst (λ e. Well (AfterBody l ∷ rest) (looped l rest (closing k)).on stack e) (sym (part_declares s inner t.4))
        (after_body l rest (closing k) stack inner typed closed) in
        let go = loop_test l (ev.statement s (m + size_if test)) rest (closing k) in
        let turning : Well (LoopTest l ∷ rest) go stack inner =
        record {
          typed = (typed, closed.typed);
          safe =
              tested_safe l test (ev.statement s (m + size_if test)) rest (closing k) stack inner typed t.1 closed
              (statement s (m + size_if test) (AfterBody l ∷ rest) (looped l rest (closing k)) stack inner t.3 after
              (λ e. loop_jumps l rest (closing k) stack inner typed closed));
        } in
        open_safe look result tags (ev.sequence first n (LoopTest l ∷ rest) (only go (closing k))) stack env
        (sequence first n (LoopTest l ∷ rest) (only go (closing k)) stack ([] ∷ env) t.0 turning
        (λ e more. let h = closed_jumps more ps k stack env (j e) in
        record { broken_typed = h.broken_typed; continued_typed = h.continued_typed; broken = h.broken; continued = h.continued }))
    statement Break n ps k stack env t f j = (j refl).broken
    statement Continue n ps k stack env t f j = (j refl).continued
    statement (Return e) n ps k stack env t f j =
        let m = n + size e in
        value e n (At stop.Return m ∷ ps) (stop_at stop.Return m ps) stack env t.0
        (stop_fine look result tags stop.Return m ps (type_of look env e ∷ stack) env t.1)
    statement UpdatePoint n ps k stack env t f j = stop_safe look result tags stop.Update n ps stack env f.typed
    statement (Transaction ss) n ps k stack env t f j =
        stop_safe look result tags stop.Begin n (Do (Block ss) (n + 2) ∷ At stop.End (n + 2 + size_stmts ss) ∷ ps) stack env
        (t, (λ e. let h = j e in (h.broken_typed, h.continued_typed)), f.typed)

    pub sequence : (ss : Statements) (n : ℕ) (ps : List Piece) (k : Ways) (stack : Stack) (env : Environment) → StatementsTyped look result env ss
        → Well ps k.on stack (declare_all ss env) → (IsTrue (some_jump ss) → Inside env (Jumps ps k stack)) → Ends (ev.sequence ss n ps k) stack env
    sequence NoStatements n ps k stack env t f j = f.safe
    sequence (StatementThen s ss) n ps k stack env t f j =
        let m = n + size_stmt s in
        let later : IsTrue (some_jump ss) → Inside (declares s env) (Jumps ps k stack) =
        λ e. inside_after s env (Jumps ps k stack) (j (right_jumps (jumps s) (some_jump ss) e)) in
        let go = ev.sequence ss m ps k in
        statement s n (Sequence ss m ∷ ps) (only go k) stack env t.0
        (record { typed = (t.1, (λ e. inside_well ps k stack (declares s env) (later e)), f.typed); safe = sequence ss m ps k stack (declares s env) t.1 f later })
        (λ e. let h = inside_now env (Jumps ps k stack) (j (left_jumps (jumps s) (some_jump ss) e)) in
        record { broken_typed = h.broken_typed; continued_typed = h.continued_typed; broken = h.broken; continued = h.continued })
