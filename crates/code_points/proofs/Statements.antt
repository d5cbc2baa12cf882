-- The points of a statement's code, and of a function's.
use Rattle.std.proofs.Common.{◌≡◌, ℕ, suc, ◌+◌, List, [], ◌∷◌, ◌++◌, length, Option, Some, None, refl, sym, ap, subst, append_assoc, arith}
use Rattle.run_types.specs.Skeleton.{Point}
use Rattle.run_types.specs.Skeleton as kind
use Rattle.run_types.specs.CheckIns as check_in
use Rattle.c_tree.specs.BareExpr.{Bytes, BareType}
use Rattle.c_tree.specs.BareDef.{BareBinding}
use Rattle.c_semantics.specs.Texts.{Definitions}
use Rattle.c_semantics.specs.Resolved.{Expression, Statement, Statements, Block, Empty, Evaluate, Declare, If, IfElse, While, DoWhile, For, Break, Continue, Return, UpdatePoint, Transaction, NoStatements, StatementThen}
use Rattle.c_semantics.specs.Points.{at_depth, evaluated, evaluated_if, of_statement, of_statements, of_body, size, size_if, size_stmt, size_stmts}
use Rattle.c_semantics.specs.Stops as stop
use Rattle.typed_trees.specs.ValueTypes.{Environment, in_scope}
use Rattle.typed_trees.specs.StatementTypes.{with_variable, declares, declare_all}
use Rattle.bytecode.specs.Instructions.{Store, Jump, Halt, Back, CheckIn}
use Rattle.tree_code.specs.Code.{Code, condition_code, effect_if, guarded, guarded_if, initial, looping, negated, statement, statements, slot, turning, unless_jump, zero_code, body_code}
use Rattle.code_points.specs.CodePoints.{Numbered, points_from}
use Rattle.code_points.proofs.Parts.{Covers, at_depths, closed, joined, nothing, passed, point_then, private, quiet_then, same, then_pass, then_quiet, in_transaction}
use Rattle.code_points.proofs.Expressions.{condition_points, effect_points, unless_is_none, value_points}

-- the points of a part of a tree at each depth
abbrev Points : Type 0
Points = ℕ → List Point

-- up to the same end in other words
ending : {n m k : ℕ} {a : Code} {ps : Points} → m ≡ k → Covers n a ps m → Covers n a ps k
ending {n} {m} {k} {a} {ps} e f = subst (λ x. Covers n a ps x) e f

none_more : (n : ℕ) → n + 0 ≡ n
none_more n = omega arith

one_on : (n : ℕ) → suc n ≡ n + 1
one_on n = omega arith

-- some code, and a back edge to its beginning
looping_points : {n b : ℕ} {a : Code} {ps : Points} (env : Environment) → Covers n a ps b → Covers n (looping env a b) (λ d. ps d ++ at_depth d kind.Back ∷ []) (suc b)
looping_points {n} {b} {a} {ps} env f = joined f (at_depths (point_then (Back (length a) b (length (in_scope env))) kind.Back refl (λ d. refl) (nothing (suc b))))

module _ (look : Definitions) where
  -- ---- parts of statements

  -- a condition before some code
  guarded_points : (env : Environment) (c : Expression) (n further : ℕ) {a : Code} {ps : Points} {m : ℕ} → Covers (n + size c) a ps m
      → Covers n (guarded look env c n a further) (λ d. evaluated d c ++ ps d) m
  guarded_points env c n further {a} {ps} {m} f =
      joined (at_depths (condition_points look env c n)) (passed (unless_jump (negated c) (length a + further)) (unless_is_none (negated c) _) f)

  guarded_if_points : (env : Environment) (c : Option Expression) (n further : ℕ) {a : Code} {ps : Points} {m : ℕ} → Covers (n + size_if c) a ps m
      → Covers n (guarded_if look env c n a further) (λ d. evaluated_if d c ++ ps d) m
  guarded_if_points env None n further {a} {ps} {m} f = subst (λ x. Covers x a ps m) (none_more n) f
  guarded_if_points env (Some c) n further f = guarded_points env c n further f

  effect_if_points : (env : Environment) (e : Option Expression) (n : ℕ)
      → Covers n (effect_if look env e n) (λ d. evaluated_if d e) (n + size_if e)
  effect_if_points env None n = ending (sym (none_more n)) (at_depths (nothing n))
  effect_if_points env (Some e) n = at_depths (effect_points look env e n)

  initial_points : (env : Environment) (type : BareType) (name : Bytes) (e : Option Expression) (n : ℕ)
      → Covers n (initial look env type name e n) (λ d. evaluated_if d e) (n + size_if e)
  initial_points env type name None n =
      ending (sym (none_more n)) (at_depths (quiet_then (zero_code type) refl (quiet_then (Store (slot env name)) refl nothing) n))
  initial_points env type name (Some e) n =
      at_depths (private (zero_code type) refl (private (Store (slot env name)) refl
      (then_quiet (Store (slot env name) ∷ []) (quiet_then (Store (slot env name)) refl nothing) (value_points look env e n))))

  -- the order of the parts of a `for` loop
  in_order : (a b c d e : List Point) → a ++ (b ++ (c ++ d) ++ e) ≡ a ++ b ++ c ++ d ++ e
  in_order a b c d e = simp append_assoc refl

  -- ---- statements

  mutual
    pub statement_points : (env : Environment) (s : Statement) (n broken continued : ℕ)
        → Covers n (statement look env s n broken continued) (λ d. of_statement d s) (n + size_stmt s)
    statement_points env (Block ss) n broken continued = statements_points ([] ∷ env) ss n broken continued
    statement_points env Empty n broken continued = closed (at_depths (nothing n))
    statement_points env (Evaluate e) n broken continued = closed (at_depths (effect_points look env e n))
    statement_points env (Declare type name e) n broken continued = closed (initial_points (with_variable type name env) type name e n)
    statement_points env (If c s) n broken continued = closed (guarded_points env c n 0 (statement_points env s _ broken continued))
    statement_points env (IfElse c s t) n broken continued =
        let m = n + size c in
        let other = statement look env t (m + size_stmt s) broken continued in
        let passed = suc (length other) in
        closed (joined
        (guarded_points env c n 0 (then_pass (Jump (length other) ∷ []) (quiet_then (Jump (length other)) refl nothing)
        (statement_points env s m (passed + broken) (passed + continued))))
        (statement_points env t _ broken continued))
    statement_points env (While c s) n broken continued =
        closed (looping_points env (guarded_points env c n 1
        (ending (sym (none_more _)) (then_pass [] nothing (statement_points env s _ 1 0)))))
    statement_points env (DoWhile s c) n broken continued =
        let m = n + size_stmt s in
        let test = condition_code look env c (negated c) m ++ unless_jump (negated c) 1 ∷ [] in
        closed (looping_points env (joined (statement_points env s n (suc (length test)) 0)
        (at_depths (then_quiet (unless_jump (negated c) 1 ∷ []) (quiet_then (unless_jump (negated c) 1) (unless_is_none (negated c) 1) nothing)
        (condition_points look env c m)))))
    statement_points env (For first test step s) n broken continued =
        let inner = declare_all first ([] ∷ env) in
        let t = n + size_stmts first in
        let m = t + size_if test in
        let p = m + size_stmt s in
        let stepped = effect_if look inner step p in
        let turns = turning look inner test t (statement look inner s m (suc (length stepped)) 0) stepped (p + size_if step) in
        closed (same (λ d. of_statement d (For first test step s))
        (λ d. in_order (of_statements d first) (evaluated_if d test) (of_statement d s) (evaluated_if d step) (at_depth d kind.Back ∷ []))
        (joined (statements_points ([] ∷ env) first n (length turns + broken) (length turns + continued))
        (looping_points inner (guarded_if_points inner test t 1
        (joined (statement_points inner s m (suc (length stepped)) 0) (effect_if_points inner step p))))))
    statement_points env Break n broken continued = closed (at_depths (quiet_then (Jump broken) refl nothing n))
    statement_points env Continue n broken continued = closed (at_depths (quiet_then (Jump continued) refl nothing n))
    statement_points env (Return e) n broken continued =
        closed (joined (at_depths (value_points look env e n))
        (at_depths (point_then (Halt stop.Return (n + size e)) kind.Return refl (λ d. refl) (nothing _))))
    statement_points env UpdatePoint n broken continued =
        closed (at_depths (point_then (Halt stop.Update n) kind.Update refl (λ d. refl)
        (point_then (CheckIn check_in.Update (suc n)) (kind.CheckIn check_in.Update) refl (λ d. refl) (nothing _))))
    statement_points env (Transaction ss) n broken continued =
        closed (in_transaction (statements_points ([] ∷ env) ss (n + 2) (2 + broken) (2 + continued)))

    pub statements_points : (env : Environment) (ss : Statements) (n broken continued : ℕ)
        → Covers n (statements look env ss n broken continued) (λ d. of_statements d ss) (n + size_stmts ss)
    statements_points env NoStatements n broken continued = closed (at_depths (nothing n))
    statements_points env (StatementThen s ss) n broken continued =
        let rest = statements look (declares s env) ss (n + size_stmt s) broken continued in
        closed (joined (statement_points env s n (length rest + broken) (length rest + continued))
        (statements_points (declares s env) ss _ broken continued))

  -- ---- functions

  -- a function's code behind its entry
  inside : (parameters : List BareBinding) (result : BareType) (body : Statements)
      → let last = 1 + size_stmts body in
      Covers 1 (statements look (parameters ∷ []) body 1 0 0 ++ zero_code result ∷ Halt stop.Return last ∷ [])
      (λ d. of_statements d body ++ at_depth d kind.Return ∷ []) (suc last)
  inside parameters result body =
      let last = 1 + size_stmts body in
      joined (statements_points (parameters ∷ []) body 1 0 0)
      (at_depths (private (zero_code result) refl (point_then (Halt stop.Return last) kind.Return refl (λ d. refl) (nothing (suc last)))))

  pub body_points : (parameters : List BareBinding) (result : BareType) (body : Statements)
      → points_from 0 (body_code look parameters result body) ≡ of_body body
  body_points parameters result body =
      ap (λ x. at_depth 0 (kind.CheckIn check_in.Entry) ∷ x) ((inside parameters result body).points 0)

  pub body_numbers : (parameters : List BareBinding) (result : BareType) (body : Statements)
      → Numbered 0 (body_code look parameters result body)
  body_numbers parameters result body = (refl, (inside parameters result body).numbers)
