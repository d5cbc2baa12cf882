-- The code of statements from one scope to another, and that of functions.
use Rattle.std.proofs.Common.{◌≡◌, ◌≤◌, ◌<◌, ℕ, suc, ◌+◌, ◌==◌, Bool, true, false, List, [], ◌∷◌, ◌++◌, length, Option, Some, None, refl, sym, ap, subst, ◌∙◌, arith, append_assoc, append-nil, eqb-true}
use Rattle.std.specs.Prelude.{IsTrue, option_map}
use Rattle.c_ints.specs.declared.operator.UnOp.TheVariants as unary
use Rattle.run_types.specs.CheckIns as check_in
use Rattle.c_tree.specs.BareExpr.{Bytes, BareType, Integer as IntegerType, Handle as HandleType, Thread as ThreadType}
use Rattle.c_tree.specs.BareDef.{BareBinding}
use Rattle.c_semantics.specs.Texts.{Definitions}
use Rattle.c_semantics.specs.Resolved.{Expression, Statement, Statements, Unary, Block, Empty, Evaluate, Declare, If, IfElse, While, DoWhile, For, Break, Continue, Return, UpdatePoint, Transaction, NoStatements, StatementThen}
use Rattle.c_semantics.specs.Points.{size, size_if, size_stmt, size_stmts}
use Rattle.c_semantics.specs.Leaving.{stays, all_stay, leaves_at_ends}
use Rattle.c_semantics.specs.Stops as stop
use Rattle.typed_trees.specs.ValueTypes.{Environment, in_scope}
use Rattle.typed_trees.specs.ExpressionTypes.{IsTyped, type_of}
use Rattle.typed_trees.specs.StatementTypes.{ConditionIf, InitialIf, IsPart, StatementTyped, StatementsTyped, TypedIf, with_variable, declares, declare_all}
use Rattle.bytecode.specs.Instructions.{Instruction, Store, Jump, Halt, CheckIn}
use Rattle.tree_code.specs.Code.{Code, HasRoom, HaveRoom, body_code, condition_code, effect_if, guarded, guarded_if, initial, looping, negated, slot, statement, statements, turning, unless_jump, zero_code}
use Rattle.code_kinds.specs.declared.kind.WordKind.{WordKind}
use Rattle.code_kinds.specs.WordKinds.{word_kind}
use Rattle.code_kinds.specs.StopKinds.{Words}
use Rattle.code_kinds.specs.Shapes.{Shape, after, stored, transactions_after}
use Rattle.code_kinds.specs.WellFormed.{deepest, entry}
use Rattle.formed_code.specs.Depths.{depth, depth_if, depth_stmt, depth_stmts}
use Rattle.formed_code.specs.FormedLaws.{kinds_of}
use Rattle.formed_code.proofs.Lists.{left_of_both, never, right_of_both}
use Rattle.formed_code.proofs.Segments.{Extends, Final, Segment, Target, Targets, and_then, final, forgetting, further, land, looped, more, nothing, same_shape, to_shape}
use Rattle.formed_code.proofs.Instructions.{fork, jump, one, return}
use Rattle.formed_code.proofs.Words.{halted, length_kinds, shape, stored_next, took}
use Rattle.formed_code.proofs.Branches.{Forks, Skips, passed}
use Rattle.formed_code.proofs.Values.{checked_in, effect_formed, stored_local, value_formed}
use Rattle.formed_code.proofs.Declared.{between, declared, extends_by, extends_on, after_block, after_one, newest_is, newest_slot, newest_type, part_keeps}

-- where a `break` and a `continue` lead
pub record Jumps (k : Targets) (broken continued : ℕ) (s : Shape) : Type 0 where
  pub breaks : ℕ
  pub continues : ℕ
  pub far_break : (k breaks).far ≡ broken
  pub far_continue : (k continues).far ≡ continued
  pub real_break : IsTrue (k breaks).real
  pub real_continue : IsTrue (k continues).real
  pub at_break : Extends s (k breaks).shape
  pub at_continue : Extends s (k continues).shape

jumps_further : (n : ℕ) {k : Targets} {broken continued : ℕ} {s : Shape} → Jumps k broken continued s
    → Jumps (further n k) (n + broken) (n + continued) s
jumps_further n {k} {broken} {continued} {s} j = record {
  breaks = j.breaks;
  continues = j.continues;
  far_break = ap (λ x. n + x) j.far_break;
  far_continue = ap (λ x. n + x) j.far_continue;
  real_break = j.real_break;
  real_continue = j.real_continue;
  at_break = j.at_break;
  at_continue = j.at_continue;
}

jumps_inside : {k : Targets} {broken continued : ℕ} {s x : Shape} → Extends x s → Jumps k broken continued s → Jumps k broken continued x
jumps_inside {k} {broken} {continued} {s} {x} e j = record {
  breaks = j.breaks;
  continues = j.continues;
  far_break = j.far_break;
  far_continue = j.far_continue;
  real_break = j.real_break;
  real_continue = j.real_continue;
  at_break = extends_on e j.at_break;
  at_continue = extends_on e j.at_continue;
}

jumps_landing : {k : Targets} {broken continued : ℕ} {s : Shape} (t : Target) → Jumps k broken continued s → Jumps (more t k) broken continued s
jumps_landing {k} {broken} {continued} {s} t j = record {
  breaks = suc j.breaks;
  continues = suc j.continues;
  far_break = j.far_break;
  far_continue = j.far_continue;
  real_break = j.real_break;
  real_continue = j.real_continue;
  at_break = j.at_break;
  at_continue = j.at_continue;
}

past : (n m : ℕ) → 1 + (n + m) ≡ suc n + m
past n m = omega arith

jumps_passing : {k : Targets} {broken continued : ℕ} {s : Shape} (t u : Target) (n : ℕ) → Jumps k broken continued s
    → Jumps (further 1 (more t (further n (more u k)))) (suc n + broken) (suc n + continued) s
jumps_passing {k} {broken} {continued} {s} t u n j = record {
  breaks = suc (suc j.breaks);
  continues = suc (suc j.continues);
  far_break = ap (λ x. 1 + (n + x)) j.far_break ∙ past n broken;
  far_continue = ap (λ x. 1 + (n + x)) j.far_continue ∙ past n continued;
  real_break = j.real_break;
  real_continue = j.real_continue;
  at_break = j.at_break;
  at_continue = j.at_continue;
}

-- the word of a condition without the `!` before it
abbrev condition_kind : Definitions → Environment → Expression → WordKind
condition_kind look env (Unary unary.Not a) = word_kind (type_of look env a)
condition_kind look env c = word_kind (type_of look env c)

zero_stays : (tr : ℕ) → (tr == 0) ≡ true → transactions_after stop.Return tr ≡ Some 0
zero_stays tr h = subst (λ n. transactions_after stop.Return n ≡ Some 0) (sym (eqb-true tr 0 h)) refl

one_more : (n : ℕ) → n + 1 ≡ suc n
one_more n = omega arith

module _ (look : Definitions) (result : BareType) (room : ℕ) where
  -- a part of a body
  abbrev Part : Bool → Targets → Code → Shape → Shape → Type 0
  Part r k is s t = Segment look (word_kind result) room r k is s t

  -- ---- tests

  condition_formed : (r : Bool) (k : Targets) (tr : ℕ) (env : Environment) (c : Expression) (n : ℕ) → IsTyped look env c → depth c ≤ deepest
      → Part r k (condition_code look env c (negated c) n) (between tr env) (shape tr (kinds_of (in_scope env)) (condition_kind look env c ∷ []))
  condition_formed r k tr env (Unary unary.Not a) n h d = value_formed look (word_kind result) room tr env r k a n [] h.0 (omega (arith, d))
  condition_formed r k tr env c n h d = value_formed look (word_kind result) room tr env r k c n [] h (omega (arith, d))

  unless_forks : (o : Option Expression) (d : ℕ) → Forks look (word_kind result) room (unless_jump o d) d
  unless_forks None d = record { leads = λ p. refl; edge = λ shapes p. tt }
  unless_forks (Some a) d = record { leads = λ p. refl; edge = λ shapes p. tt }

  unless_leaves : (o : Option Expression) (d tr : ℕ) (vs : Words) (x : WordKind)
      → after look (word_kind result) room (unless_jump o d) (shape tr vs (x ∷ [])) ≡ Some (shape tr vs [])
  unless_leaves None d tr vs x = refl
  unless_leaves (Some a) d tr vs x = refl

  -- the jump behind a condition
  unless_formed : (r : Bool) (k : Targets) (tr : ℕ) (env : Environment) (c : Expression) (d b : ℕ) → (k b).far ≡ d → IsTrue (k b).real
      → Extends (between tr env) (k b).shape
      → Part r k (unless_jump (negated c) d ∷ []) (shape tr (kinds_of (in_scope env)) (condition_kind look env c ∷ [])) (between tr env)
  unless_formed r k tr env c d b far real extends =
      let forks = unless_forks (negated c) d in
      fork look (word_kind result) room (unless_jump (negated c) d) b d forks.leads forks.edge far real extends
      (unless_leaves (negated c) d tr (kinds_of (in_scope env)) (condition_kind look env c)) (omega arith)

  guarded_formed : (r : Bool) (k : Targets) (tr : ℕ) (env : Environment) (c : Expression) (n : ℕ) (inside : Code) (far b : ℕ) (t : Shape)
      → IsTyped look env c → depth c ≤ deepest → (k b).far ≡ far → IsTrue (k b).real → Extends (between tr env) (k b).shape
      → ((q : Bool) → Part q k inside (between tr env) t) → Part r k (guarded look env c n inside far) (between tr env) t
  guarded_formed r k tr env c n inside far b t h d e real extends f =
      and_then look (word_kind result) room (condition_formed r _ tr env c n h d)
      (λ q. and_then look (word_kind result) room
      (unless_formed q (further (length inside) k) tr env c (length inside + far) b (ap (λ x. length inside + x) e) real extends) f)

  guarded_if_formed : (r : Bool) (k : Targets) (tr : ℕ) (env : Environment) (c : Option Expression) (n : ℕ) (inside : Code) (far b : ℕ) (t : Shape)
      → ConditionIf look env c → depth_if c ≤ deepest → (k b).far ≡ far → IsTrue (k b).real → Extends (between tr env) (k b).shape
      → ((q : Bool) → Part q k inside (between tr env) t) → Part r k (guarded_if look env c n inside far) (between tr env) t
  guarded_if_formed r k tr env None n inside far b t h d e real extends f = f r
  guarded_if_formed r k tr env (Some c) n inside far b t h d e real extends f =
      guarded_formed r k tr env c n inside far b t h.0 d e real extends f

  effect_if_formed : (r : Bool) (k : Targets) (tr : ℕ) (env : Environment) (e : Option Expression) (n : ℕ) → TypedIf look env e
      → depth_if e ≤ deepest → Part r k (effect_if look env e n) (between tr env) (between tr env)
  effect_if_formed r k tr env None n h d = nothing look (word_kind result) room r k (between tr env)
  effect_if_formed r k tr env (Some e) n h d = effect_formed look (word_kind result) room tr env r k e n h d

  -- ---- loops

  -- the end of a loop; the end of its body
  abbrev Done : Targets → ℕ → Environment → Targets
  Done k tr env = more (record { far = 0; shape = between tr env; real = true }) k

  abbrev Turned : Targets → ℕ → Environment → Code → Targets
  Turned k tr env stepped =
      more (record { far = 0; shape = between tr env; real = true }) (further (length stepped) (further 1 (Done k tr env)))

  -- its jumps
  turn_jumps : (k : Targets) (tr : ℕ) (env : Environment) (stepped : Code) → Jumps (Turned k tr env stepped) (suc (length stepped)) 0 (between tr env)
  turn_jumps k tr env stepped = record {
    breaks = 1;
    continues = 0;
    far_break = one_more (length stepped);
    far_continue = refl;
    real_break = refl;
    real_continue = refl;
    at_break = same_shape (between tr env);
    at_continue = same_shape (between tr env);
  }

  loop_formed : (r : Bool) (k : Targets) (tr : ℕ) (env : Environment) (inside : Code) (b : ℕ)
      → Part r (further 1 (Done k tr env)) inside (between tr env) (between tr env)
      → Part r k (looping env inside b) (between tr env) (between tr env)
  loop_formed r k tr env inside b f =
      land look (word_kind result) room
      (looped look (word_kind result) room r (Done k tr env) inside b (length (in_scope env)) (between tr env) (between tr env) f
      (λ d. refl) (omega arith) (length_kinds (in_scope env)))

  turning_formed : (r : Bool) (k : Targets) (tr : ℕ) (env : Environment) (test : Option Expression) (n : ℕ) (turn stepped : Code) (b : ℕ)
      → ConditionIf look env test → depth_if test ≤ deepest
      → ((q : Bool) → Part q (Turned k tr env stepped) turn (between tr env) (between tr env))
      → ((q : Bool) (j : Targets) → Part q j stepped (between tr env) (between tr env))
      → Part r k (turning look env test n turn stepped b) (between tr env) (between tr env)
  turning_formed r k tr env test n turn stepped b h d f g =
      loop_formed r k tr env (guarded_if look env test n (turn ++ stepped) 1) b
      (guarded_if_formed r (further 1 (Done k tr env)) tr env test n (turn ++ stepped) 1 0 (between tr env) h d refl refl
      (same_shape (between tr env))
      (λ q. and_then look (word_kind result) room (land look (word_kind result) room (f q)) (λ o. g o _)))

  do_formed : (r : Bool) (k : Targets) (tr : ℕ) (env : Environment) (c : Expression) (m : ℕ) (turn : Code) (b : ℕ) → IsTyped look env c
      → depth c ≤ deepest
      → let test = condition_code look env c (negated c) m ++ unless_jump (negated c) 1 ∷ [] in
      ((q : Bool) → Part q (Turned k tr env test) turn (between tr env) (between tr env))
      → Part r k (looping env (turn ++ test) b) (between tr env) (between tr env)
  do_formed r k tr env c m turn b h d f =
      let test = condition_code look env c (negated c) m ++ unless_jump (negated c) 1 ∷ [] in
      loop_formed r k tr env (turn ++ test) b
      (and_then look (word_kind result) room (land look (word_kind result) room (f r))
      (λ q. and_then look (word_kind result) room (condition_formed q _ tr env c m h d)
      (λ o. unless_formed o (further 1 (Done k tr env)) tr env c 1 0 refl refl (same_shape (between tr env)))))

  -- ---- declarations

  zero_leaves : (t : BareType) (tr : ℕ) (vs : Words) → after look (word_kind result) room (zero_code t) (shape tr vs []) ≡ Some (shape tr vs (word_kind t ∷ []))
  zero_leaves (IntegerType k) tr vs = refl
  zero_leaves (HandleType tag) tr vs = refl
  zero_leaves ThreadType tr vs = refl

  zero_formed : (r : Bool) (k : Targets) (tr : ℕ) (vs : Words) (t : BareType)
      → Part r k (zero_code t ∷ []) (shape tr vs []) (shape tr vs (word_kind t ∷ []))
  zero_formed r k tr vs t =
      one look (word_kind result) room (zero_code t) (λ p. refl) (λ shapes p. tt) (zero_leaves t tr vs) (omega arith)

  -- the first word of a variable
  first_stored : (type : BareType) (name : Bytes) (env : Environment) → length (in_scope env) < room
      → let inner = with_variable type name env in
      stored room (slot inner name) (word_kind type) (kinds_of (in_scope env)) ≡ Some (kinds_of (in_scope inner))
  first_stored type name env h =
      let vs = kinds_of (in_scope env) in
      ap (λ n. stored room n (word_kind type) vs) (newest_slot type name env ∙ sym (length_kinds (in_scope env)))
      ∙ stored_next room (word_kind type) vs (subst (λ n. n < room) (sym (length_kinds (in_scope env))) h)
      ∙ ap (λ bs. Some (kinds_of bs)) (sym (declared type name env))

  first_formed : (r : Bool) (k : Targets) (tr : ℕ) (env : Environment) (type : BareType) (name : Bytes) → length (in_scope env) < room
      → let inner = with_variable type name env in
      Part r k (zero_code type ∷ Store (slot inner name) ∷ []) (between tr env) (between tr inner)
  first_formed r k tr env type name h =
      let inner = with_variable type name env in
      and_then look (word_kind result) room (zero_formed r (further 1 k) tr (kinds_of (in_scope env)) type)
      (λ q. one look (word_kind result) room (Store (slot inner name)) (λ p. refl) (λ shapes p. tt)
      (ap (option_map (λ vs. shape tr vs [])) (first_stored type name env h)) (omega arith))

  initial_formed : (r : Bool) (k : Targets) (tr : ℕ) (env : Environment) (type : BareType) (name : Bytes) (e : Option Expression) (n : ℕ)
      → let inner = with_variable type name env in
      InitialIf look inner type e → length (in_scope env) < room → depth_if e ≤ deepest
      → Part r k (initial look inner type name e n) (between tr env) (between tr inner)
  initial_formed r k tr env type name None n h l d = first_formed r k tr env type name l
  initial_formed r k tr env type name (Some e) n h l d =
      let inner = with_variable type name env in
      let w = word_kind result in
      let kinds = h.1 ∙ sym (newest_type type name env) in
      and_then look w room
      (and_then look w room (first_formed r _ tr env type name l)
      (λ q. to_shape look w room (ap (λ t. shape tr (kinds_of (in_scope inner)) (word_kind t ∷ [])) kinds)
      (value_formed look w room tr inner q _ e n [] h.0 (omega (arith, d)))))
      (λ q. stored_local look w room tr inner name (newest_is type name env) (omega arith))

  -- ---- statements

  -- a statement that declares nothing for what is behind it
  as_part : {r : Bool} {k : Targets} {is : Code} (tr : ℕ) (env : Environment) (s : Statement) → IsPart s
      → Part r k is (between tr env) (between tr (declares s env)) → Part r k is (between tr env) (between tr env)
  as_part tr env s h f = to_shape look (word_kind result) room (ap (λ e. between tr e) (part_keeps s env h)) f

  returned : (r : Bool) (k : Targets) (tr : ℕ) (env : Environment) (n : ℕ) (t : Shape) → (tr == 0) ≡ true
      → Part r k (Halt stop.Return n ∷ []) (shape tr (kinds_of (in_scope env)) (word_kind result ∷ [])) t
  returned r k tr env n t x =
      let vs = kinds_of (in_scope env) in
      return look (word_kind result) room n (shape 0 vs [])
      (halted look (word_kind result) room tr vs stop.Return n (word_kind result ∷ []) [] 0 None
      (took (word_kind result) [] (λ under. Some under)) (zero_stays tr x) refl) (omega arith)

  mutual
    pub statement_formed : (r : Bool) (k : Targets) (tr : ℕ) (env : Environment) (s : Statement) (n broken continued : ℕ) (looped : Bool)
        → StatementTyped look result env s → HasRoom room env s → stays tr looped s ≡ true → depth_stmt s ≤ deepest
        → (IsTrue looped → Jumps k broken continued (between tr env))
        → Part r k (statement look env s n broken continued) (between tr env) (between tr (declares s env))
    statement_formed r k tr env (Block ss) n broken continued looped h l x d j =
        forgetting look (word_kind result) room (extends_by tr env (declare_all ss ([] ∷ env)) (after_block ss env)) refl
        (statements_formed r k tr ([] ∷ env) ss n broken continued looped h l x d j)
    statement_formed r k tr env Empty n broken continued looped h l x d j = nothing look (word_kind result) room r k (between tr env)
    statement_formed r k tr env (Evaluate e) n broken continued looped h l x d j = effect_formed look (word_kind result) room tr env r k e n h d
    statement_formed r k tr env (Declare type name e) n broken continued looped h l x d j =
        initial_formed r k tr env type name e n h l (omega (arith, d))
    statement_formed r k tr env (If c s) n broken continued looped h l x d j =
        let inside = statement look env s (n + size c) broken continued in
        land look (word_kind result) room
        (guarded_formed r (Done k tr env) tr env c n inside 0 0 (between tr env) h.0.0 (omega (arith, d)) refl refl (same_shape (between tr env))
        (λ q. as_part tr env s h.2 (statement_formed q (Done k tr env) tr env s (n + size c) broken continued looped h.1 l x (omega (arith, d)) (λ t. jumps_landing _ (j t)))))
    statement_formed r k tr env (IfElse c s t) n broken continued looped h l x d j =
        let m = n + size c in
        let other = statement look env t (m + size_stmt s) broken continued in
        let behind = suc (length other) in
        let inside = statement look env s m (behind + broken) (behind + continued) in
        let here = between tr env in
        land look (word_kind result) room
        (and_then look (word_kind result) room
        (land look (word_kind result) room
        (guarded_formed r (Skips look (word_kind result) room k inside other here here here) tr env c n (inside ++ Jump (length other) ∷ []) 0 0 here
        h.0.0 (omega (arith, d)) refl refl (same_shape here)
        (λ q. passed look (word_kind result) room k inside other here here here q (omega arith) (λ z. refl)
        (λ o. as_part tr env s h.3 (statement_formed o _ tr env s m (behind + broken) (behind + continued) looped h.1 l.0 (left_of_both (stays tr looped s) (stays tr looped t) x) (omega (arith, d)) (λ z. jumps_passing _ _ (length other) (j z)))))))
        (λ q. as_part tr env t h.4 (statement_formed q _ tr env t (m + size_stmt s) broken continued looped h.2 l.1 (right_of_both (stays tr looped s) (stays tr looped t) x) (omega (arith, d)) (λ z. jumps_landing _ (j z)))))
    statement_formed r k tr env (While c s) n broken continued looped h l x d j =
        let m = n + size c in
        turning_formed r k tr env (Some c) n (statement look env s m 1 0) [] (m + size_stmt s + 0) h.0 (omega (arith, d))
        (λ q. as_part tr env s h.2 (statement_formed q (Turned k tr env []) tr env s m 1 0 true h.1 l x (omega (arith, d)) (λ t. turn_jumps k tr env [])))
        (λ q i. nothing look (word_kind result) room q i (between tr env))
    statement_formed r k tr env (DoWhile s c) n broken continued looped h l x d j =
        let m = n + size_stmt s in
        let test = condition_code look env c (negated c) m ++ unless_jump (negated c) 1 ∷ [] in
        do_formed r k tr env c m (statement look env s n (suc (length test)) 0) (m + size c) h.0.0 (omega (arith, d))
        (λ q. as_part tr env s h.2 (statement_formed q (Turned k tr env test) tr env s n (suc (length test)) 0 true h.1 l x (omega (arith, d)) (λ t. turn_jumps k tr env test)))
    statement_formed r k tr env (For first test step s) n broken continued looped h l x d j =
        let inner = declare_all first ([] ∷ env) in
        let t = n + size_stmts first in
        let m = t + size_if test in
        let p = m + size_stmt s in
        let stepped = effect_if look inner step p in
        let turn = statement look inner s m (suc (length stepped)) 0 in
        let turns = turning look inner test t turn stepped (p + size_if step) in
        forgetting look (word_kind result) room (extends_by tr env inner (after_block first env)) refl
        (and_then look (word_kind result) room
        (statements_formed r (further (length turns) k) tr ([] ∷ env) first n (length turns + broken) (length turns + continued) looped h.0 l.0
        (left_of_both (all_stay tr looped first) (stays tr true s) x) (omega (arith, d)) (λ z. jumps_further (length turns) (j z)))
        (λ q. turning_formed q k tr inner test t turn stepped (p + size_if step) h.1 (omega (arith, d))
        (λ o. as_part tr inner s h.4 (statement_formed o (Turned k tr inner stepped) tr inner s m (suc (length stepped)) 0 true h.3 l.1 (right_of_both (all_stay tr looped first) (stays tr true s) x) (omega (arith, d)) (λ z. turn_jumps k tr inner stepped)))
        (λ o i. effect_if_formed o i tr inner step p h.2 (omega (arith, d)))))
    statement_formed r k tr env Break n broken continued looped h l x d j =
        let o = j x in
        jump look (word_kind result) room o.breaks broken o.far_break o.real_break o.at_break refl (omega arith)
    statement_formed r k tr env Continue n broken continued looped h l x d j =
        let o = j x in
        jump look (word_kind result) room o.continues continued o.far_continue o.real_continue o.at_continue refl (omega arith)
    statement_formed r k tr env (Return e) n broken continued looped h l x d j =
        and_then look (word_kind result) room
        (to_shape look (word_kind result) room (ap (λ t. shape tr (kinds_of (in_scope env)) (word_kind t ∷ [])) h.1)
        (value_formed look (word_kind result) room tr env r _ e n [] h.0 (omega (arith, d))))
        (λ q. returned q k tr env (n + size e) (between tr env) x)
    statement_formed r k tr env UpdatePoint n broken continued looped h l x d j =
        checked_in look (word_kind result) room tr env stop.Update n check_in.Update tr (λ p. refl) refl refl refl refl (omega arith)
    statement_formed r k tr env (Transaction ss) n broken continued looped h l x d j =
        let inner = declare_all ss ([] ∷ env) in
        and_then look (word_kind result) room
        (and_then look (word_kind result) room
        (checked_in look (word_kind result) room tr env {stack = []} {left = []} stop.Begin n check_in.Begin (suc tr) (λ p. refl) refl refl refl refl (omega arith))
        (λ q. forgetting look (word_kind result) room {u = between (suc tr) env} (extends_by (suc tr) env inner (after_block ss env)) refl
        (statements_formed q _ (suc tr) ([] ∷ env) ss (n + 2) (2 + broken) (2 + continued) false h l x d (λ z. absurd (never z)))))
        (λ q. checked_in look (word_kind result) room (suc tr) env {stack = []} {left = []} stop.End _ check_in.End tr (λ p. refl) refl refl refl refl (omega arith))

    pub statements_formed : (r : Bool) (k : Targets) (tr : ℕ) (env : Environment) (ss : Statements) (n broken continued : ℕ) (looped : Bool)
        → StatementsTyped look result env ss → HaveRoom room env ss → all_stay tr looped ss ≡ true → depth_stmts ss ≤ deepest
        → (IsTrue looped → Jumps k broken continued (between tr env))
        → Part r k (statements look env ss n broken continued) (between tr env) (between tr (declare_all ss env))
    statements_formed r k tr env NoStatements n broken continued looped h l x d j = nothing look (word_kind result) room r k (between tr env)
    statements_formed r k tr env (StatementThen s ss) n broken continued looped h l x d j =
        let inner = declares s env in
        let rest = statements look inner ss (n + size_stmt s) broken continued in
        and_then look (word_kind result) room
        (statement_formed r (further (length rest) k) tr env s n (length rest + broken) (length rest + continued) looped h.0 l.0
        (left_of_both (stays tr looped s) (all_stay tr looped ss) x) (omega (arith, d)) (λ z. jumps_further (length rest) (j z)))
        (λ q. statements_formed q k tr inner ss (n + size_stmt s) broken continued looped h.1 l.1
        (right_of_both (stays tr looped s) (all_stay tr looped ss) x) (omega (arith, d))
        (λ z. jumps_inside (extends_by tr env inner (after_one s env)) (j z)))

  -- ---- functions

  inside_order : (a : Code) (z h : Instruction) → a ++ z ∷ [] ++ h ∷ [] ≡ a ++ z ∷ h ∷ []
  inside_order a z h = append_assoc a (z ∷ []) (h ∷ [])

  nowhere : Targets
  nowhere w = record { far = 0; shape = between 0 []; real = false }

  entered : (parameters : List BareBinding)
      → after look (word_kind result) room (CheckIn check_in.Entry 0) (entry (kinds_of parameters)) ≡ Some (between 0 (parameters ∷ []))
  entered parameters = ap (λ bs. Some (shape 0 (kinds_of bs) [])) (sym (append-nil parameters))

  pub body_formed : (parameters : List BareBinding) (body : Statements) → StatementsTyped look result (parameters ∷ []) body
      → HaveRoom room (parameters ∷ []) body → depth_stmts body ≤ deepest → leaves_at_ends body ≡ true
      → Final look (word_kind result) room (body_code look parameters result body) (entry (kinds_of parameters))
  unfolding nowhere
  body_formed parameters body h l d x =
      let w = word_kind result in
      let env = parameters ∷ [] in
      let inner = declare_all body env in
      let vs = kinds_of (in_scope inner) in
      let last = 1 + size_stmts body in
      let front = CheckIn check_in.Entry 0 ∷ statements look env body 1 0 0 in
      subst (λ c. Final look w room c (entry (kinds_of parameters))) (inside_order front (zero_code result) (Halt stop.Return last))
      (final look w room nowhere (front ++ zero_code result ∷ []) last (entry (kinds_of parameters)) (shape 0 vs (w ∷ [])) (shape 0 vs [])
      (and_then look w room
      (and_then look w room
      (one look w room (CheckIn check_in.Entry 0) (λ p. refl) (λ shapes p. tt) (entered parameters) (omega arith))
      (λ q. statements_formed q (further 1 nowhere) 0 env body 1 0 0 false h l x d (λ z. absurd (never z))))
      (λ q. zero_formed q nowhere 0 vs result))
      (halted look w room 0 vs stop.Return last (w ∷ []) [] 0 None (took w [] (λ under. Some under)) refl refl)
      (omega arith) (λ o. refl))
