-- The constants of a tree's code are words, where those of the tree are in the ranges of their kinds.
use Rattle.std.proofs.Common.{◌≡◌, ◌<◌, ◌^◌, ℕ, zero, suc, ◌+◌, Bool, true, false, List, [], ◌∷◌, ◌++◌, length, slice_get, Option, Some, None, refl, sym, subst, arith, if◌then◌else◌}
use Rattle.c_ints.specs.declared.int.Int.{Int}
use Rattle.c_ints.specs.declared.kind.Kind.TheVariants.{I32}
use Rattle.c_ints.specs.declared.operator.BinOp.{BinOp}
use Rattle.c_ints.specs.declared.operator.BinOp.TheVariants.{Eq}
use Rattle.c_ints.specs.declared.operator.UnOp.{UnOp}
use Rattle.c_ints.specs.declared.operator.UnOp.TheVariants.{Plus, Not}
use Rattle.c_ints.specs.Number.{reduced, value_of}
use Rattle.c_tree.specs.BareDef.{BareBinding}
use Rattle.c_tree.specs.BareExpr.{Bytes, BareType, Integer, Handle, Thread}
use Rattle.c_semantics.specs.Texts.{Definitions}
use Rattle.c_semantics.specs.Resolved.{Expression, Expressions, Place, Statement, Statements, Constant, Read, Unary, Binary, Convert, And, Or, Choice, Assign, Update, Postfix, Call, Print, New, Free, Create, Join, JoinInto, InitMutex, Lock, Unlock, NoExpressions, ExpressionThen, Local, Global, Element, Field, Block, Empty, Evaluate, Declare, If, IfElse, While, DoWhile, For, Break, Continue, Return, UpdatePoint, Transaction, NoStatements, StatementThen}
use Rattle.c_semantics.specs.Points.{size, size_if, size_parts, size_read, size_stmt, size_stmts}
use Rattle.c_semantics.specs.Evaluation.{has_part}
use Rattle.typed_trees.specs.ValueTypes.{Environment}
use Rattle.typed_trees.specs.ExpressionTypes.{type_of}
use Rattle.typed_trees.specs.StatementTypes.{declare_all, declares, with_variable}
use Rattle.bytecode.specs.declared.kind.ValueKind.{ValueKind}
use Rattle.bytecode.specs.Instructions.{Instruction, Jump, JumpIfZero, JumpUnlessZero}
use Rattle.bytecode.specs.Instructions as instruction
use Rattle.tree_code.specs.Code.{Code, and_code, application, body_code, combination, comparison, condition_code, constant_code, constant_of, conversion, converted_code, copying, effect, effect_if, either, getting, guarded, guarded_if, initial, int_code, keeps_word, looping, negated, number_code, or_code, parts, setting, setting_only, statement, statements, swapping, tucking, turning, unless_jump, value, values, zero_code}
use Rattle.tree_code.specs.CodeLaws.{HasWords}
use Rattle.tree_code.proofs.WordValues.{constant_has, word_below}
use Rattle.constant_ranges.specs.Ranges.{AllRanged, IsRanged, PlaceRanged, Ranged, RangedIf, StatementRanged, StatementsRanged}

-- a constant is a word
abbrev IsWord : Instruction → Type 0
IsWord (instruction.Constant kind w) = w < 2 ^ 64
IsWord _ = Unit {0}

data AreWords : Code → Type 0 where
  nothing : AreWords []
  more : {i : Instruction} {is : Code} → IsWord i → AreWords is → AreWords (i ∷ is)

alone : {i : Instruction} → IsWord i → AreWords (i ∷ [])
alone h = more h nothing

and_then : {is js : Code} → AreWords is → AreWords js → AreWords (is ++ js)
and_then nothing k = k
and_then (more h hs) k = more h (and_then hs k)

has_words : (code : Code) → AreWords code → HasWords code
has_words code nothing p kind w e = absurd (no e)
  where
    no : ◌≡◌ {A = Option Instruction} None (Some (instruction.Constant kind w)) → ⊥
    no e = cc
has_words code (more {i} {is} h hs) zero kind w e = subst IsWord (same e) h
  where
    same : ◌≡◌ {A = Option Instruction} (Some i) (Some (instruction.Constant kind w)) → i ≡ instruction.Constant kind w
    same e = cc
has_words code (more {i} {is} h hs) (suc p) kind w e = has_words is hs p kind w e

-- ---- single instructions

of_number : (n : Int) → IsRanged n → IsWord (number_code n)
of_number n h = subst (λ w. w < 2 ^ 64) (sym (constant_has n h)) (word_below (value_of n))

of_constant : (type : BareType) (n : Int) → IsWord (constant_code type n)
of_constant (Integer k) n = word_below (reduced k (value_of n))
of_constant (Handle tag) n = omega arith
of_constant Thread n = omega arith

of_comparison : (op : BinOp) → IsWord (comparison op)
of_comparison Eq = tt
of_comparison _ = tt

of_combination : (op : BinOp) (a b : BareType) → IsWord (combination op a b)
of_combination op (Integer k) b = tt
of_combination op (Handle tag) b = of_comparison op
of_combination op Thread b = tt

of_application : (op : UnOp) (a : BareType) → AreWords (application op a)
of_application Plus a = nothing
of_application Not a = alone tt
of_application _ a = alone tt

of_conversion : (to from : BareType) → AreWords (conversion to from)
of_conversion (Integer k) (Integer j) = by (keeps_word k j)
  where
    by : (b : Bool) → AreWords (if b then [] else instruction.Convert k ∷ [])
    by true = nothing
    by false = alone tt
of_conversion (Integer k) (Handle tag) = nothing
of_conversion (Integer k) Thread = nothing
of_conversion (Handle tag) from = nothing
of_conversion Thread from = nothing

of_converted : (to from : BareType) (n : Option Int) (code : Code) → AreWords code → AreWords (converted_code to from n code)
of_converted to from (Some n) code h = alone (of_constant to n)
of_converted to from None code h = and_then h (of_conversion to from)

-- ---- places

of_getting : (env : Environment) (p : Place) (n : ℕ) → IsWord (getting env p n)
of_getting env (Local name) n = tt
of_getting env (Global name) n = tt
of_getting env (Element name index) n = tt
of_getting env (Field tag handle name) n = tt

of_setting : (env : Environment) (p : Place) (n : ℕ) → AreWords (setting env p n)
of_setting env (Local name) n = more tt (alone tt)
of_setting env (Global name) n = alone tt
of_setting env (Element name index) n = alone tt
of_setting env (Field tag handle name) n = alone tt

of_setting_only : (env : Environment) (p : Place) (n : ℕ) → AreWords (setting_only env p n)
of_setting_only env (Local name) n = alone tt
of_setting_only env (Global name) n = more tt (alone tt)
of_setting_only env (Element name index) n = more tt (alone tt)
of_setting_only env (Field tag handle name) n = more tt (alone tt)

of_copying : (p : Place) → AreWords (copying p)
of_copying p = by (has_part p)
  where
    by : (b : Bool) → AreWords (if b then instruction.Copy ∷ [] else [])
    by true = alone tt
    by false = nothing

of_tucking : (p : Place) → IsWord (tucking p)
of_tucking p = by (has_part p)
  where
    by : (b : Bool) → IsWord (if b then instruction.CopyUnder else instruction.Copy)
    by true = tt
    by false = tt

of_swapping : (p : Place) → AreWords (swapping p)
of_swapping p = by (has_part p)
  where
    by : (b : Bool) → AreWords (if b then instruction.Swap ∷ [] else [])
    by true = alone tt
    by false = nothing

-- ---- expressions

zero_word : IsWord (int_code 0)
zero_word = omega arith

one_word : IsWord (int_code 1)
one_word = omega arith

of_and : {a b : Code} → AreWords a → AreWords b → AreWords (and_code a b)
of_and h k = and_then (and_then h (more tt k)) (more tt (more tt (alone zero_word)))

of_or : {a b : Code} → AreWords a → AreWords b → AreWords (or_code a b)
of_or h k = and_then (and_then h (more tt k)) (more tt (more tt (alone one_word)))

of_either : {a b : Code} → AreWords a → AreWords b → AreWords (either JumpIfZero a b)
of_either h k = more tt (and_then h (more tt k))

module _ (look : Definitions) where
  mutual
    of_value : (env : Environment) (e : Expression) (n : ℕ) → Ranged e → AreWords (value look env e n)
    of_value env (Constant v) n h = alone (of_number v h)
    of_value env (Read p) n h = and_then (of_parts env p n h) (alone (of_getting env p (n + size_parts p)))
    of_value env (Unary op a) n h = and_then (of_value env a n h) (of_application op (type_of look env a))
    of_value env (Binary op a b) n h =
        and_then (and_then (of_value env a n h.0) (of_value env b (n + size a) h.1))
        (alone (of_combination op (type_of look env a) (type_of look env b)))
    of_value env (Convert type a) n h =
        of_converted type (type_of look env a) (constant_of a) (value look env a n) (of_value env a n h)
    of_value env (And a b) n h = of_and (of_value env a n h.0) (of_value env b (n + size a) h.1)
    of_value env (Or a b) n h = of_or (of_value env a n h.0) (of_value env b (n + size a) h.1)
    of_value env (Choice c a b) n h =
        let m = n + size c in
        and_then (of_value env c n h.0) (of_either (of_value env a m h.1) (of_value env b (m + size a) h.2))
    of_value env (Assign p e) n h =
        let m = n + size_parts p in
        and_then (and_then (of_parts env p n h.0) (of_value env e m h.1)) (of_setting env p (m + size e))
    of_value env (Update type op p e) n h =
        let r = n + size_parts p in
        let m = r + size_read p in
        and_then
        (and_then
        (and_then (and_then (of_parts env p n h.0) (of_copying p)) (more (of_getting env p r) (of_value env e m h.1)))
        (more (of_combination op type (type_of look env e)) (of_conversion type _)))
        (of_setting env p (m + size e))
    of_value env (Postfix type op p) n h =
        let r = n + size_parts p in
        and_then
        (and_then (and_then (of_parts env p n h) (of_copying p))
        (more (of_getting env p r)
        (more (of_tucking p) (more one_word (more (of_combination op type (Integer I32)) (of_conversion type _))))))
        (of_setting_only env p (r + size_read p))
    of_value env (Call name arguments) n h = and_then (of_values env arguments n h) (more tt (alone tt))
    of_value env (Print format arguments) n h = and_then (of_values env arguments n h) (alone tt)
    of_value env (New tag) n h = alone tt
    of_value env (Free tag e) n h = and_then (of_value env e n h) (alone tt)
    of_value env (Create p name e) n h =
        let m = n + size_parts p in
        let s = m + size e in
        and_then (and_then (and_then (of_parts env p n h.0) (of_value env e m h.1)) (more tt (of_setting env p (s + 1)))) (alone tt)
    of_value env (Join e) n h = and_then (of_value env e n h) (more tt (more tt (alone zero_word)))
    of_value env (JoinInto e p) n h =
        let m = n + size e in
        let j = m + size_parts p in
        and_then
        (and_then (and_then (and_then (of_value env e n h.0) (of_parts env p m h.1)) (of_swapping p))
        (more tt (of_setting_only env p (j + 1))))
        (alone zero_word)
    of_value env (InitMutex name) n h = alone tt
    of_value env (Lock name) n h = alone tt
    of_value env (Unlock name) n h = alone tt

    of_values : (env : Environment) (es : Expressions) (n : ℕ) → AllRanged es → AreWords (values look env es n)
    of_values env NoExpressions n h = nothing
    of_values env (ExpressionThen e es) n h = and_then (of_value env e n h.0) (of_values env es (n + size e) h.1)

    of_parts : (env : Environment) (p : Place) (n : ℕ) → PlaceRanged p → AreWords (parts look env p n)
    of_parts env (Local name) n h = nothing
    of_parts env (Global name) n h = nothing
    of_parts env (Element name index) n h = of_value env index n h
    of_parts env (Field tag handle name) n h = of_value env handle n h

  dropped : (env : Environment) (e : Expression) (n : ℕ) → Ranged e → AreWords (value look env e n ++ instruction.Drop ∷ [])
  dropped env e n h = and_then (of_value env e n h) (alone tt)

  of_effect : (env : Environment) (e : Expression) (n : ℕ) → Ranged e → AreWords (effect look env e n)
  of_effect env (Assign p e) n h =
      let m = n + size_parts p in
      and_then (and_then (of_parts env p n h.0) (of_value env e m h.1)) (of_setting_only env p (m + size e))
  of_effect env (Update type op p e) n h =
      let r = n + size_parts p in
      let m = r + size_read p in
      and_then
      (and_then
      (and_then (and_then (of_parts env p n h.0) (of_copying p)) (more (of_getting env p r) (of_value env e m h.1)))
      (more (of_combination op type (type_of look env e)) (of_conversion type _)))
      (of_setting_only env p (m + size e))
  of_effect env (Postfix type op (Local name)) n h =
      more tt (more one_word (more (of_combination op type (Integer I32)) (and_then (of_conversion type _) (alone tt))))
  of_effect env e n h = dropped env e n h

  of_effect_if : (env : Environment) (e : Option Expression) (n : ℕ) → RangedIf e → AreWords (effect_if look env e n)
  of_effect_if env None n h = nothing
  of_effect_if env (Some e) n h = of_effect env e n h

  -- ---- statements

  inner_ranged : (c : Expression) → Ranged c → RangedIf (negated c)
  inner_ranged (Unary Not a) h = h
  inner_ranged _ h = tt

  of_condition : (env : Environment) (c : Expression) (inner : Option Expression) (n : ℕ) → Ranged c → RangedIf inner
      → AreWords (condition_code look env c inner n)
  of_condition env c None n h k = of_value env c n h
  of_condition env c (Some a) n h k = of_value env a n k

  of_unless : (inner : Option Expression) (d : ℕ) → IsWord (unless_jump inner d)
  of_unless None d = tt
  of_unless (Some a) d = tt

  of_test : (env : Environment) (c : Expression) (n : ℕ) → Ranged c → AreWords (condition_code look env c (negated c) n)
  of_test env c n h = of_condition env c (negated c) n h (inner_ranged c h)

  of_guarded : (env : Environment) (c : Expression) (n : ℕ) (inside : Code) (further : ℕ) → Ranged c → AreWords inside
      → AreWords (guarded look env c n inside further)
  of_guarded env c n inside further h k = and_then (of_test env c n h) (more (of_unless (negated c) (length inside + further)) k)

  of_guarded_if : (env : Environment) (c : Option Expression) (n : ℕ) (inside : Code) (further : ℕ) → RangedIf c → AreWords inside
      → AreWords (guarded_if look env c n inside further)
  of_guarded_if env None n inside further h k = k
  of_guarded_if env (Some c) n inside further h k = of_guarded env c n inside further h k

  of_turning : (env : Environment) (test : Option Expression) (n : ℕ) {body stepped : Code} (b : ℕ) → RangedIf test → AreWords body
      → AreWords stepped → AreWords (turning look env test n body stepped b)
  of_turning env test n {body} {stepped} b h k l = and_then (of_guarded_if env test n (body ++ stepped) 1 h (and_then k l)) (alone tt)

  of_zero : (type : BareType) → IsWord (zero_code type)
  of_zero type = omega arith

  of_initial : (env : Environment) (type : BareType) (name : Bytes) (e : Option Expression) (n : ℕ) → RangedIf e
      → AreWords (initial look env type name e n)
  of_initial env type name None n h = more (of_zero type) (alone tt)
  of_initial env type name (Some e) n h = more (of_zero type) (more tt (and_then (of_value env e n h) (alone tt)))

  mutual
    of_statement : (env : Environment) (s : Statement) (n b c : ℕ) → StatementRanged s → AreWords (statement look env s n b c)
    of_statement env (Block ss) n b c h = of_statements ([] ∷ env) ss n b c h
    of_statement env Empty n b c h = nothing
    of_statement env (Evaluate e) n b c h = of_effect env e n h
    of_statement env (Declare type name e) n b c h = of_initial (with_variable type name env) type name e n h
    of_statement env (If t s) n b c h =
        of_guarded env t n (statement look env s (n + size t) b c) 0 h.0 (of_statement env s (n + size t) b c h.1)
    of_statement env (IfElse t s r) n b c h =
        let m = n + size t in
        let other = statement look env r (m + size_stmt s) b c in
        let passed = suc (length other) in
        and_then (of_guarded env t n (statement look env s m (passed + b) (passed + c) ++ Jump (length other) ∷ []) 0 h.0
        (and_then (of_statement env s m (passed + b) (passed + c) h.1) (alone tt)))
        (of_statement env r (m + size_stmt s) b c h.2)
    of_statement env (While t s) n b c h =
        let m = n + size t in
        of_turning env (Some t) n (m + size_stmt s + 0) h.0 (of_statement env s m 1 0 h.1) nothing
    of_statement env (DoWhile s t) n b c h =
        let m = n + size_stmt s in
        let test = condition_code look env t (negated t) m ++ unless_jump (negated t) 1 ∷ [] in
        and_then (and_then (of_statement env s n (suc (length test)) 0 h.0) (and_then (of_test env t m h.1) (alone (of_unless (negated t) 1))))
        (alone tt)
    of_statement env (For first test step s) n b c h =
        let inner = declare_all first ([] ∷ env) in
        let t = n + size_stmts first in
        let m = t + size_if test in
        let p = m + size_stmt s in
        let stepped = effect_if look inner step p in
        let turns = turning look inner test t (statement look inner s m (suc (length stepped)) 0) stepped (p + size_if step) in
        and_then (of_statements ([] ∷ env) first n (length turns + b) (length turns + c) h.0)
        (of_turning inner test t (p + size_if step) h.1 (of_statement inner s m (suc (length stepped)) 0 h.3) (of_effect_if inner step p h.2))
    of_statement env Break n b c h = alone tt
    of_statement env Continue n b c h = alone tt
    of_statement env (Return e) n b c h = and_then (of_value env e n h) (alone tt)
    of_statement env UpdatePoint n b c h = more tt (alone tt)
    of_statement env (Transaction ss) n b c h =
        more tt (more tt (and_then (of_statements ([] ∷ env) ss (n + 2) (2 + b) (2 + c) h) (more tt (alone tt))))

    of_statements : (env : Environment) (ss : Statements) (n b c : ℕ) → StatementsRanged ss → AreWords (statements look env ss n b c)
    of_statements env NoStatements n b c h = nothing
    of_statements env (StatementThen s ss) n b c h =
        let rest = statements look (declares s env) ss (n + size_stmt s) b c in
        and_then (of_statement env s n (length rest + b) (length rest + c) h.0)
        (of_statements (declares s env) ss (n + size_stmt s) b c h.1)

  pub constants_are_words : (parameters : List BareBinding) (result : BareType) (body : Statements) → StatementsRanged body
      → HasWords (body_code look parameters result body)
  constants_are_words parameters result body h =
      has_words (body_code look parameters result body)
      (more tt (and_then (of_statements (parameters ∷ []) body 1 0 0 h) (more (of_zero result) (alone tt))))
