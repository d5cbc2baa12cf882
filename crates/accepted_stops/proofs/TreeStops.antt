-- The code of a typed tree fits: its stops name what their types ask for.
use Rattle.std.proofs.Common.{◌≡◌, ℕ, suc, ◌+◌, Bool, true, false, IsTrue, List, [], ◌∷◌, ◌++◌, length, Option, Some, None, is_some, refl, ap, ◌∙◌, if◌then◌else◌}
use Rattle.std.proofs.lemmas.List.{length-map}
use Rattle.c_ints.specs.declared.kind.Kind.TheVariants.{I32}
use Rattle.c_ints.specs.declared.operator.BinOp.{BinOp}
use Rattle.c_ints.specs.declared.operator.BinOp.TheVariants.{Eq}
use Rattle.c_ints.specs.declared.operator.UnOp.{UnOp}
use Rattle.c_ints.specs.declared.operator.UnOp.TheVariants.{Plus, Not}
use Rattle.c_ints.specs.declared.int.Int.{Int}
use Rattle.c_tree.specs.BareDef.{BareBinding}
use Rattle.c_tree.specs.BareExpr.{Bytes, BareType, Integer, Handle, Thread}
use Rattle.c_semantics.specs.Names.{struct_name}
use Rattle.c_semantics.specs.Texts.{Definitions, bound, members_of, parameters_of}
use Rattle.c_semantics.specs.Resolved.{Expression, Expressions, Place, Statement, Statements, Constant, Read, Unary, Binary, Convert, And, Or, Choice, Assign, Update, Postfix, Call, Print, New, Free, Create, Join, JoinInto, InitMutex, Lock, Unlock, NoExpressions, ExpressionThen, Local, Global, Element, Field, Block, Empty, Evaluate, Declare, If, IfElse, While, DoWhile, For, Break, Continue, Return, UpdatePoint, Transaction, NoStatements, StatementThen}
use Rattle.c_semantics.specs.Points.{size, size_if, size_parts, size_read, size_stmt, size_stmts}
use Rattle.c_semantics.specs.Evaluation.{count, has_part}
use Rattle.c_semantics.specs.Stops.{Stop}
use Rattle.c_semantics.specs.Stops as stop
use Rattle.typed_trees.specs.ValueTypes.{Environment, in_scope}
use Rattle.typed_trees.specs.ExpressionTypes.{AreTyped, IsArray, IsFunction, IsMutex, IsPlaced, IsStruct, IsTyped, IsVariable, parameter_types, type_of, types_of}
use Rattle.typed_trees.specs.StatementTypes.{ConditionIf, InitialIf, StatementTyped, StatementsTyped, TypedIf, declare_all, declares, with_variable}
use Rattle.bytecode.specs.Instructions.{Instruction, Jump, JumpIfZero, JumpUnlessZero}
use Rattle.bytecode.specs.Instructions as instruction
use Rattle.tree_code.specs.Code.{Code, and_code, application, body_code, combination, comparison, condition_code, constant_code, constant_of, conversion, converted_code, copying, effect, effect_if, either, getting, guarded, guarded_if, initial, keeps_word, negated, or_code, parts, setting, setting_only, statement, statements, swapping, tucking, turning, unless_jump, value, values}
use Rattle.accepted_stops.specs.FittingCode.{CodeFits}
use Rattle.accepted_stops.proofs.Fitting.{Fit, Own, code_fits, none, turned}
use Rattle.accepted_stops.proofs.Fitting as fit

-- what a stop names is defined as what the stop needs
abbrev pub IsUsed : Definitions → Stop → Type 0
IsUsed look (stop.ReadGlobal name) = IsVariable (look name)
IsUsed look (stop.WriteGlobal name) = IsVariable (look name)
IsUsed look (stop.ReadElement name) = IsArray (look name)
IsUsed look (stop.WriteElement name) = IsArray (look name)
IsUsed look (stop.ReadField tag name) = IsTrue (is_some (bound (members_of (look (struct_name tag))) name))
IsUsed look (stop.WriteField tag name) = IsTrue (is_some (bound (members_of (look (struct_name tag))) name))
IsUsed look (stop.New tag) = IsStruct (look (struct_name tag))
IsUsed look (stop.InitMutex name) = IsMutex (look name)
IsUsed look (stop.Lock name) = IsMutex (look name)
IsUsed look (stop.Unlock name) = IsMutex (look name)
IsUsed look (stop.Spawn name) = IsFunction (look name)
IsUsed look (stop.Call name n) = IsFunction (look name) × (n ≡ length (parameters_of (look name)))
IsUsed look stop.Back = ⊥
IsUsed look s = Unit {0}

module _ (look : Definitions) where
  abbrev Fits : Code → Type 0
  Fits = Fit (IsUsed look)

  abbrev First : Instruction → Code → Type 0
  First = Own (IsUsed look) 0

  nothing : Fits []
  nothing = none (IsUsed look)

  alone : {i : Instruction} → First i [] → Fits (i ∷ [])
  alone h = fit.alone (IsUsed look) h

  both : {is js : Code} → Fits is → Fits js → Fits (is ++ js)
  both h k = fit.both (IsUsed look) h k

  before : {i : Instruction} {is : Code} → First i is → Fits is → Fits (i ∷ is)
  before h k = fit.before (IsUsed look) h k

  -- ---- single instructions

  of_comparison : (op : BinOp) (is : Code) → First (comparison op) is
  of_comparison Eq is = tt
  of_comparison _ is = tt

  of_combination : (op : BinOp) (a b : BareType) (is : Code) → First (combination op a b) is
  of_combination op (Integer k) b is = tt
  of_combination op (Handle tag) b is = of_comparison op is
  of_combination op Thread b is = tt

  of_application : (op : UnOp) (a : BareType) → Fits (application op a)
  of_application Plus a = nothing
  of_application Not a = alone tt
  of_application _ a = alone tt

  of_conversion : (to from : BareType) → Fits (conversion to from)
  of_conversion (Integer k) (Integer j) = by (keeps_word k j)
    where
      by : (b : Bool) → Fits (if b then [] else instruction.Convert k ∷ [])
      by true = nothing
      by false = alone tt
  of_conversion (Integer k) (Handle tag) = nothing
  of_conversion (Integer k) Thread = nothing
  of_conversion (Handle tag) from = nothing
  of_conversion Thread from = nothing

  of_constant : (type : BareType) (n : Int) → Fits (constant_code type n ∷ [])
  of_constant (Integer k) n = alone tt
  of_constant (Handle tag) n = alone tt
  of_constant Thread n = alone tt

  of_converted : (to from : BareType) (n : Option Int) (code : Code) → Fits code → Fits (converted_code to from n code)
  of_converted to from (Some n) code h = of_constant to n
  of_converted to from None code h = both h (of_conversion to from)

  -- ---- places

  of_getting : (env : Environment) (p : Place) (n : ℕ) (is : Code) → IsPlaced look env p → First (getting env p n) is
  of_getting env (Local name) n is h = tt
  of_getting env (Global name) n is h = (h, tt)
  of_getting env (Element name index) n is h = (h.2, tt)
  of_getting env (Field tag handle name) n is h = (h.2, tt)

  of_setting : (env : Environment) (p : Place) (n : ℕ) → IsPlaced look env p → Fits (setting env p n)
  of_setting env (Local name) n h = before tt (alone tt)
  of_setting env (Global name) n h = alone (h, tt)
  of_setting env (Element name index) n h = alone (h.2, tt)
  of_setting env (Field tag handle name) n h = alone (h.2, tt)

  of_setting_only : (env : Environment) (p : Place) (n : ℕ) → IsPlaced look env p → Fits (setting_only env p n)
  of_setting_only env (Local name) n h = alone tt
  of_setting_only env (Global name) n h = before (h, tt) (alone tt)
  of_setting_only env (Element name index) n h = before (h.2, tt) (alone tt)
  of_setting_only env (Field tag handle name) n h = before (h.2, tt) (alone tt)

  of_copying : (p : Place) → Fits (copying p)
  of_copying p = by (has_part p)
    where
      by : (b : Bool) → Fits (if b then instruction.Copy ∷ [] else [])
      by true = alone tt
      by false = nothing

  of_tucking : (p : Place) (is : Code) → First (tucking p) is
  of_tucking p is = by (has_part p)
    where
      by : (b : Bool) → First (if b then instruction.CopyUnder else instruction.Copy) is
      by true = tt
      by false = tt

  of_swapping : (p : Place) → Fits (swapping p)
  of_swapping p = by (has_part p)
    where
      by : (b : Bool) → Fits (if b then instruction.Swap ∷ [] else [])
      by true = alone tt
      by false = nothing

  -- ---- expressions

  of_and : {a b : Code} → Fits a → Fits b → Fits (and_code a b)
  of_and h k = both (both h (before tt k)) (before tt (before tt (alone tt)))

  of_or : {a b : Code} → Fits a → Fits b → Fits (or_code a b)
  of_or h k = both (both h (before tt k)) (before tt (before tt (alone tt)))

  of_either : {a b : Code} → Fits a → Fits b → Fits (either JumpIfZero a b)
  of_either h k = before tt (both h (before tt k))

  counted : (env : Environment) (es : Expressions) → count es ≡ length (types_of look env es)
  counted env NoExpressions = refl
  counted env (ExpressionThen e es) = ap suc (counted env es)

  as_many : (env : Environment) (es : Expressions) (name : Bytes) → types_of look env es ≡ parameter_types (look name)
      → count es ≡ length (parameters_of (look name))
  as_many env es name h = counted env es ∙ ap length h ∙ length-map (parameters_of (look name)) (λ p. p.declared)

  mutual
    of_value : (env : Environment) (e : Expression) (n : ℕ) → IsTyped look env e → Fits (value look env e n)
    of_value env (Constant v) n h = alone tt
    of_value env (Read p) n h = both (of_parts env p n h) (alone (of_getting env p (n + size_parts p) [] h))
    of_value env (Unary op a) n h = both (of_value env a n h.0) (of_application op (type_of look env a))
    of_value env (Binary op a b) n h =
        both (both (of_value env a n h.0) (of_value env b (n + size a) h.1))
        (alone (of_combination op (type_of look env a) (type_of look env b) []))
    of_value env (Convert type a) n h =
        of_converted type (type_of look env a) (constant_of a) (value look env a n) (of_value env a n h.0)
    of_value env (And a b) n h = of_and (of_value env a n h.0) (of_value env b (n + size a) h.1)
    of_value env (Or a b) n h = of_or (of_value env a n h.0) (of_value env b (n + size a) h.1)
    of_value env (Choice c a b) n h =
        let m = n + size c in
        both (of_value env c n h.0) (of_either (of_value env a m h.1) (of_value env b (m + size a) h.2))
    of_value env (Assign p e) n h =
        let m = n + size_parts p in
        both (both (of_parts env p n h.0) (of_value env e m h.1)) (of_setting env p (m + size e) h.0)
    of_value env (Update type op p e) n h =
        let r = n + size_parts p in
        let m = r + size_read p in
        both
        (both
        (both (both (of_parts env p n h.0) (of_copying p)) (before (of_getting env p r (value look env e m) h.0) (of_value env e m h.1)))
        (before (of_combination op type (type_of look env e) _) (of_conversion type _)))
        (of_setting env p (m + size e) h.0)
    of_value env (Postfix type op p) n h =
        let r = n + size_parts p in
        both
        (both (both (of_parts env p n h.0) (of_copying p))
        (before (of_getting env p r _ h.0)
        (before (of_tucking p _) (before tt (before (of_combination op type (Integer I32) _) (of_conversion type _))))))
        (of_setting_only env p (r + size_read p) h.0)
    of_value env (Call name arguments) n h =
        both (of_values env arguments n h.0) (before ((h.1, as_many env arguments name h.2), refl) (alone tt))
    of_value env (Print format arguments) n h = both (of_values env arguments n h.0) (alone (tt, tt))
    of_value env (New tag) n h = alone (h, tt)
    of_value env (Free tag e) n h = both (of_value env e n h.0) (alone (tt, tt))
    of_value env (Create p name e) n h =
        let m = n + size_parts p in
        let s = m + size e in
        both
        (both (both (of_parts env p n h.0) (of_value env e m h.1)) (before (h.3.0, tt) (of_setting env p (s + 1) h.0)))
        (alone tt)
    of_value env (Join e) n h = both (of_value env e n h.0) (before (tt, tt) (before tt (alone tt)))
    of_value env (JoinInto e p) n h =
        let m = n + size e in
        let j = m + size_parts p in
        both
        (both (both (both (of_value env e n h.0) (of_parts env p m h.1)) (of_swapping p))
        (before (tt, tt) (of_setting_only env p (j + 1) h.1)))
        (alone tt)
    of_value env (InitMutex name) n h = alone (h, tt)
    of_value env (Lock name) n h = alone (h, tt)
    of_value env (Unlock name) n h = alone (h, tt)

    of_values : (env : Environment) (es : Expressions) (n : ℕ) → AreTyped look env es → Fits (values look env es n)
    of_values env NoExpressions n h = nothing
    of_values env (ExpressionThen e es) n h = both (of_value env e n h.0) (of_values env es (n + size e) h.1)

    of_parts : (env : Environment) (p : Place) (n : ℕ) → IsPlaced look env p → Fits (parts look env p n)
    of_parts env (Local name) n h = nothing
    of_parts env (Global name) n h = nothing
    of_parts env (Element name index) n h = of_value env index n h.0
    of_parts env (Field tag handle name) n h = of_value env handle n h.0

  dropped : (env : Environment) (e : Expression) (n : ℕ) → IsTyped look env e → Fits (value look env e n ++ instruction.Drop ∷ [])
  dropped env e n h = both (of_value env e n h) (alone tt)

  of_effect : (env : Environment) (e : Expression) (n : ℕ) → IsTyped look env e → Fits (effect look env e n)
  of_effect env (Assign p e) n h =
      let m = n + size_parts p in
      both (both (of_parts env p n h.0) (of_value env e m h.1)) (of_setting_only env p (m + size e) h.0)
  of_effect env (Update type op p e) n h =
      let r = n + size_parts p in
      let m = r + size_read p in
      both
      (both
      (both (both (of_parts env p n h.0) (of_copying p)) (before (of_getting env p r (value look env e m) h.0) (of_value env e m h.1)))
      (before (of_combination op type (type_of look env e) _) (of_conversion type _)))
      (of_setting_only env p (m + size e) h.0)
  of_effect env (Postfix type op (Local name)) n h =
      before tt (before tt (before (of_combination op type (Integer I32) _) (both (of_conversion type _) (alone tt))))
  of_effect env e n h = dropped env e n h

  of_effect_if : (env : Environment) (e : Option Expression) (n : ℕ) → TypedIf look env e → Fits (effect_if look env e n)
  of_effect_if env None n h = nothing
  of_effect_if env (Some e) n h = of_effect env e n h

  -- ---- statements

  inner_typed : (env : Environment) (c : Expression) → IsTyped look env c → TypedIf look env (negated c)
  inner_typed env (Unary Not a) h = h.0
  inner_typed env _ h = tt

  of_condition : (env : Environment) (c : Expression) (inner : Option Expression) (n : ℕ) → IsTyped look env c → TypedIf look env inner
      → Fits (condition_code look env c inner n)
  of_condition env c None n h k = of_value env c n h
  of_condition env c (Some a) n h k = of_value env a n k

  of_unless : (inner : Option Expression) (d : ℕ) (is : Code) → First (unless_jump inner d) is
  of_unless None d is = tt
  of_unless (Some a) d is = tt

  of_test : (env : Environment) (c : Expression) (n : ℕ) → IsTyped look env c → Fits (condition_code look env c (negated c) n)
  of_test env c n h = of_condition env c (negated c) n h (inner_typed env c h)

  of_guarded : (env : Environment) (c : Expression) (n : ℕ) (inside : Code) (further : ℕ) → IsTyped look env c → Fits inside
      → Fits (guarded look env c n inside further)
  of_guarded env c n inside further h k = both (of_test env c n h) (before (of_unless (negated c) (length inside + further) inside) k)

  of_guarded_if : (env : Environment) (c : Option Expression) (n : ℕ) (inside : Code) (further : ℕ) → ConditionIf look env c → Fits inside
      → Fits (guarded_if look env c n inside further)
  of_guarded_if env None n inside further h k = k
  of_guarded_if env (Some c) n inside further h k = of_guarded env c n inside further h.0 k

  of_turning : (env : Environment) (test : Option Expression) (n : ℕ) {body stepped : Code} (b : ℕ) → ConditionIf look env test → Fits body
      → Fits stepped → Fits (turning look env test n body stepped b)
  of_turning env test n {body} {stepped} b h k l =
      turned (IsUsed look) b (length (in_scope env)) (of_guarded_if env test n (body ++ stepped) 1 h (both k l))

  of_initial : (env : Environment) (type : BareType) (name : Bytes) (e : Option Expression) (n : ℕ) → InitialIf look env type e
      → Fits (initial look env type name e n)
  of_initial env type name None n h = before tt (alone tt)
  of_initial env type name (Some e) n h = before tt (before tt (both (of_value env e n h.0) (alone tt)))

  mutual
    of_statement : (result : BareType) (env : Environment) (s : Statement) (n b c : ℕ) → StatementTyped look result env s
        → Fits (statement look env s n b c)
    of_statement result env (Block ss) n b c h = of_statements result ([] ∷ env) ss n b c h
    of_statement result env Empty n b c h = nothing
    of_statement result env (Evaluate e) n b c h = of_effect env e n h
    of_statement result env (Declare type name e) n b c h = of_initial (with_variable type name env) type name e n h
    of_statement result env (If t s) n b c h =
        of_guarded env t n (statement look env s (n + size t) b c) 0 h.0.0 (of_statement result env s (n + size t) b c h.1)
    of_statement result env (IfElse t s r) n b c h =
        let m = n + size t in
        let other = statement look env r (m + size_stmt s) b c in
        let passed = suc (length other) in
        both (of_guarded env t n (statement look env s m (passed + b) (passed + c) ++ Jump (length other) ∷ []) 0 h.0.0
        (both (of_statement result env s m (passed + b) (passed + c) h.1) (alone tt)))
        (of_statement result env r (m + size_stmt s) b c h.2)
    of_statement result env (While t s) n b c h =
        let m = n + size t in
        of_turning env (Some t) n (m + size_stmt s + 0) h.0 (of_statement result env s m 1 0 h.1) nothing
    of_statement result env (DoWhile s t) n b c h =
        let m = n + size_stmt s in
        let test = condition_code look env t (negated t) m ++ unless_jump (negated t) 1 ∷ [] in
        turned (IsUsed look) (m + size t) (length (in_scope env))
        (both (of_statement result env s n (suc (length test)) 0 h.1) (both (of_test env t m h.0.0) (alone (of_unless (negated t) 1 []))))
    of_statement result env (For first test step s) n b c h =
        let inner = declare_all first ([] ∷ env) in
        let t = n + size_stmts first in
        let m = t + size_if test in
        let p = m + size_stmt s in
        let stepped = effect_if look inner step p in
        let turns = turning look inner test t (statement look inner s m (suc (length stepped)) 0) stepped (p + size_if step) in
        both (of_statements result ([] ∷ env) first n (length turns + b) (length turns + c) h.0)
        (of_turning inner test t (p + size_if step) h.1 (of_statement result inner s m (suc (length stepped)) 0 h.3) (of_effect_if inner step p h.2))
    of_statement result env Break n b c h = alone tt
    of_statement result env Continue n b c h = alone tt
    of_statement result env (Return e) n b c h = both (of_value env e n h.0) (alone (tt, tt))
    of_statement result env UpdatePoint n b c h = before (tt, refl) (alone tt)
    of_statement result env (Transaction ss) n b c h =
        before (tt, refl)
        (before tt (both (of_statements result ([] ∷ env) ss (n + 2) (2 + b) (2 + c) h) (before (tt, refl) (alone tt))))

    of_statements : (result : BareType) (env : Environment) (ss : Statements) (n b c : ℕ) → StatementsTyped look result env ss
        → Fits (statements look env ss n b c)
    of_statements result env NoStatements n b c h = nothing
    of_statements result env (StatementThen s ss) n b c h =
        let rest = statements look (declares s env) ss (n + size_stmt s) b c in
        both (of_statement result env s n (length rest + b) (length rest + c) h.0)
        (of_statements result (declares s env) ss (n + size_stmt s) b c h.1)

  pub typed_code_fits : (parameters : List BareBinding) (result : BareType) (body : Statements)
      → StatementsTyped look result (parameters ∷ []) body → CodeFits (IsUsed look) (body_code look parameters result body)
  typed_code_fits parameters result body h =
      code_fits (IsUsed look) (body_code look parameters result body)
      (before tt (both (of_statements result (parameters ∷ []) body 1 0 0 h) (before tt (alone (tt, tt)))))
