-- The code of an expression goes along its skeleton.
use Rattle.std.proofs.Common.{◌≡◌, ◌≢◌, ℕ, suc, ◌+◌, Bool, true, false, [], ◌∷◌, ◌++◌, length, Option, Some, None, inl, inr, refl, subst, ap, sym, ◌∙◌, append_assoc}
use Rattle.std.specs.Prelude.{◌⊎◌, if◌then◌else◌}
use Rattle.c_ints.specs.declared.int.Int.{Int}
use Rattle.c_ints.specs.declared.operator.BinOp.{BinOp}
use Rattle.c_ints.specs.declared.operator.BinOp.TheVariants as binary
use Rattle.c_ints.specs.declared.operator.UnOp.{UnOp}
use Rattle.c_ints.specs.declared.operator.UnOp.TheVariants as unary
use Rattle.c_ints.specs.declared.kind.Kind.{Kind}
use Rattle.c_ints.specs.declared.kind.Kind.TheVariants.{I32}
use Rattle.run_types.specs.CheckIns as check_in
use Rattle.c_tree.specs.BareExpr.{Bytes, BareType, Integer, Handle, Thread}
use Rattle.c_semantics.specs.Texts.{Definitions}
use Rattle.c_semantics.specs.Resolved.{Expression, Expressions, Place, Constant, Read, Unary, Binary, Convert, And, Or, Choice, Assign, Update, Postfix, Call, Print, New, Free, Create, Join, JoinInto, InitMutex, Lock, Unlock, NoExpressions, ExpressionThen, Local, Global, Element, Field}
use Rattle.c_semantics.specs.Points.{size, size_all, size_parts, size_read}
use Rattle.c_semantics.specs.Skeletons.{Part, access, expression, expressions, expression_if, parts, pass, point, ◌then_part◌}
use Rattle.c_semantics.specs.Stops as stop
use Rattle.c_semantics.specs.Evaluation.{count}
use Rattle.typed_trees.specs.ValueTypes.{Environment}
use Rattle.typed_trees.specs.ExpressionTypes.{type_of}
use Rattle.bytecode.specs.Instructions.{Instruction, Load, Store, Copy, Swap, Drop, IsZero, IsNotZero, Jump, JumpIfZero, JumpUnlessZero, Halt}
use Rattle.bytecode.specs.Instructions as instruction
use Rattle.tree_code.specs.Code.{Code, application, combination, comparison, condition_code, constant_code, constant_of, conversion, converted_code, copying, effect, effect_if, getting, initial, int_code, keeps_word, negated, number_code, result_of, setting, setting_only, slot, swapping, tucking, value, values, zero_code}
use Rattle.tree_code.specs.Code as made
use Rattle.code_points.proofs.Exact.{Does, Private, never}
use Rattle.code_points.proofs.Going.{and_side, and_then, check_point, nothing, one_of, one_then, or_side, recoded, stop_point, then_pass}

-- ---- instructions

-- whether a stop is a return
abbrev pub returns : stop.Stop → Bool
returns stop.Return = true
returns s = false

pub no_return : (s : stop.Stop) → returns s ≡ false → s ≢ stop.Return
no_return s e h = never (sym e ∙ ap returns h)

constant_private : (t : BareType) (v : Int) → Private (constant_code t v)
constant_private (Integer k) v = record { none = refl; near = refl; on = refl }
constant_private (Handle tag) v = record { none = refl; near = refl; on = refl }
constant_private Thread v = record { none = refl; near = refl; on = refl }

comparison_private : (op : BinOp) → Private (comparison op)
comparison_private binary.Eq = record { none = refl; near = refl; on = refl }
comparison_private op = record { none = refl; near = refl; on = refl }

combination_private : (op : BinOp) (a b : BareType) → Private (combination op a b)
combination_private op (Integer k) b = record { none = refl; near = refl; on = refl }
combination_private op (Handle tag) b = comparison_private op
combination_private op Thread b = record { none = refl; near = refl; on = refl }

tucking_private : (p : Place) → Private (tucking p)
tucking_private (Local name) = record { none = refl; near = refl; on = refl }
tucking_private (Global name) = record { none = refl; near = refl; on = refl }
tucking_private (Element name index) = record { none = refl; near = refl; on = refl }
tucking_private (Field tag handle name) = record { none = refl; near = refl; on = refl }

-- a constant has no points; what is no constant has its code
constant_or_none : (e : Expression) (n : ℕ) → (expression e n ≡ pass) ⊎ (constant_of e ≡ None)
constant_or_none (Constant v) n = inl refl
constant_or_none e n = inr refl

-- ---- the order of parts of code

updating : (p c : Code) (g : Instruction) (v k s : Code) → p ++ c ++ (g ∷ (v ++ k ++ s)) ≡ p ++ c ++ g ∷ v ++ k ++ s
updating p c g v k s = simp append_assoc refl

creating : (p v : Code) (h : Instruction) (s z : Code) → p ++ (v ++ h ∷ (s ++ z)) ≡ p ++ v ++ h ∷ s ++ z
creating p v h s z = simp append_assoc refl

joining : (v p w : Code) (h : Instruction) (s z : Code) → v ++ (p ++ w ++ h ∷ (s ++ z)) ≡ v ++ p ++ w ++ h ∷ s ++ z
joining v p w h s z = simp append_assoc refl

module _ (code : Code) where
  pub quiet_one : (i : Instruction) → Private i → Does code (i ∷ []) pass
  quiet_one i k = one_then code i k (nothing code)

  stops : (s : stop.Stop) (n : ℕ) → returns s ≡ false → Does code (Halt s n ∷ []) (point n)
  stops s n e = stop_point code s n (no_return s e)

  converts_quietly : (b : Bool) (k : Kind) → Does code (if b then [] else instruction.Convert k ∷ []) pass
  converts_quietly true k = nothing code
  converts_quietly false k = quiet_one (instruction.Convert k) (record { none = refl; near = refl; on = refl })

  conversion_quiet : (to from : BareType) → Does code (conversion to from) pass
  conversion_quiet (Integer k) (Integer j) = converts_quietly (keeps_word k j) k
  conversion_quiet (Integer k) (Handle tag) = nothing code
  conversion_quiet (Integer k) Thread = nothing code
  conversion_quiet (Handle tag) from = nothing code
  conversion_quiet Thread from = nothing code

  application_quiet : (op : UnOp) (t : BareType) → Does code (application op t) pass
  application_quiet unary.Plus t = nothing code
  application_quiet unary.Not t = quiet_one IsZero (record { none = refl; near = refl; on = refl })
  application_quiet op t = quiet_one _ (record { none = refl; near = refl; on = refl })

  copying_quiet : (p : Place) → Does code (copying p) pass
  copying_quiet (Local name) = nothing code
  copying_quiet (Global name) = nothing code
  copying_quiet (Element name index) = quiet_one Copy (record { none = refl; near = refl; on = refl })
  copying_quiet (Field tag handle name) = quiet_one Copy (record { none = refl; near = refl; on = refl })

  swapping_quiet : (p : Place) → Does code (swapping p) pass
  swapping_quiet (Local name) = nothing code
  swapping_quiet (Global name) = nothing code
  swapping_quiet (Element name index) = quiet_one Swap (record { none = refl; near = refl; on = refl })
  swapping_quiet (Field tag handle name) = quiet_one Swap (record { none = refl; near = refl; on = refl })

  int_private : (n : ℕ) → Private (int_code n)
  int_private n = record { none = refl; near = refl; on = refl }

  dropped : Does code (Drop ∷ []) pass
  dropped = quiet_one Drop (record { none = refl; near = refl; on = refl })

  -- ---- places

  getting_along : (env : Environment) (p : Place) (n : ℕ) → Does code (getting env p n ∷ []) (access p n)
  getting_along env (Local name) n = quiet_one (Load (slot env name)) (record { none = refl; near = refl; on = refl })
  getting_along env (Global name) n = stops (stop.ReadGlobal name) n refl
  getting_along env (Element name index) n = stops (stop.ReadElement name) n refl
  getting_along env (Field tag handle name) n = stops (stop.ReadField tag name) n refl

  pub store_quiet : (env : Environment) (name : Bytes) → Does code (Store (slot env name) ∷ []) pass
  store_quiet env name = quiet_one (Store (slot env name)) (record { none = refl; near = refl; on = refl })

  setting_along : (env : Environment) (p : Place) (n : ℕ) → Does code (setting env p n) (access p n)
  setting_along env (Local name) n = one_then code Copy (record { none = refl; near = refl; on = refl }) (store_quiet env name)
  setting_along env (Global name) n = stops (stop.WriteGlobal name) n refl
  setting_along env (Element name index) n = stops (stop.WriteElement name) n refl
  setting_along env (Field tag handle name) n = stops (stop.WriteField tag name) n refl

  setting_only_along : (env : Environment) (p : Place) (n : ℕ) → Does code (setting_only env p n) (access p n)
  setting_only_along env (Local name) n = store_quiet env name
  setting_only_along env p n = then_pass code (setting_along env p n) dropped

  -- ---- values

  converted_constant : {a : Code} {f : Part} (to from : BareType) (o : Option Int) → f ≡ pass → Does code a f
      → Does code (converted_code to from o a) f
  converted_constant to from None e d = then_pass code d (conversion_quiet to from)
  converted_constant {a} {f} to from (Some v) e d =
      subst (λ g. Does code (constant_code to v ∷ []) g) (sym e) (quiet_one (constant_code to v) (constant_private to v))

  converted_along : {a : Code} {f : Part} (to from : BareType) (o : Option Int) → (f ≡ pass) ⊎ (o ≡ None) → Does code a f
      → Does code (converted_code to from o a) f
  converted_along to from o (inl e) d = converted_constant to from o e d
  converted_along {a} {f} to from o (inr e) d =
      subst (λ x. Does code (converted_code to from x a) f) (sym e) (then_pass code d (conversion_quiet to from))

  changed_quiet : (op : BinOp) (type from : BareType) → Does code (combination op type from ∷ conversion type (result_of op type from)) pass
  changed_quiet op type from =
      one_then code (combination op type from) (combination_private op type from) (conversion_quiet type (result_of op type from))

  module _ (look : Definitions) where
    -- `p op= e`, from its parts and the write
    updated_along : (env : Environment) (type : BareType) (op : BinOp) (p : Place) (e : Expression) (n : ℕ) {write : Code} {w : Part}
        → let r = n + size_parts p in
        let m = r + size_read p in
        Does code (made.parts look env p n) (parts p n) → Does code (value look env e m) (expression e m) → Does code write w
        → Does code (made.parts look env p n ++ copying p ++ getting env p r ∷ value look env e m
        ++ combination op type (type_of look env e) ∷ conversion type (result_of op type (type_of look env e)) ++ write)
        (parts p n then_part access p r then_part expression e m then_part w)
    updated_along env type op p e n {write} {w} d f g =
        let r = n + size_parts p in
        let m = r + size_read p in
        let t = type_of look env e in
        let change = combination op type t ∷ conversion type (result_of op type t) in
        recoded code (updating (made.parts look env p n) (copying p) (getting env p r) (value look env e m) change write)
        (and_then code (then_pass code d (copying_quiet p))
        (and_then code (getting_along env p r) (and_then code (then_pass code f (changed_quiet op type t)) g)))

    mutual
      pub value_along : (env : Environment) (e : Expression) (n : ℕ) → Does code (value look env e n) (expression e n)
      value_along env (Constant v) n = quiet_one (number_code v) (record { none = refl; near = refl; on = refl })
      value_along env (Read p) n = and_then code (part_along env p n) (getting_along env p _)
      value_along env (Unary op a) n = then_pass code (value_along env a n) (application_quiet op (type_of look env a))
      value_along env (Binary op a b) n =
          let ta = type_of look env a in
          let tb = type_of look env b in
          then_pass code (and_then code (value_along env a n) (value_along env b _))
          (quiet_one (combination op ta tb) (combination_private op ta tb))
      value_along env (Convert type a) n =
          converted_along type (type_of look env a) (constant_of a) (constant_or_none a n) (value_along env a n)
      value_along env (And a b) n =
          let y = value look env b (n + size a) in
          recoded code (sym (append_assoc (value look env a n) (JumpIfZero (length y + 2) ∷ y) (IsNotZero ∷ Jump 1 ∷ int_code 0 ∷ [])))
          (and_then code (value_along env a n) (and_side code (value_along env b _)))
      value_along env (Or a b) n =
          let y = value look env b (n + size a) in
          recoded code (sym (append_assoc (value look env a n) (JumpUnlessZero (length y + 2) ∷ y) (IsNotZero ∷ Jump 1 ∷ int_code 1 ∷ [])))
          (and_then code (value_along env a n) (or_side code (value_along env b _)))
      value_along env (Choice c a b) n =
          let m = n + size c in
          and_then code (value_along env c n) (one_of code (value_along env a m) (value_along env b (m + size a)))
      value_along env (Assign p e) n =
          let m = n + size_parts p in
          recoded code (sym (append_assoc (made.parts look env p n) (value look env e m) (setting env p (m + size e))))
          (and_then code (part_along env p n) (and_then code (value_along env e m) (setting_along env p _)))
      value_along env (Update type op p e) n =
          updated_along env type op p e n (part_along env p n) (value_along env e _) (setting_along env p _)
      value_along env (Postfix type op p) n =
          let r = n + size_parts p in
          let t = Integer I32 in
          let change = tucking p ∷ int_code 1 ∷ combination op type t ∷ conversion type (result_of op type t) in
          recoded code (sym (append_assoc (made.parts look env p n ++ copying p) (getting env p r ∷ change) (setting_only env p (r + size_read p))))
          (and_then code (then_pass code (part_along env p n) (copying_quiet p))
          (and_then code (then_pass code (getting_along env p r)
          (one_then code (tucking p) (tucking_private p) (one_then code (int_code 1) (int_private 1) (changed_quiet op type t))))
          (setting_only_along env p _)))
      value_along env (Call name arguments) n =
          let m = n + size_all arguments in
          and_then code (values_along env arguments n)
          (and_then code (stops (stop.Call name (count arguments)) m refl) (check_point code check_in.Call (suc m)))
      value_along env (Print format arguments) n =
          and_then code (values_along env arguments n) (stops (stop.Print format (count arguments)) _ refl)
      value_along env (New tag) n = stops (stop.New tag) n refl
      value_along env (Free tag e) n = and_then code (value_along env e n) (stops (stop.Free tag) _ refl)
      value_along env (Create p name e) n =
          let m = n + size_parts p in
          let s = m + size e in
          recoded code (creating (made.parts look env p n) (value look env e m) (Halt (stop.Spawn name) s) (setting env p (s + 1)) (IsZero ∷ []))
          (and_then code (part_along env p n) (and_then code (value_along env e m)
          (and_then code (stops (stop.Spawn name) s refl) (then_pass code (setting_along env p (s + 1))
          (quiet_one IsZero (record { none = refl; near = refl; on = refl }))))))
      value_along env (Join e) n =
          and_then code (value_along env e n) (then_pass code (stops stop.Join _ refl)
          (one_then code Drop (record { none = refl; near = refl; on = refl }) (quiet_one (int_code 0) (int_private 0))))
      value_along env (JoinInto e p) n =
          let m = n + size e in
          let j = m + size_parts p in
          recoded code (joining (value look env e n) (made.parts look env p m) (swapping p) (Halt stop.Join j) (setting_only env p (j + 1)) (int_code 0 ∷ []))
          (and_then code (value_along env e n) (and_then code (then_pass code (part_along env p m) (swapping_quiet p))
          (and_then code (stops stop.Join j refl) (then_pass code (setting_only_along env p (j + 1)) (quiet_one (int_code 0) (int_private 0))))))
      value_along env (InitMutex name) n = stops (stop.InitMutex name) n refl
      value_along env (Lock name) n = stops (stop.Lock name) n refl
      value_along env (Unlock name) n = stops (stop.Unlock name) n refl

      values_along : (env : Environment) (es : Expressions) (n : ℕ) → Does code (values look env es n) (expressions es n)
      values_along env NoExpressions n = nothing code
      values_along env (ExpressionThen e es) n = and_then code (value_along env e n) (values_along env es _)

      part_along : (env : Environment) (p : Place) (n : ℕ) → Does code (made.parts look env p n) (parts p n)
      part_along env (Local name) n = nothing code
      part_along env (Global name) n = nothing code
      part_along env (Element name index) n = value_along env index n
      part_along env (Field tag handle name) n = value_along env handle n

    -- an expression whose value is dropped
    pub effect_along : (env : Environment) (e : Expression) (n : ℕ) → Does code (effect look env e n) (expression e n)
    effect_along env (Assign p e) n =
        let m = n + size_parts p in
        recoded code (sym (append_assoc (made.parts look env p n) (value look env e m) (setting_only env p (m + size e))))
        (and_then code (part_along env p n) (and_then code (value_along env e m) (setting_only_along env p _)))
    effect_along env (Update type op p e) n =
        updated_along env type op p e n (part_along env p n) (value_along env e _) (setting_only_along env p _)
    effect_along env (Postfix type op (Local name)) n =
        then_pass code (one_then code (Load (slot env name)) (record { none = refl; near = refl; on = refl })
        (one_then code (int_code 1) (int_private 1) (changed_quiet op type (Integer I32)))) (store_quiet env name)
    effect_along env e n = then_pass code (value_along env e n) dropped

    pub effect_if_along : (env : Environment) (e : Option Expression) (n : ℕ) → Does code (effect_if look env e n) (expression_if e n)
    effect_if_along env None n = nothing code
    effect_if_along env (Some e) n = effect_along env e n

    -- the first value of a variable
    pub initial_along : (env : Environment) (type : BareType) (name : Bytes) (e : Option Expression) (n : ℕ)
        → Does code (initial look env type name e n) (expression_if e n)
    initial_along env type name None n =
        one_then code (zero_code type) (record { none = refl; near = refl; on = refl }) (store_quiet env name)
    initial_along env type name (Some e) n =
        one_then code (zero_code type) (record { none = refl; near = refl; on = refl })
        (one_then code (Store (slot env name)) (record { none = refl; near = refl; on = refl })
        (then_pass code (value_along env e n) (store_quiet env name)))

    -- a condition, without the `!` before it
    pub condition_along : (env : Environment) (e : Expression) (n : ℕ)
        → Does code (condition_code look env e (negated e) n) (expression e n)
    condition_along env (Unary unary.Not a) n = value_along env a n
    condition_along env e n = value_along env e n
