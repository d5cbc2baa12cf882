-- The points of an expression's code.
use Rattle.std.proofs.Common.{◌≡◌, ℕ, suc, ◌+◌, Bool, true, false, List, [], ◌∷◌, ◌++◌, length, Option, Some, None, inl, inr, refl, subst, ap, sym, arith}
use Rattle.std.specs.Prelude.{◌⊎◌, if◌then◌else◌}
use Rattle.c_ints.specs.declared.int.Int.{Int}
use Rattle.c_ints.specs.declared.operator.BinOp.{BinOp}
use Rattle.c_ints.specs.declared.operator.BinOp.TheVariants as binary
use Rattle.c_ints.specs.declared.operator.UnOp.{UnOp}
use Rattle.c_ints.specs.declared.operator.UnOp.TheVariants as unary
use Rattle.c_ints.specs.declared.kind.Kind.{Kind}
use Rattle.c_ints.specs.declared.kind.Kind.TheVariants.{I32}
use Rattle.run_types.specs.Skeleton.{PointKind, depth_after}
use Rattle.run_types.specs.Skeleton as kind
use Rattle.run_types.specs.CheckIns as check_in
use Rattle.c_tree.specs.BareExpr.{BareType, Integer, Handle, Thread}
use Rattle.c_semantics.specs.Texts.{Definitions}
use Rattle.c_semantics.specs.Resolved.{Expression, Expressions, Place, Constant, Read, Unary, Binary, Convert, And, Or, Choice, Assign, Update, Postfix, Call, Print, New, Free, Create, Join, JoinInto, InitMutex, Lock, Unlock, NoExpressions, ExpressionThen, Local, Global, Element, Field}
use Rattle.c_semantics.specs.Points.{of_expression, of_expressions, of_parts, reads, writes, size, size_all, size_parts, size_read}
use Rattle.c_semantics.specs.Stops as stop
use Rattle.c_semantics.specs.Evaluation.{count}
use Rattle.typed_trees.specs.ValueTypes.{Environment}
use Rattle.typed_trees.specs.ExpressionTypes.{type_of}
use Rattle.bytecode.specs.Instructions.{Instruction, Load, Store, Copy, Swap, Drop, IsZero, IsNotZero, Jump, JumpIfZero, JumpUnlessZero, Halt, CheckIn}
use Rattle.bytecode.specs.Instructions as instruction
use Rattle.tree_code.specs.Code.{Code, application, combination, comparison, condition_code, constant_code, constant_of, conversion, converted_code, copying, effect, getting, int_code, keeps_word, negated, number_code, result_of, setting, setting_only, slot, swapping, tucking, unless_jump, value, values, parts}
use Rattle.code_points.specs.CodePoints.{point_of}
use Rattle.code_points.proofs.Parts.{Kinds, Quiet, and_then, apart, nothing, point_then, private, quiet_then, then_quiet, whole}

-- ---- instructions that are no points

-- one such instruction
alone : (i : Instruction) → point_of i ≡ None → Quiet (i ∷ [])
alone i e = quiet_then i e nothing

truth_quiet : {i : ℕ} → Quiet (IsNotZero ∷ Jump 1 ∷ int_code i ∷ [])
truth_quiet {i} = quiet_then IsNotZero refl (quiet_then (Jump 1) refl (alone (int_code i) refl))

-- one stop that leaves the depth as it is
stop_point : (s : stop.Stop) (n : ℕ) → ((d : ℕ) → depth_after (stop.kind_of s) d ≡ d) → Kinds n (Halt s n ∷ []) (stop.kind_of s ∷ []) (suc n)
stop_point s n flat = point_then (Halt s n) (stop.kind_of s) refl flat (nothing (suc n))

pub constant_is_none : (t : BareType) (v : Int) → point_of (constant_code t v) ≡ None
constant_is_none (Integer k) v = refl
constant_is_none (Handle tag) v = refl
constant_is_none Thread v = refl

comparison_is_none : (op : BinOp) → point_of (comparison op) ≡ None
comparison_is_none binary.Eq = refl
comparison_is_none op = refl

pub combination_is_none : (op : BinOp) (a b : BareType) → point_of (combination op a b) ≡ None
combination_is_none op (Integer k) b = refl
combination_is_none op (Handle tag) b = comparison_is_none op
combination_is_none op Thread b = refl

tucking_is_none : (p : Place) → point_of (tucking p) ≡ None
tucking_is_none (Local name) = refl
tucking_is_none (Global name) = refl
tucking_is_none (Element name index) = refl
tucking_is_none (Field tag handle name) = refl

pub unless_is_none : (o : Option Expression) (d : ℕ) → point_of (unless_jump o d) ≡ None
unless_is_none None d = refl
unless_is_none (Some a) d = refl

converts_quietly : (b : Bool) (k : Kind) → Quiet (if b then [] else instruction.Convert k ∷ [])
converts_quietly true k = nothing
converts_quietly false k = alone (instruction.Convert k) refl

pub conversion_quiet : (to from : BareType) → Quiet (conversion to from)
conversion_quiet (Integer k) (Integer j) = converts_quietly (keeps_word k j) k
conversion_quiet (Integer k) (Handle tag) = nothing
conversion_quiet (Integer k) Thread = nothing
conversion_quiet (Handle tag) from = nothing
conversion_quiet Thread from = nothing

application_quiet : (op : UnOp) (t : BareType) → Quiet (application op t)
application_quiet unary.Plus t = nothing
application_quiet unary.Not t = alone IsZero refl
application_quiet op t = alone _ refl

copying_quiet : (p : Place) → Quiet (copying p)
copying_quiet (Local name) = nothing
copying_quiet (Global name) = nothing
copying_quiet (Element name index) = alone Copy refl
copying_quiet (Field tag handle name) = alone Copy refl

swapping_quiet : (p : Place) → Quiet (swapping p)
swapping_quiet (Local name) = nothing
swapping_quiet (Global name) = nothing
swapping_quiet (Element name index) = alone Swap refl
swapping_quiet (Field tag handle name) = alone Swap refl

-- a constant has no points; what is no constant has its code
constant_or_none : (e : Expression) → (of_expression e ≡ []) ⊎ (constant_of e ≡ None)
constant_or_none (Constant v) = inl refl
constant_or_none e = inr refl

-- ---- places

getting_points : (env : Environment) (p : Place) (n : ℕ) → Kinds n (getting env p n ∷ []) (reads p) (n + size_read p)
getting_points env (Local name) n = whole (alone (Load (slot env name)) refl n)
getting_points env (Global name) n = whole (stop_point (stop.ReadGlobal name) n (λ d. refl))
getting_points env (Element name index) n = whole (stop_point (stop.ReadElement name) n (λ d. refl))
getting_points env (Field tag handle name) n = whole (stop_point (stop.ReadField tag name) n (λ d. refl))

setting_points : (env : Environment) (p : Place) (n : ℕ) → Kinds n (setting env p n) (writes p) (n + length (writes p))
setting_points env (Local name) n = whole (quiet_then Copy refl (alone (Store (slot env name)) refl) n)
setting_points env (Global name) n = whole (stop_point (stop.WriteGlobal name) n (λ d. refl))
setting_points env (Element name index) n = whole (stop_point (stop.WriteElement name) n (λ d. refl))
setting_points env (Field tag handle name) n = whole (stop_point (stop.WriteField tag name) n (λ d. refl))

setting_only_points : (env : Environment) (p : Place) (n : ℕ) → Kinds n (setting_only env p n) (writes p) (n + length (writes p))
setting_only_points env (Local name) n = whole (alone (Store (slot env name)) refl n)
setting_only_points env p n = then_quiet (Drop ∷ []) (alone Drop refl) (setting_points env p n)

-- the same, behind the point s
after_point : (s : ℕ) → suc s ≡ s + 1
after_point s = omega arith

setting_behind : (env : Environment) (p : Place) (s : ℕ) → Kinds (suc s) (setting env p (s + 1)) (writes p) (suc s + length (writes p))
setting_behind env p s =
    subst (λ x. Kinds (suc s) (setting env p x) (writes p) (suc s + length (writes p))) (after_point s) (setting_points env p (suc s))

setting_only_behind : (env : Environment) (p : Place) (s : ℕ)
    → Kinds (suc s) (setting_only env p (s + 1)) (writes p) (suc s + length (writes p))
setting_only_behind env p s =
    subst (λ x. Kinds (suc s) (setting_only env p x) (writes p) (suc s + length (writes p))) (after_point s) (setting_only_points env p (suc s))

-- ---- values

none_of : {n m : ℕ} {a : Code} {ks : List PointKind} → ks ≡ [] → Kinds n a ks m → n ≡ m
none_of {n} {m} {a} {ks} e f = from (length ks) (ap length e) f.ends
  where
    from : (x : ℕ) → x ≡ 0 → m ≡ n + x → n ≡ m
    from x p q = omega (arith, p, q)

converted_constant : {n m : ℕ} {a : Code} {ks : List PointKind} (to from : BareType) (o : Option Int) → ks ≡ [] → Kinds n a ks m
    → Kinds n (converted_code to from o a) ks m
converted_constant to from None e f = then_quiet (conversion to from) (conversion_quiet to from) f
converted_constant {n} {m} {a} {ks} to from (Some v) e f =
    let i = constant_code to v ∷ [] in
    subst (λ x. Kinds n i x m) (sym e) (subst (λ x. Kinds n i [] x) (none_of e f) (alone (constant_code to v) (constant_is_none to v) n))

converted_points : {n m : ℕ} {a : Code} {ks : List PointKind} (to from : BareType) (o : Option Int) → (ks ≡ []) ⊎ (o ≡ None)
    → Kinds n a ks m → Kinds n (converted_code to from o a) ks m
converted_points to from o (inl e) f = converted_constant to from o e f
converted_points {n} {m} {a} {ks} to from o (inr e) f =
    subst (λ x. Kinds n (converted_code to from x a) ks m) (sym e) (then_quiet (conversion to from) (conversion_quiet to from) f)

-- a value of an operator, converted to the type of its place
changed_quiet : (op : BinOp) (type from : BareType) → Quiet (combination op type from ∷ conversion type (result_of op type from))
changed_quiet op type from =
    quiet_then (combination op type from) (combination_is_none op type from) (conversion_quiet type (result_of op type from))

module _ (look : Definitions) where
  -- `p op= e` up to the write, from the points of its parts
  updated_points : (env : Environment) (type : BareType) (op : BinOp) (p : Place) (e : Expression) (n : ℕ)
      → let r = n + size_parts p in
      let m = r + size_read p in
      Kinds n (parts look env p n) (of_parts p) r → Kinds m (value look env e m) (of_expression e) (m + size e)
      → Kinds n (parts look env p n ++ copying p ++ getting env p r ∷ value look env e m
      ++ combination op type (type_of look env e) ∷ conversion type (result_of op type (type_of look env e)))
      (of_parts p ++ reads p ++ of_expression e) (m + size e)
  updated_points env type op p e n f g =
      let r = n + size_parts p in
      let m = r + size_read p in
      let t = type_of look env e in
      then_quiet (combination op type t ∷ conversion type (result_of op type t)) (changed_quiet op type t)
      (apart (parts look env p n ++ copying p) (getting env p r ∷ []) (value look env e m)
      (and_then (and_then (then_quiet (copying p) (copying_quiet p) f) (getting_points env p r)) g))

  mutual
    pub value_points : (env : Environment) (e : Expression) (n : ℕ) → Kinds n (value look env e n) (of_expression e) (n + size e)
    value_points env (Constant v) n = whole (alone (number_code v) refl n)
    value_points env (Read p) n = whole (and_then (part_points env p n) (getting_points env p _))
    value_points env (Unary op a) n =
        then_quiet (application op (type_of look env a)) (application_quiet op (type_of look env a)) (value_points env a n)
    value_points env (Binary op a b) n =
        let i = combination op (type_of look env a) (type_of look env b) in
        let none = combination_is_none op (type_of look env a) (type_of look env b) in
        whole (then_quiet (i ∷ []) (alone i none) (and_then (value_points env a n) (value_points env b _)))
    value_points env (Convert type a) n =
        converted_points type (type_of look env a) (constant_of a) (constant_or_none a) (value_points env a n)
    value_points env (And a b) n =
        whole (then_quiet (IsNotZero ∷ Jump 1 ∷ int_code 0 ∷ []) truth_quiet
        (and_then (value_points env a n) (private (JumpIfZero _) refl (value_points env b _))))
    value_points env (Or a b) n =
        whole (then_quiet (IsNotZero ∷ Jump 1 ∷ int_code 1 ∷ []) truth_quiet
        (and_then (value_points env a n) (private (JumpUnlessZero _) refl (value_points env b _))))
    value_points env (Choice c a b) n =
        let m = n + size c in
        let x = JumpIfZero (suc (length (value look env a m))) ∷ value look env a m in
        let y = Jump (length (value look env b (m + size a))) ∷ value look env b (m + size a) in
        whole (apart (value look env c n) x y
        (and_then (and_then (value_points env c n) (private (JumpIfZero _) refl (value_points env a m)))
        (private (Jump _) refl (value_points env b _))))
    value_points env (Assign p e) n =
        whole (and_then (and_then (part_points env p n) (value_points env e _)) (setting_points env p _))
    value_points env (Update type op p e) n = whole (and_then (updated_points env type op p e n (part_points env p n) (value_points env e _)) (setting_points env p _))
    value_points env (Postfix type op p) n =
        let r = n + size_parts p in
        let behind = tucking p ∷ int_code 1 ∷ combination op type (Integer I32) ∷ conversion type (result_of op type (Integer I32)) in
        let quiet = quiet_then (tucking p) (tucking_is_none p) (quiet_then (int_code 1) refl (changed_quiet op type (Integer I32))) in
        whole (and_then (apart (parts look env p n ++ copying p) (getting env p r ∷ []) behind
        (then_quiet behind quiet (and_then (then_quiet (copying p) (copying_quiet p) (part_points env p n)) (getting_points env p r))))
        (setting_only_points env p _))
    value_points env (Call name arguments) n =
        let m = n + size_all arguments in
        whole (and_then (values_points env arguments n)
        (point_then (Halt (stop.Call name (count arguments)) m) (kind.Call name) refl (λ d. refl)
        (point_then (CheckIn check_in.Call (suc m)) (kind.CheckIn check_in.Call) refl (λ d. refl) (nothing _))))
    value_points env (Print format arguments) n =
        whole (and_then (values_points env arguments n) (stop_point (stop.Print format (count arguments)) _ (λ d. refl)))
    value_points env (New tag) n = whole (stop_point (stop.New tag) n (λ d. refl))
    value_points env (Free tag e) n = whole (and_then (value_points env e n) (stop_point (stop.Free tag) _ (λ d. refl)))
    value_points env (Create p name e) n =
        let s = n + size_parts p + size e in
        whole (then_quiet (IsZero ∷ []) (alone IsZero refl)
        (and_then (and_then (part_points env p n) (value_points env e _))
        (point_then (Halt (stop.Spawn name) s) (kind.Spawn name) refl (λ d. refl) (setting_behind env p s))))
    value_points env (Join e) n =
        whole (and_then (value_points env e n)
        (point_then (Halt stop.Join _) kind.Join refl (λ d. refl) (quiet_then Drop refl (alone (int_code 0) refl) _)))
    value_points env (JoinInto e p) n =
        let j = n + size e + size_parts p in
        whole (then_quiet (int_code 0 ∷ []) (alone (int_code 0) refl)
        (and_then (then_quiet (swapping p) (swapping_quiet p) (and_then (value_points env e n) (part_points env p _)))
        (point_then (Halt stop.Join j) kind.Join refl (λ d. refl) (setting_only_behind env p j))))
    value_points env (InitMutex name) n = whole (stop_point (stop.InitMutex name) n (λ d. refl))
    value_points env (Lock name) n = whole (stop_point (stop.Lock name) n (λ d. refl))
    value_points env (Unlock name) n = whole (stop_point (stop.Unlock name) n (λ d. refl))

    values_points : (env : Environment) (es : Expressions) (n : ℕ) → Kinds n (values look env es n) (of_expressions es) (n + size_all es)
    values_points env NoExpressions n = whole (nothing n)
    values_points env (ExpressionThen e es) n = whole (and_then (value_points env e n) (values_points env es _))

    part_points : (env : Environment) (p : Place) (n : ℕ) → Kinds n (parts look env p n) (of_parts p) (n + size_parts p)
    part_points env (Local name) n = whole (nothing n)
    part_points env (Global name) n = whole (nothing n)
    part_points env (Element name index) n = value_points env index n
    part_points env (Field tag handle name) n = value_points env handle n

  -- an expression whose value is dropped
  pub effect_points : (env : Environment) (e : Expression) (n : ℕ) → Kinds n (effect look env e n) (of_expression e) (n + size e)
  effect_points env (Assign p e) n =
      whole (and_then (and_then (part_points env p n) (value_points env e _)) (setting_only_points env p _))
  effect_points env (Update type op p e) n = whole (and_then (updated_points env type op p e n (part_points env p n) (value_points env e _)) (setting_only_points env p _))
  effect_points env (Postfix type op (Local name)) n =
      let q = quiet_then (int_code 1) refl (changed_quiet op type (Integer I32)) in
      whole (then_quiet (Store (slot env name) ∷ []) (alone (Store (slot env name)) refl) (private (Load (slot env name)) refl (q n)))
  effect_points env e n = then_quiet (Drop ∷ []) (alone Drop refl) (value_points env e n)

  -- a condition, without the `!` before it
  pub condition_points : (env : Environment) (e : Expression) (n : ℕ)
      → Kinds n (condition_code look env e (negated e) n) (of_expression e) (n + size e)
  condition_points env (Unary unary.Not a) n = value_points env a n
  condition_points env e n = value_points env e n
