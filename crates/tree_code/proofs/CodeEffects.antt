-- The code of an expression whose value is dropped, and of a condition.
use Rattle.std.proofs.Common.{◌≡◌, ℕ, suc, ◌+◌, List, [], ◌∷◌, ◌++◌, length, slice_get, Option, Some, None, Result, Ok, Err, refl, sym, subst}
use Rattle.c_ints.specs.declared.kind.Kind.TheVariants.{I32}
use Rattle.c_ints.specs.declared.operator.ArithTrap.{ArithTrap}
use Rattle.c_ints.specs.declared.operator.BinOp.{BinOp}
use Rattle.c_ints.specs.declared.operator.UnOp.TheVariants.{Not}
use Rattle.c_ints.specs.Arithmetic.{binary_kind}
use Rattle.c_tree.specs.BareExpr.{Bytes, BareType, Integer}
use Rattle.c_semantics.specs.Texts.{int}
use Rattle.c_semantics.specs.Values.{Value, binary_result, converted_to}
use Rattle.c_semantics.specs.Resolution.{kind}
use Rattle.c_semantics.specs.Resolved.{Expression, Assign, Update, Postfix, Unary, Local}
use Rattle.c_semantics.specs.Points.{size, size_parts, size_read}
use Rattle.c_semantics.specs.Pieces.{Piece, Scopes, Compute, Get, Set, Dup, Apply, Combine, ConvertTo, Drop}
use Rattle.c_semantics.specs.Evaluation.{Next, apply, change, combine, drop, give, load_value, look_up, one, set, settle}
use Rattle.c_semantics.specs.Evaluation as ev
use Rattle.typed_trees.specs.ValueTypes.{Environment}
use Rattle.typed_trees.specs.ExpressionTypes.{IsScalar, IsTyped, part_types, place_type, type_of}
use Rattle.typed_trees.specs.StatementTypes.{IsCondition}
use Rattle.typed_trees.specs.PieceTypes.{Stack}
use Rattle.bytecode.specs.Instructions.{Load, Store}
use Rattle.bytecode.specs.Instructions as instruction
use Rattle.tree_code.specs.Code.{combination, condition_code, conversion, effect, int_code, negated, result_of, setting_only, slot, unless_jump, value}
use Rattle.tree_code.specs.CodedPieces.{At, Branch, Tests, Where, branched, if_zero, there, unless_zero}
use Rattle.tree_code.proofs.Arguments.{int_becomes, int_operands}
use Rattle.tree_code.proofs.CodePlaces.{Span, halves, next}
use Rattle.tree_code.proofs.CodeSteps.{Ends, Fine, Ready, Setting, change_ready, combine_ready, load_ready, ready_on, skip_ready, state, store_only_ready, to_next, words_of}
use Rattle.tree_code.proofs.CodeFine.{converts, drop_fine, not_fine, one_plain, push_ready, set_drop_fine}
use Rattle.tree_code.proofs.CodeTrees.{assign_ready, expression, parts, update_ready, updated}

module _ (c : Setting) where
  abbrev Well : List Piece → Next → Stack → Environment → Where → Type 0
  Well = Fine c

  -- ---- values that are dropped

  -- the step of a variable whose old value nothing takes leaves that value out
  abbrev short : BareType → Bytes → Next → Next
  short type name k = change (converted_to type) (ev.store name (drop k))

  came : (type : BareType) (name : Bytes) (k : Next) (values : List Value) (scopes : Scopes) (v : Value) (r : Result Value ArithTrap)
      → settle r values scopes (short type name k) ≡ settle r (v ∷ values) scopes (short type name (drop k))
  came type name k values scopes v (Ok x) = refl
  came type name k values scopes v (Err trap) = refl

  same_end : (type : BareType) (op : BinOp) (name : Bytes) (k : Next) (values : List Value) (scopes : Scopes) (o : Option Value)
      → load_value o values scopes (give one (combine op (short type name k)))
      ≡ load_value o values scopes (ev.copy (give one (combine op (short type name (drop k)))))
  same_end type op name k values scopes None = refl
  same_end type op name k values scopes (Some v) = came type name k values scopes v (binary_result op v one)

  step_ready : (type : BareType) (op : BinOp) (name : Bytes) (n : ℕ) (ps : List Piece) (k : Next) (stack : Stack) (env : Environment)
      → IsTyped c.look env (Postfix type op (Local name)) → (p q : ℕ) → Span c.code p (effect c.look env (Postfix type op (Local name)) n) q
      → Well ps k stack env (At q) → Ready c (ev.expression (Postfix type op (Local name)) n (Drop ∷ ps) (drop k)) stack env (At p)
  step_ready type op name n ps k stack env t p q s f values scopes locals h =
      subst (λ e. Ends c e (state c p (words_of c values) locals)) (same_end type op name k values scopes (look_up scopes name))
      (steps values scopes locals h)
    where
      steps : Ready c (ev.load name (give one (combine op (short type name k)))) stack env (At p)
      steps =
          let type_is = t.1 in
          let given = binary_kind op (kind type) I32 in
          let converted = conversion type (result_of op type (Integer I32)) in
          let combined = combination op type (Integer I32) in
          let stores = Store (slot env name) in
          let s1 = next c.code p (Load (slot env name)) (int_code 1 ∷ combined ∷ (converted ++ stores ∷ [])) q s in
          let s2 = halves c.code (suc p) (int_code 1 ∷ []) (combined ∷ (converted ++ stores ∷ [])) q s1.later in
          let s3 = halves c.code s2.middle (combined ∷ []) (converted ++ stores ∷ []) q s2.second in
          let s4 = halves c.code s3.middle converted (stores ∷ []) q s3.second in
          let last = ready_on c k stack env q (suc s4.middle) (to_next c.code s4.middle stores q s4.second) f.ready in
          let stored : Ready c (ev.store name (drop k)) (type ∷ stack) env (At s4.middle) =
          subst (λ u. Ready c (ev.store name (drop k)) (u ∷ stack) env (At s4.middle)) (sym type_is)
          (store_only_ready c name (drop k) stack env s4.middle t.0 s4.second.has.0
          (skip_ready c (place_type c.look env (Local name)) k stack env (suc s4.middle) (suc s4.middle) (suc s4.middle) (there (suc s4.middle))
          (there (suc s4.middle)) last)) in
          let write = short type name k in
          let came =
          change_ready c (converted_to type) (Integer given) type (ev.store name (drop k)) stack env s3.middle (s3.middle + length converted)
          (converts c type (Integer given) s3.middle (int_becomes type given t.2) s4.first.has)
          (ready_on c (ev.store name (drop k)) (type ∷ stack) env s4.middle (s3.middle + length converted) s4.first.ends stored) in
          let summed = combine_ready c op type int write stack env s2.middle s3.middle (int_operands op type int t.2 tt) s3.first came in
          let with_one =
          push_ready c one int (combine op write) (type ∷ stack) env (suc p) one_plain s2.first.has.0
          (ready_on c (combine op write) (int ∷ type ∷ stack) env s2.middle (suc p + 1) s2.first.ends summed) in
          load_ready c name (give one (combine op write)) stack env p t.0 s1.stands
          (subst (λ u. Ready c (give one (combine op write)) (u ∷ stack) env (At (suc p))) type_is with_one)

  dropped : (e : Expression) (n : ℕ) (ps : List Piece) (k : Next) (stack : Stack) (env : Environment) → IsTyped c.look env e
      → (p q : ℕ) → Span c.code p (value c.look env e n ++ instruction.Drop ∷ []) q → Well ps k stack env (At q)
      → Ready c (ev.expression e n (Drop ∷ ps) (drop k)) stack env (At p)
  dropped e n ps k stack env t p q s f =
      let h = halves c.code p (value c.look env e n) (instruction.Drop ∷ []) q s in
      expression c e n (Drop ∷ ps) (drop k) stack env t p h.middle h.first (drop_fine c (type_of c.look env e) ps k stack env h.middle q h.second f)

  pub effect_ready : (e : Expression) (n : ℕ) (ps : List Piece) (k : Next) (stack : Stack) (env : Environment) → IsTyped c.look env e
      → (p q : ℕ) → Span c.code p (effect c.look env e n) q → Well ps k stack env (At q)
      → Ready c (ev.expression e n (Drop ∷ ps) (drop k)) stack env (At p)
  effect_ready (Assign pl e) n ps k stack env t p q s f =
      let m = n + size_parts pl in
      let w = m + size e in
      let rest = Set pl w ∷ Drop ∷ ps in
      let go = set pl w (Drop ∷ ps) (drop k) in
      assign_ready c pl e n m rest go (setting_only env pl w) stack env p q t s
      (λ z x. set_drop_fine c pl w (type_of c.look env e) ps k stack env z q t.0 t.2 x f)
      (parts c pl n (Compute e m ∷ rest) (ev.expression e m rest go) stack env t.0)
      (expression c e m rest go (part_types c.look env pl ++ stack) env t.1)
  effect_ready (Update type op pl e) n ps k stack env t p q s f =
      let r = n + size_parts pl in
      let m = r + size_read pl in
      let w = m + size e in
      let rest = Set pl w ∷ Drop ∷ ps in
      let go = set pl w (Drop ∷ ps) (drop k) in
      update_ready c type op pl e n r m rest go (setting_only env pl w) stack env p q t s
      (λ z x. set_drop_fine c pl w type ps k stack env z q t.0 t.2 x f)
      (parts c pl n (Dup pl ∷ Get pl r ∷ Compute e m ∷ Combine op ∷ ConvertTo type ∷ rest) (updated c type op pl e r m rest go) stack env t.0)
      (expression c e m (Combine op ∷ ConvertTo type ∷ rest) (combine op (change (converted_to type) go))
      (type ∷ (part_types c.look env pl ++ stack)) env t.1)
  effect_ready (Postfix type op (Local name)) n ps k stack env t p q s f = step_ready type op name n ps k stack env t p q s f
  effect_ready e n ps k stack env t p q s f = dropped e n ps k stack env t p q s f

  -- ---- conditions

  -- what is pending is done from both ways of a test
  abbrev pub FromTest : List Piece → Next → Stack → Environment → ℕ → ℕ → Type 0
  FromTest rest go stack env so nt = (w : Where) (t : BareType) → IsScalar t → Tests c.code w so nt → Well rest go (t ∷ stack) env w

  plainly : (e : Expression) (n d : ℕ) (rest : List Piece) (go : Next) (stack : Stack) (env : Environment) → IsCondition c.look env e
      → (p m nt : ℕ) → Span c.code p (value c.look env e n) m → slice_get c.code m ≡ Some (instruction.JumpIfZero d) → suc m + d ≡ nt
      → FromTest rest go stack env (suc m) nt → Ready c (ev.expression e n rest go) stack env (At p)
  plainly e n d rest go stack env t p m nt s is far f =
      expression c e n rest go stack env t.0 p m s
      (f (At m) (type_of c.look env e) t.1 (subst (λ z. Tests c.code (At m) (suc m) z) far (if_zero m m d (there m) is)))

  pub condition_ready : (e : Expression) (n d : ℕ) (rest : List Piece) (go : Next) (stack : Stack) (env : Environment) → IsCondition c.look env e
      → (p m nt : ℕ) → Span c.code p (condition_code c.look env e (negated e) n) m → slice_get c.code m ≡ Some (unless_jump (negated e) d)
      → suc m + d ≡ nt → FromTest rest go stack env (suc m) nt → Ready c (ev.expression e n rest go) stack env (At p)
  condition_ready (Unary Not a) n d rest go stack env t p m nt s is far f =
      expression c a n (Apply Not ∷ rest) (apply Not go) stack env t.0.0 p m s
      (not_fine c (type_of c.look env a) rest go stack env (At m) nt (suc m) t.0.1
      (subst (λ z. Tests c.code (At m) z (suc m)) far (unless_zero m m d (there m) is))
      (f (Branch (suc m) nt) int tt (branched (suc m) nt)))
  condition_ready e n d rest go stack env t p m nt s is far f = plainly e n d rest go stack env t p m nt s is far f
