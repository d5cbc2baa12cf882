-- The code of an expression does what its tree does, where the code behind it does what comes after it.
use Rattle.std.proofs.Common.{◌≡◌, ℕ, suc, ◌+◌, List, [], ◌∷◌, ◌++◌, length, slice_get, Some, None, reverse, refl, sym, ap, subst, ◌∙◌, inl, inr, arith, append_assoc}
use Rattle.std.specs.Prelude.{◌⊎◌}
use Rattle.c_ints.specs.declared.int.Int.{Int}
use Rattle.c_ints.specs.declared.kind.Kind.TheVariants.{I32}
use Rattle.c_ints.specs.declared.operator.BinOp.{BinOp}
use Rattle.c_ints.specs.Arithmetic.{binary_kind}
use Rattle.c_ints.specs.Number.{kind_of, reduced, value_of}
use Rattle.c_ints.proofs.Reduction.{kind_of-number}
use Rattle.run_types.specs.CheckIns as check_in
use Rattle.c_format.specs.declared.reading.Reading.TheVariants.{Text}
use Rattle.c_format.specs.Formats.{kinds}
use Rattle.c_tree.specs.BareExpr.{BareType, Integer, Handle, Thread}
use Rattle.c_semantics.specs.Texts.{int, result_type}
use Rattle.c_semantics.specs.Values.{Number, converted_to, int_of}
use Rattle.c_semantics.specs.Resolution.{kind}
use Rattle.c_semantics.specs.Resolved.{Expression, Expressions, Place, Constant, Read, Unary, Binary, Convert, And, Or, Choice, Assign, Update, Postfix, Call, Print, New, Free, Create, Join, JoinInto, InitMutex, Lock, Unlock, NoExpressions, ExpressionThen, Local, Global, Element, Field}
use Rattle.c_semantics.specs.Points.{size, size_all, size_parts, size_read}
use Rattle.c_semantics.specs.Stops.{Stop}
use Rattle.c_semantics.specs.Stops as stop
use Rattle.c_semantics.specs.Pieces.{Piece, Compute, Arguments, Parts, Get, Set, Dup, Tuck, Swap, Apply, Combine, ConvertTo, Drop, Push, Truth, Created, AndThen, OrElse, Choose, At as StopAt}
use Rattle.c_semantics.specs.Evaluation.{Next, apply, as_truth, change, choose, combine, count, creation, drop, dup, get, give, one, set, stop_at, swap_part, tuck}
use Rattle.c_semantics.specs.Evaluation as ev
use Rattle.typed_trees.specs.ValueTypes.{Environment, HasType}
use Rattle.typed_trees.specs.ExpressionTypes.{AreTyped, Becomes, IsNull, IsNullFor, IsPlaced, IsScalar, IsTyped, part_types, place_type, type_of, types_of}
use Rattle.typed_trees.specs.StatementTypes.{IsCondition}
use Rattle.typed_trees.specs.PieceTypes.{Pops, Stack, StopTyped, pushed}
use Rattle.bytecode.specs.Instructions.{Instruction, IsNotZero, IsZero, Jump, JumpIfZero, JumpUnlessZero, CheckIn}
use Rattle.bytecode.specs.Instructions as instruction
use Rattle.tree_code.specs.Code.{Code, application, combination, constant_code, constant_of, conversion, converted_code, copying, either, getting, int_code, result_of, setting, setting_only, swapping, tucking, value}
use Rattle.tree_code.specs.Code as made
use Rattle.tree_code.specs.CodedPieces.{At, HasAt, Reaches, Tests, Where, if_zero, jumps_on, there, unless_zero}
use Rattle.tree_code.proofs.Arguments.{count_is, format_pops, int_becomes, int_operands, pops_arguments}
use Rattle.tree_code.proofs.CodePlaces.{Span, halves, next, nothing_between, whole}
use Rattle.tree_code.proofs.CodeReached.{fine_reached}
use Rattle.tree_code.proofs.CodeSteps.{Coded, Fine, Ready, Setting, choose_ready, fine_on, stop_fine, to_next}
use Rattle.tree_code.proofs.CodeFine.{apply_fine, behind, combine_fine, convert_fine, converted_ready, created_fine, drop_fine, dup_fine, get_fine, number_ready, one_plain, push_fine, set_drop_fine, set_fine, swap_fine, truth_fine, tuck_fine, zero_plain}

module _ (c : Setting) where
  abbrev Well : List Piece → Next → Stack → Environment → Where → Type 0
  Well = Fine c

  abbrev Ends : Next → Stack → Environment → Where → Type 0
  Ends = Ready c

  -- ---- trees before others

  pub compute_fine : (e : Expression) (n : ℕ) (ps : List Piece) (k : Next) (stack : Stack) (env : Environment) (p q : ℕ) → IsTyped c.look env e
      → Span c.code p (value c.look env e n) q → Well ps k (type_of c.look env e ∷ stack) env (At q)
      → Ends (ev.expression e n ps k) stack env (At p) → Well (Compute e n ∷ ps) (ev.expression e n ps k) stack env (At p)
  compute_fine e n ps k stack env p q t s f r =
      let g = behind c ps k (type_of c.look env e ∷ stack) env p (value c.look env e n) q s f in
      record { coded = (t, (p, there p, (s.has, g.coded))); ready = r }

  arguments_fine : (es : Expressions) (n : ℕ) (ps : List Piece) (k : Next) (stack : Stack) (env : Environment) (p q : ℕ) → AreTyped c.look env es
      → Span c.code p (made.values c.look env es n) q → Well ps k (pushed (types_of c.look env es) stack) env (At q)
      → Ends (ev.expressions es n ps k) stack env (At p) → Well (Arguments es n ∷ ps) (ev.expressions es n ps k) stack env (At p)
  arguments_fine es n ps k stack env p q t s f r =
      let g = behind c ps k (pushed (types_of c.look env es) stack) env p (made.values c.look env es n) q s f in
      record { coded = (t, (p, there p, (s.has, g.coded))); ready = r }

  parts_fine : (pl : Place) (n : ℕ) (ps : List Piece) (k : Next) (stack : Stack) (env : Environment) (p q : ℕ) → IsPlaced c.look env pl
      → Span c.code p (made.parts c.look env pl n) q → Well ps k (part_types c.look env pl ++ stack) env (At q)
      → Ends (ev.parts pl n ps k) stack env (At p) → Well (Parts pl n ∷ ps) (ev.parts pl n ps k) stack env (At p)
  parts_fine pl n ps k stack env p q t s f r =
      let g = behind c ps k (part_types c.look env pl ++ stack) env p (made.parts c.look env pl n) q s f in
      record { coded = (t, (p, there p, (s.has, g.coded))); ready = r }

  -- ---- tests

  -- an expression comes to its value from wherever its code is
  abbrev pub Does : Environment → Expression → ℕ → List Piece → Next → Stack → Type 0
  Does env e n ps k stack =
      (p q : ℕ) → Span c.code p (value c.look env e n) q → Well ps k (type_of c.look env e ∷ stack) env (At q)
      → Ends (ev.expression e n ps k) stack env (At p)

  -- the right side of `&&` or `||` as an int, behind it a jump over the constant of the other way
  record Side (b : Expression) (m i : ℕ) (env : Environment) (p last : ℕ) : Type 0 where
    middle : ℕ
    body : Span c.code p (value c.look env b m) middle
    truth : slice_get c.code middle ≡ Some IsNotZero
    jump : slice_get c.code (suc middle) ≡ Some (Jump 1)
    constant : slice_get c.code last ≡ Some (int_code i)
    place : last ≡ suc (suc middle)

  side_of : (b : Expression) (m i : ℕ) (env : Environment) (p last : ℕ)
      → HasAt c.code p (value c.look env b m ++ IsNotZero ∷ Jump 1 ∷ int_code i ∷ []) → last ≡ p + length (value c.look env b m) + 2
      → Side b m i env p last
  side_of b m i env p last has e =
      let code = value c.look env b m in
      let tail = IsNotZero ∷ Jump 1 ∷ int_code i ∷ [] in
      let h = halves c.code p code tail (p + length (code ++ tail)) (whole c.code p (code ++ tail) has) in
      let at = over h.middle (p + length code) h.first.ends e in
      record {
        middle = h.middle;
        body = h.first;
        truth = h.second.has.0;
        jump = h.second.has.1.0;
        constant = subst (λ x. slice_get c.code x ≡ Some (int_code i)) (sym at) h.second.has.1.1.0;
        place = at;
      }
    where
      over : (a b : ℕ) → a ≡ b → last ≡ b + 2 → last ≡ suc (suc a)
      over a b e f = omega (arith, e, f)

  one_on : (a : ℕ) → suc a ≡ a + 1
  one_on a = omega arith

  side_ready : (b : Expression) (m i : ℕ) (ps : List Piece) (k : Next) (stack : Stack) (env : Environment) (p last : ℕ) → IsCondition c.look env b
      → Side b m i env p last → Well ps k (int ∷ stack) env (At (suc last)) → Does env b m (Truth ∷ ps) (change as_truth k) stack
      → Ends (ev.expression b m (Truth ∷ ps) (change as_truth k)) stack env (At p)
  side_ready b m i ps k stack env p last t x f go =
      let over : suc (suc x.middle) + 1 ≡ suc last = skips x.middle x.place in
      let jumped = fine_reached c (suc x.middle) (suc last)
      (jumps_on (suc x.middle) 1 (suc last) x.jump (subst (Reaches c.code (suc (suc x.middle) + 1)) over (there (suc (suc x.middle) + 1))))
      ps k (int ∷ stack) env f in
      go p x.middle x.body
      (truth_fine c (type_of c.look env b) ps k stack env x.middle (suc x.middle) t.1
      (record { has = (x.truth, tt); ends = one_on x.middle }) jumped)
    where
      skips : (a : ℕ) → last ≡ suc (suc a) → suc (suc a) + 1 ≡ suc last
      skips a e = omega (arith, e)

  pub and_fine : (b : Expression) (m : ℕ) (t : BareType) (ps : List Piece) (k : Next) (stack : Stack) (env : Environment) (w : Where) (so nt : ℕ)
      → IsScalar t → IsCondition c.look env b → Tests c.code w so nt
      → HasAt c.code so (value c.look env b m ++ IsNotZero ∷ Jump 1 ∷ int_code 0 ∷ []) → nt ≡ so + length (value c.look env b m) + 2
      → Well ps k (int ∷ stack) env (At (suc nt)) → Does env b m (Truth ∷ ps) (change as_truth k) stack
      → Well (AndThen b m ∷ ps) (choose (ev.expression b m (Truth ∷ ps) (change as_truth k)) (give (int_of 0) k)) (t ∷ stack) env w
  and_fine b m t ps k stack env w so nt o cond test has e f go =
      let x = side_of b m 0 env so nt has e in
      record {
        coded = (o, cond, (so, nt, test, (has, e, f.coded)));
        ready =
            choose_ready c t (ev.expression b m (Truth ∷ ps) (change as_truth k)) (give (int_of 0) k) stack env w so nt o test
            (side_ready b m 0 ps k stack env so nt cond x f go)
            (push_fine c (int_of 0) int ps k stack env nt (suc nt) zero_plain (record { has = (x.constant, tt); ends = one_on nt }) f).ready;
      }

  pub or_fine : (b : Expression) (m : ℕ) (t : BareType) (ps : List Piece) (k : Next) (stack : Stack) (env : Environment) (w : Where) (so nt : ℕ)
      → IsScalar t → IsCondition c.look env b → Tests c.code w so nt
      → HasAt c.code nt (value c.look env b m ++ IsNotZero ∷ Jump 1 ∷ int_code 1 ∷ []) → so ≡ nt + length (value c.look env b m) + 2
      → Well ps k (int ∷ stack) env (At (suc so)) → Does env b m (Truth ∷ ps) (change as_truth k) stack
      → Well (OrElse b m ∷ ps) (choose (give (int_of 1) k) (ev.expression b m (Truth ∷ ps) (change as_truth k))) (t ∷ stack) env w
  or_fine b m t ps k stack env w so nt o cond test has e f go =
      let x = side_of b m 1 env nt so has e in
      record {
        coded = (o, cond, (so, nt, test, (has, e, f.coded)));
        ready =
            choose_ready c t (give (int_of 1) k) (ev.expression b m (Truth ∷ ps) (change as_truth k)) stack env w so nt o test
            (push_fine c (int_of 1) int ps k stack env so (suc so) one_plain (record { has = (x.constant, tt); ends = one_on so }) f).ready
            (side_ready b m 1 ps k stack env nt so cond x f go);
      }

  pub choice_fine : (a b : Expression) (m : ℕ) (t : BareType) (ps : List Piece) (k : Next) (stack : Stack) (env : Environment) (w : Where)
      (so middle nt end : ℕ) → IsScalar t → IsTyped c.look env a → IsTyped c.look env b → type_of c.look env b ≡ type_of c.look env a
      → Tests c.code w so nt → Span c.code so (value c.look env a m) middle → Reaches c.code middle end
      → Span c.code nt (value c.look env b (m + size a)) end → Well ps k (type_of c.look env a ∷ stack) env (At end)
      → Does env a m ps k stack → Does env b (m + size a) ps k stack
      → Well (Choose a b m ∷ ps) (choose (ev.expression a m ps k) (ev.expression b (m + size a) ps k)) (t ∷ stack) env w
  choice_fine a b m t ps k stack env w so middle nt end o ta tb same test x reaches y f first second =
      let other : Well ps k (type_of c.look env b ∷ stack) env (At end) = subst (λ u. Well ps k (u ∷ stack) env (At end)) (sym same) f in
      record {
        coded = (
          o,
          ta,
          tb,
          same,
          (so, nt, test, (end, x.has, subst (λ z. Reaches c.code z end) x.ends reaches, y.has, y.ends, f.coded)),
        );
        ready =
            choose_ready c t (ev.expression a m ps k) (ev.expression b (m + size a) ps k) stack env w so nt o test
            (first so middle x (fine_reached c middle end reaches ps k (type_of c.look env a ∷ stack) env f))
            (second nt end y other);
      }

  -- ---- a value that is written

  abbrev pub DoesParts : Environment → Place → ℕ → List Piece → Next → Stack → Type 0
  DoesParts env pl n ps k stack =
      (p q : ℕ) → Span c.code p (made.parts c.look env pl n) q → Well ps k (part_types c.look env pl ++ stack) env (At q)
      → Ends (ev.parts pl n ps k) stack env (At p)

  -- `tail` is the code of the write, `rest` what is pending from the write on, `go` what it means
  pub assign_ready : (pl : Place) (e : Expression) (n m : ℕ) (rest : List Piece) (go : Next) (tail : Code) (stack : Stack) (env : Environment) (p q : ℕ)
      → IsTyped c.look env (Assign pl e) → Span c.code p (made.parts c.look env pl n ++ value c.look env e m ++ tail) q
      → ((z : ℕ) → Span c.code z tail q → Well rest go (type_of c.look env e ∷ (part_types c.look env pl ++ stack)) env (At z))
      → DoesParts env pl n (Compute e m ∷ rest) (ev.expression e m rest go) stack
      → Does env e m rest go (part_types c.look env pl ++ stack)
      → Ends (ev.parts pl n (Compute e m ∷ rest) (ev.expression e m rest go)) stack env (At p)
  assign_ready pl e n m rest go tail stack env p q t s written first second =
      let under = part_types c.look env pl ++ stack in
      let b = halves c.code p (made.parts c.look env pl n ++ value c.look env e m) tail q s in
      let a = halves c.code p (made.parts c.look env pl n) (value c.look env e m) b.middle b.first in
      let last = written b.middle b.second in
      first p a.middle a.first
      (compute_fine e m rest go under env a.middle b.middle t.1 a.second last (second a.middle b.middle a.second last))

  -- the code of `op=` up to the write
  abbrev pub updating : Environment → BareType → BinOp → Place → Expression → ℕ → ℕ → ℕ → Code → Code
  updating env type op pl e n r m tail =
      made.parts c.look env pl n ++ copying pl ++ getting env pl r ∷ value c.look env e m
      ++ combination op type (type_of c.look env e) ∷ conversion type (result_of op type (type_of c.look env e)) ++ tail

  abbrev pub updated : BareType → BinOp → Place → Expression → ℕ → ℕ → List Piece → Next → Next
  updated type op pl e r m rest go =
      let kept = Combine op ∷ ConvertTo type ∷ rest in
      dup pl (get pl r (Compute e m ∷ kept) (ev.expression e m kept (combine op (change (converted_to type) go))))

  pub update_ready : (type : BareType) (op : BinOp) (pl : Place) (e : Expression) (n r m : ℕ) (rest : List Piece) (go : Next) (tail : Code)
      (stack : Stack) (env : Environment) (p q : ℕ) → IsTyped c.look env (Update type op pl e) → Span c.code p (updating env type op pl e n r m tail) q
      → ((z : ℕ) → Span c.code z tail q → Well rest go (type ∷ (part_types c.look env pl ++ stack)) env (At z))
      → DoesParts env pl n (Dup pl ∷ Get pl r ∷ Compute e m ∷ Combine op ∷ ConvertTo type ∷ rest) (updated type op pl e r m rest go) stack
      → Does env e m (Combine op ∷ ConvertTo type ∷ rest) (combine op (change (converted_to type) go)) (type ∷ (part_types c.look env pl ++ stack))
      → Ends (ev.parts pl n (Dup pl ∷ Get pl r ∷ Compute e m ∷ Combine op ∷ ConvertTo type ∷ rest) (updated type op pl e r m rest go)) stack env (At p)
  update_ready type op pl e n r m rest go tail stack env p q t s written first second =
      let te = type_of c.look env e in
      let under = part_types c.look env pl ++ stack in
      let given = binary_kind op (kind type) (kind te) in
      let converted = conversion type (result_of op type te) in
      let combined = combination op type te in
      let code = value c.look env e m in
      let front = made.parts c.look env pl n ++ copying pl in
      let s6 = halves c.code p (front ++ getting env pl r ∷ code ++ combined ∷ converted) tail q s in
      let s5 = halves c.code p (front ++ getting env pl r ∷ code) (combined ∷ converted) s6.middle s6.first in
      let s4 = halves c.code s5.middle (combined ∷ []) converted s6.middle s5.second in
      let s3 = halves c.code p front (getting env pl r ∷ code) s5.middle s5.first in
      let s2 = halves c.code s3.middle (getting env pl r ∷ []) code s5.middle s3.second in
      let s1 = halves c.code p (made.parts c.look env pl n) (copying pl) s3.middle s3.first in
      let write = change (converted_to type) go in
      let f6 =
      convert_fine c type (Integer given) rest go under env s4.middle s6.middle (int_becomes type given t.3) s4.second (written s6.middle s6.second) in
      let f5 =
      combine_fine c op type te (ConvertTo type ∷ rest) write under env s5.middle s4.middle (int_operands op type te t.3 t.4) s4.first f6 in
      let kept = Combine op ∷ ConvertTo type ∷ rest in
      let f4 =
      compute_fine e m kept (combine op write) (type ∷ under) env s2.middle s5.middle t.1 s2.second f5 (second s2.middle s5.middle s2.second f5) in
      let read : Well (Compute e m ∷ kept) (ev.expression e m kept (combine op write)) (place_type c.look env pl ∷ under) env (At s2.middle) =
      subst (λ u. Well (Compute e m ∷ kept) (ev.expression e m kept (combine op write)) (u ∷ under) env (At s2.middle)) t.2 f4 in
      let f3 = get_fine c pl r (Compute e m ∷ kept) (ev.expression e m kept (combine op write)) under env s3.middle s2.middle t.0 s2.first read in
      let f2 =
      dup_fine c pl (Get pl r ∷ Compute e m ∷ kept) (get pl r (Compute e m ∷ kept) (ev.expression e m kept (combine op write))) stack env
      s1.middle s3.middle s1.second f3 in
      first p s1.middle s1.first f2

  -- ---- a value that is converted

  null : (e : Expression) → (IsNull e → ⊥) → (type : BareType) → IsNullFor type e → ⊥
  null e f (Integer k) h = h
  null e f (Handle tag) h = f h
  null e f Thread h = h

  -- a constant, or none
  is_constant : (e : Expression) → ((v : Int) × (e ≡ Constant v)) ⊎ ((constant_of e ≡ None) × ((type : BareType) → IsNullFor type e → ⊥))
  is_constant (Constant v) = inl (v, refl)
  is_constant (Read p) = inr (refl, null (Read p) (λ h. h))
  is_constant (Unary op a) = inr (refl, null (Unary op a) (λ h. h))
  is_constant (Binary op a b) = inr (refl, null (Binary op a b) (λ h. h))
  is_constant (Convert t a) = inr (refl, null (Convert t a) (λ h. h))
  is_constant (And a b) = inr (refl, null (And a b) (λ h. h))
  is_constant (Or a b) = inr (refl, null (Or a b) (λ h. h))
  is_constant (Choice e a b) = inr (refl, null (Choice e a b) (λ h. h))
  is_constant (Assign p a) = inr (refl, null (Assign p a) (λ h. h))
  is_constant (Update t op p a) = inr (refl, null (Update t op p a) (λ h. h))
  is_constant (Postfix t op p) = inr (refl, null (Postfix t op p) (λ h. h))
  is_constant (Call name es) = inr (refl, null (Call name es) (λ h. h))
  is_constant (Print format es) = inr (refl, null (Print format es) (λ h. h))
  is_constant (New t) = inr (refl, null (New t) (λ h. h))
  is_constant (Free t a) = inr (refl, null (Free t a) (λ h. h))
  is_constant (Create p name a) = inr (refl, null (Create p name a) (λ h. h))
  is_constant (Join a) = inr (refl, null (Join a) (λ h. h))
  is_constant (JoinInto a p) = inr (refl, null (JoinInto a p) (λ h. h))
  is_constant (InitMutex name) = inr (refl, null (InitMutex name) (λ h. h))
  is_constant (Lock name) = inr (refl, null (Lock name) (λ h. h))
  is_constant (Unlock name) = inr (refl, null (Unlock name) (λ h. h))

  constant_has : (type : BareType) (v : Int) → (Becomes type (Integer (kind_of v)) ⊎ IsNullFor type (Constant v))
      → HasType c.tags type (converted_to type (Number v))
  constant_has (Integer k) v h = kind_of-number k (reduced k (value_of v))
  constant_has (Handle tag) v h = tt
  constant_has Thread v (inl b) = absurd b
  constant_has Thread v (inr z) = absurd z

  becomes : (type t : BareType) (e : Expression) → ((type : BareType) → IsNullFor type e → ⊥) → (Becomes type t ⊎ IsNullFor type e) → Becomes type t
  becomes type t e none (inl b) = b
  becomes type t e none (inr z) = absurd (none type z)

  abbrev Converts : BareType → ℕ → List Piece → Next → Stack → Environment → ℕ → ℕ → Expression → Type 0
  Converts type n ps k stack env p q x =
      IsTyped c.look env (Convert type x) → Span c.code p (value c.look env (Convert type x) n) q
      → Ends (ev.expression (Convert type x) n ps k) stack env (At p)

  convert_ready : (type : BareType) (a : Expression) (n : ℕ) (ps : List Piece) (k : Next) (stack : Stack) (env : Environment) (p q : ℕ)
      → IsTyped c.look env (Convert type a) → Span c.code p (value c.look env (Convert type a) n) q → Well ps k (type ∷ stack) env (At q)
      → Does env a n (ConvertTo type ∷ ps) (change (converted_to type) k) stack → Ends (ev.expression (Convert type a) n ps k) stack env (At p)
  convert_ready type a n ps k stack env p q t s f go = by (is_constant a)
    where
      by : (((v : Int) × (a ≡ Constant v)) ⊎ ((constant_of a ≡ None) × ((u : BareType) → IsNullFor u a → ⊥)))
          → Ends (ev.expression (Convert type a) n ps k) stack env (At p)
      by (inl x) =
          subst (Converts type n ps k stack env p q) (sym x.1)
          (λ u z. converted_ready c type x.0 k stack env p q (constant_has type x.0 u.1) z f.ready) t s
      by (inr x) =
          let ta = type_of c.look env a in
          let z : Span c.code p (value c.look env a n ++ conversion type ta) q =
          subst (λ o. Span c.code p (converted_code type ta o (value c.look env a n)) q) x.0 s in
          let h = halves c.code p (value c.look env a n) (conversion type ta) q z in
          go p h.middle h.first (convert_fine c type ta ps k stack env h.middle q (becomes type ta a x.1 t.1) h.second f)

  -- ---- places in code with jumps

  two_on : (p : ℕ) → p + 2 ≡ suc (suc p)
  two_on p = omega arith

  -- `&&` and `||`
  record Test (p : ℕ) (a : Code) (jump_of : ℕ → Instruction) (b : Code) (i q : ℕ) : Type 0 where
    middle : ℕ
    first : Span c.code p a middle
    jump : slice_get c.code middle ≡ Some (jump_of (length b + 2))
    side : HasAt c.code (suc middle) (b ++ IsNotZero ∷ Jump 1 ∷ int_code i ∷ [])
    over : suc middle + (length b + 2) ≡ suc middle + length b + 2
    end : q ≡ suc (suc middle + (length b + 2))

  test_span : (p : ℕ) (a : Code) (jump_of : ℕ → Instruction) (b : Code) (i q : ℕ)
      → Span c.code p (a ++ jump_of (length b + 2) ∷ b ++ IsNotZero ∷ Jump 1 ∷ int_code i ∷ []) q → Test p a jump_of b i q
  test_span p a jump_of b i q s =
      let tail = IsNotZero ∷ Jump 1 ∷ int_code i ∷ [] in
      let h = halves c.code p a (jump_of (length b + 2) ∷ (b ++ tail)) q
      (subst (λ is. Span c.code p is q) (append_assoc a (jump_of (length b + 2) ∷ b) tail) s) in
      let x = next c.code h.middle (jump_of (length b + 2)) (b ++ tail) q h.second in
      let y = halves c.code (suc h.middle) b tail q x.later in
      record {
        middle = h.middle;
        first = h.first;
        jump = x.stands;
        side = x.later.has;
        over = apart h.middle (length b);
        end = last h.middle (length b) y.middle y.first.ends y.second.ends;
      }
    where
      apart : (m n : ℕ) → suc m + (n + 2) ≡ suc m + n + 2
      apart m n = omega arith

      last : (m n z : ℕ) → z ≡ suc m + n → q ≡ z + 3 → q ≡ suc (suc m + (n + 2))
      last m n z e f = omega (arith, e, f)

  -- `?:`
  record Choices (p : ℕ) (e a b : Code) (q : ℕ) : Type 0 where
    middle : ℕ
    first : Span c.code p e middle
    jump : slice_get c.code middle ≡ Some (JumpIfZero (suc (length a)))
    end : ℕ
    one : Span c.code (suc middle) a end
    over : Reaches c.code end q
    other : Span c.code (suc middle + suc (length a)) b q

  choice_span : (p : ℕ) (e a b : Code) (q : ℕ) → Span c.code p (e ++ either JumpIfZero a b) q → Choices p e a b q
  choice_span p e a b q s =
      let h = halves c.code p e (either JumpIfZero a b) q s in
      let x = next c.code h.middle (JumpIfZero (suc (length a))) (a ++ Jump (length b) ∷ b) q h.second in
      let y = halves c.code (suc h.middle) a (Jump (length b) ∷ b) q x.later in
      let z = next c.code y.middle (Jump (length b)) b q y.second in
      record {
        middle = h.middle;
        first = h.first;
        jump = x.stands;
        end = y.middle;
        one = y.first;
        over = jumps_on y.middle (length b) q z.stands (subst (λ i. Reaches c.code i q) z.later.ends (there q));
        other = subst (λ i. Span c.code i b q) (at h.middle (length a) y.middle y.first.ends) z.later;
      }
    where
      at : (m n z : ℕ) → z ≡ suc m + n → suc z ≡ suc m + suc n
      at m n z e = omega (arith, e)

  -- ---- all expressions

  -- a place with its old value, which stays, and a step of it
  postfix_ready : (type : BareType) (op : BinOp) (pl : Place) (n : ℕ) (ps : List Piece) (k : Next) (stack : Stack) (env : Environment) (p q : ℕ)
      → IsTyped c.look env (Postfix type op pl) → Span c.code p (value c.look env (Postfix type op pl) n) q → Well ps k (type ∷ stack) env (At q)
      → ((rest : List Piece) (go : Next) → DoesParts env pl n rest go stack) → Ends (ev.expression (Postfix type op pl) n ps k) stack env (At p)
  postfix_ready type op pl n ps k stack env p q t s f first =
      let r = n + size_parts pl in
      let w = r + size_read pl in
      let under = type ∷ stack in
      let parted = part_types c.look env pl in
      let given = binary_kind op (kind type) I32 in
      let converted = conversion type (result_of op type (Integer I32)) in
      let combined = combination op type (Integer I32) in
      let tail = setting_only env pl w in
      let front = made.parts c.look env pl n ++ copying pl in
      let work = getting env pl r ∷ tucking pl ∷ int_code 1 ∷ combined ∷ converted in
      let s7 = halves c.code p (front ++ work) tail q s in
      let s2 = halves c.code p front work s7.middle s7.first in
      let s1 = halves c.code p (made.parts c.look env pl n) (copying pl) s2.middle s2.first in
      let s3 = halves c.code s2.middle (getting env pl r ∷ []) (tucking pl ∷ int_code 1 ∷ combined ∷ converted) s7.middle s2.second in
      let s4 = halves c.code s3.middle (tucking pl ∷ []) (int_code 1 ∷ combined ∷ converted) s7.middle s3.second in
      let s5 = halves c.code s4.middle (int_code 1 ∷ []) (combined ∷ converted) s7.middle s4.second in
      let s6 = halves c.code s5.middle (combined ∷ []) converted s7.middle s5.second in
      let writes = set pl w (Drop ∷ ps) (drop k) in
      let f7 = set_drop_fine c pl w type ps k under env s7.middle q t.0 t.1 s7.second f in
      let f6 =
      convert_fine c type (Integer given) (Set pl w ∷ Drop ∷ ps) writes (parted ++ under) env s6.middle s7.middle (int_becomes type given t.2) s6.second f7 in
      let converts = change (converted_to type) writes in
      let f5 =
      combine_fine c op type int (ConvertTo type ∷ Set pl w ∷ Drop ∷ ps) converts (parted ++ under) env s5.middle s6.middle
      (int_operands op type int t.2 tt) s6.first f6 in
      let f4 =
      push_fine c one int (Combine op ∷ ConvertTo type ∷ Set pl w ∷ Drop ∷ ps) (combine op converts) (type ∷ (parted ++ under)) env s4.middle s5.middle
      one_plain s5.first f5 in
      let kept = Push one ∷ Combine op ∷ ConvertTo type ∷ Set pl w ∷ Drop ∷ ps in
      let go = give one (combine op converts) in
      let f3 = tuck_fine c pl type kept go stack env s3.middle s4.middle s4.first f4 in
      let read : Well (Tuck pl ∷ kept) (tuck pl go) (place_type c.look env pl ∷ (parted ++ stack)) env (At s3.middle) =
      subst (λ u. Well (Tuck pl ∷ kept) (tuck pl go) (u ∷ (parted ++ stack)) env (At s3.middle)) t.1 f3 in
      let f2 = get_fine c pl r (Tuck pl ∷ kept) (tuck pl go) (parted ++ stack) env s2.middle s3.middle t.0 s3.first read in
      let f1 = dup_fine c pl (Get pl r ∷ Tuck pl ∷ kept) (get pl r (Tuck pl ∷ kept) (tuck pl go)) stack env s1.middle s2.middle s1.second f2 in
      first (Dup pl ∷ Get pl r ∷ Tuck pl ∷ kept) (dup pl (get pl r (Tuck pl ∷ kept) (tuck pl go))) p s1.middle s1.first f1

  mutual
    pub expression : (e : Expression) (n : ℕ) (ps : List Piece) (k : Next) (stack : Stack) (env : Environment) → IsTyped c.look env e
        → Does env e n ps k stack
    expression (Constant v) n ps k stack env t p q s f = number_ready c v (type_of c.look env (Constant v)) k stack env p q refl s f.ready
    expression (Read pl) n ps k stack env t p q s f =
        let m = n + size_parts pl in
        let h = halves c.code p (made.parts c.look env pl n) (getting env pl m ∷ []) q s in
        parts pl n (Get pl m ∷ ps) (get pl m ps k) stack env t p h.middle h.first (get_fine c pl m ps k stack env h.middle q t h.second f)
    expression (Unary op a) n ps k stack env t p q s f =
        let ta = type_of c.look env a in
        let h = halves c.code p (value c.look env a n) (application op ta) q s in
        expression a n (Apply op ∷ ps) (apply op k) stack env t.0 p h.middle h.first (apply_fine c op ta ps k stack env h.middle q t.1 h.second f)
    expression (Binary op a b) n ps k stack env t p q s f =
        let m = n + size a in
        let ta = type_of c.look env a in
        let tb = type_of c.look env b in
        let rest = Combine op ∷ ps in
        let i = halves c.code p (value c.look env a n ++ value c.look env b m) (combination op ta tb ∷ []) q s in
        let h = halves c.code p (value c.look env a n) (value c.look env b m) i.middle i.first in
        let last = combine_fine c op ta tb ps k stack env i.middle q t.2 i.second f in
        expression a n (Compute b m ∷ rest) (ev.expression b m rest (combine op k)) stack env t.0 p h.middle h.first
        (compute_fine b m rest (combine op k) (ta ∷ stack) env h.middle i.middle t.1 h.second last
        (expression b m rest (combine op k) (ta ∷ stack) env t.1 h.middle i.middle h.second last))
    expression (Convert type a) n ps k stack env t p q s f =
        convert_ready type a n ps k stack env p q t s f (expression a n (ConvertTo type ∷ ps) (change (converted_to type) k) stack env t.0)
    expression (And a b) n ps k stack env t p q s f =
        let m = n + size a in
        let x = test_span p (value c.look env a n) JumpIfZero (value c.look env b m) 0 q s in
        expression a n (AndThen b m ∷ ps) (choose (ev.expression b m (Truth ∷ ps) (change as_truth k)) (give (int_of 0) k)) stack env t.0 p x.middle x.first
        (and_fine b m (type_of c.look env a) ps k stack env (At x.middle) (suc x.middle) (suc x.middle + (length (value c.look env b m) + 2)) t.2 (t.1, t.3)
        (if_zero x.middle x.middle (length (value c.look env b m) + 2) (there x.middle) x.jump) x.side x.over (fine_on c ps k (int ∷ stack) env q _ x.end f)
        (expression b m (Truth ∷ ps) (change as_truth k) stack env t.1))
    expression (Or a b) n ps k stack env t p q s f =
        let m = n + size a in
        let x = test_span p (value c.look env a n) JumpUnlessZero (value c.look env b m) 1 q s in
        expression a n (OrElse b m ∷ ps) (choose (give (int_of 1) k) (ev.expression b m (Truth ∷ ps) (change as_truth k))) stack env t.0 p x.middle x.first
        (or_fine b m (type_of c.look env a) ps k stack env (At x.middle) (suc x.middle + (length (value c.look env b m) + 2)) (suc x.middle) t.2 (t.1, t.3)
        (unless_zero x.middle x.middle (length (value c.look env b m) + 2) (there x.middle) x.jump) x.side x.over
        (fine_on c ps k (int ∷ stack) env q _ x.end f)
        (expression b m (Truth ∷ ps) (change as_truth k) stack env t.1))
    expression (Choice e a b) n ps k stack env t p q s f =
        let m = n + size e in
        let x = choice_span p (value c.look env e n) (value c.look env a m) (value c.look env b (m + size a)) q s in
        expression e n (Choose a b m ∷ ps) (choose (ev.expression a m ps k) (ev.expression b (m + size a) ps k)) stack env t.0 p x.middle x.first
        (choice_fine a b m (type_of c.look env e) ps k stack env (At x.middle) (suc x.middle) x.end
        (suc x.middle + suc (length (value c.look env a m))) q t.3 t.1
        t.2 t.4 (if_zero x.middle x.middle (suc (length (value c.look env a m))) (there x.middle) x.jump) x.one x.over x.other f
        (expression a m ps k stack env t.1) (expression b (m + size a) ps k stack env t.2))
    expression (Assign pl e) n ps k stack env t p q s f =
        let m = n + size_parts pl in
        let w = m + size e in
        assign_ready pl e n m (Set pl w ∷ ps) (set pl w ps k) (setting env pl w) stack env p q t s
        (λ z x. set_fine c pl w (type_of c.look env e) ps k stack env z q t.0 t.2 x f)
        (parts pl n (Compute e m ∷ Set pl w ∷ ps) (ev.expression e m (Set pl w ∷ ps) (set pl w ps k)) stack env t.0)
        (expression e m (Set pl w ∷ ps) (set pl w ps k) (part_types c.look env pl ++ stack) env t.1)
    expression (Update type op pl e) n ps k stack env t p q s f =
        let r = n + size_parts pl in
        let m = r + size_read pl in
        let w = m + size e in
        let rest = Set pl w ∷ ps in
        let go = set pl w ps k in
        let done : Well ps k (place_type c.look env pl ∷ stack) env (At q) = subst (λ u. Well ps k (u ∷ stack) env (At q)) t.2 f in
        update_ready type op pl e n r m rest go (setting env pl w) stack env p q t s
        (λ z x. set_fine c pl w type ps k stack env z q t.0 t.2 x done)
        (parts pl n (Dup pl ∷ Get pl r ∷ Compute e m ∷ Combine op ∷ ConvertTo type ∷ rest) (updated type op pl e r m rest go) stack env t.0)
        (expression e m (Combine op ∷ ConvertTo type ∷ rest) (combine op (change (converted_to type) go))
        (type ∷ (part_types c.look env pl ++ stack)) env t.1)
    expression (Postfix type op pl) n ps k stack env t p q s f =
        postfix_ready type op pl n ps k stack env p q t s f (λ rest go. parts pl n rest go stack env t.0)
    expression (Call name es) n ps k stack env t p q s f =
        let m = n + size_all es in
        let x = stop.Call name (count es) in
        let types = types_of c.look env es in
        let P : Stack → Type 0 = λ under. Coded c ps (result_type (c.look name) ∷ under) env (At q) in
        let h = halves c.code p (made.values c.look env es n) (instruction.Halt x m ∷ CheckIn check_in.Call (suc m) ∷ []) q s in
        let takes : StopTyped c.look c.result x (pushed types stack) (λ under. Coded c ps under env (At q)) = (
          t.1,
          ap length (sym t.2) ∙ count_is c.look env es,
          subst (λ ts. Pops (reverse ts) (pushed types stack) P) t.2 (pops_arguments types stack P f.coded),
        ) in
        expressions es n (StopAt x m ∷ ps) (stop_at x m ps) stack env t.0 p h.middle h.first
        (stop_fine c x m ps (pushed types stack) env h.middle q (h.second.has.0, (h.second.has.1.0, h.second.ends ∙ two_on h.middle)) takes)
    expression (Print format es) n ps k stack env t p q s f =
        let m = n + size_all es in
        let x = stop.Print format (count es) in
        let types = types_of c.look env es in
        let h = halves c.code p (made.values c.look env es n) (instruction.Halt x m ∷ []) q s in
        expressions es n (StopAt x m ∷ ps) (stop_at x m ps) stack env t.0 p h.middle h.first
        (stop_fine c x m ps (pushed types stack) env h.middle q (h.second.has.0, to_next c.code h.middle (instruction.Halt x m) q h.second)
        (format_pops (kinds Text format) types (count es) stack (λ under. Coded c ps (int ∷ under) env (At q)) t.1 (count_is c.look env es) f.coded))
    expression (New tag) n ps k stack env t p q s f =
        (stop_fine c (stop.New tag) n ps stack env p q (s.has.0, to_next c.code p (instruction.Halt (stop.New tag) n) q s) (t, f.coded)).ready
    expression (Free tag e) n ps k stack env t p q s f =
        let m = n + size e in
        let x = stop.Free tag in
        let h = halves c.code p (value c.look env e n) (instruction.Halt x m ∷ []) q s in
        expression e n (StopAt x m ∷ ps) (stop_at x m ps) stack env t.0 p h.middle h.first
        (stop_fine c x m ps (type_of c.look env e ∷ stack) env h.middle q
        (h.second.has.0, to_next c.code h.middle (instruction.Halt x m) q h.second) (t.1, f.coded))
    expression (Create pl name e) n ps k stack env t p q s f =
        let m = n + size_parts pl in
        let j = m + size e in
        let x = stop.Spawn name in
        let under = part_types c.look env pl ++ stack in
        let kept = Set pl (j + 1) ∷ Created ∷ ps in
        let code = value c.look env e m in
        let writes = setting env pl (j + 1) in
        let front = made.parts c.look env pl n ++ code in
        let s4 = halves c.code p (front ++ instruction.Halt x j ∷ writes) (IsZero ∷ []) q s in
        let s2 = halves c.code p front (instruction.Halt x j ∷ writes) s4.middle s4.first in
        let s3 = halves c.code s2.middle (instruction.Halt x j ∷ []) writes s4.middle s2.second in
        let s1 = halves c.code p (made.parts c.look env pl n) code s2.middle s2.first in
        let f4 = created_fine c (place_type c.look env pl) ps k stack env s4.middle q t.2 s4.second f in
        let f3 = set_fine c pl (j + 1) Thread (Created ∷ ps) (change creation k) stack env s3.middle s4.middle t.0 (sym t.2) s3.second f4 in
        let f2 =
        stop_fine c x j kept (type_of c.look env e ∷ under) env s2.middle s3.middle
        (s3.first.has.0, to_next c.code s2.middle (instruction.Halt x j) s3.middle s3.first) (t.3, f3.coded) in
        let rest = StopAt x j ∷ kept in
        let go = stop_at x j kept in
        parts pl n (Compute e m ∷ rest) (ev.expression e m rest go) stack env t.0 p s1.middle s1.first
        (compute_fine e m rest go under env s1.middle s2.middle t.1 s1.second f2 (expression e m rest go under env t.1 s1.middle s2.middle s1.second f2))
    expression (Join e) n ps k stack env t p q s f =
        let m = n + size e in
        let kept = Drop ∷ Push (int_of 0) ∷ ps in
        let s1 = halves c.code p (value c.look env e n) (instruction.Halt stop.Join m ∷ instruction.Drop ∷ int_code 0 ∷ []) q s in
        let s2 = halves c.code s1.middle (instruction.Halt stop.Join m ∷ []) (instruction.Drop ∷ int_code 0 ∷ []) q s1.second in
        let s3 = halves c.code s2.middle (instruction.Drop ∷ []) (int_code 0 ∷ []) q s2.second in
        let f3 = push_fine c (int_of 0) int ps k stack env s3.middle q zero_plain s3.second f in
        let f2 = drop_fine c int (Push (int_of 0) ∷ ps) (give (int_of 0) k) stack env s2.middle s3.middle s3.first f3 in
        expression e n (StopAt stop.Join m ∷ kept) (stop_at stop.Join m kept) stack env t.0 p s1.middle s1.first
        (stop_fine c stop.Join m kept (type_of c.look env e ∷ stack) env s1.middle s2.middle
        (s2.first.has.0, to_next c.code s1.middle (instruction.Halt stop.Join m) s2.middle s2.first) (t.1, f2.coded))
    expression (JoinInto e pl) n ps k stack env t p q s f =
        let m = n + size e in
        let j = m + size_parts pl in
        let kept = Set pl (j + 1) ∷ Drop ∷ Push (int_of 0) ∷ ps in
        let te = type_of c.look env e in
        let under = part_types c.look env pl ++ stack in
        let code = made.parts c.look env pl m in
        let writes = setting_only env pl (j + 1) in
        let front = value c.look env e n ++ code in
        let s5 = halves c.code p (front ++ swapping pl ++ instruction.Halt stop.Join j ∷ writes) (int_code 0 ∷ []) q s in
        let s3 = halves c.code p (front ++ swapping pl) (instruction.Halt stop.Join j ∷ writes) s5.middle s5.first in
        let s4 = halves c.code s3.middle (instruction.Halt stop.Join j ∷ []) writes s5.middle s3.second in
        let s2 = halves c.code p front (swapping pl) s3.middle s3.first in
        let s1 = halves c.code p (value c.look env e n) code s2.middle s2.first in
        let f5 = push_fine c (int_of 0) int ps k stack env s5.middle q zero_plain s5.second f in
        let f4 =
        set_drop_fine c pl (j + 1) int (Push (int_of 0) ∷ ps) (give (int_of 0) k) stack env s4.middle s5.middle t.1 (sym t.3) s4.second f5 in
        let f3 =
        stop_fine c stop.Join j kept (te ∷ under) env s3.middle s4.middle
        (s4.first.has.0, to_next c.code s3.middle (instruction.Halt stop.Join j) s4.middle s4.first) (t.2, f4.coded) in
        let f2 = swap_fine c pl te (StopAt stop.Join j ∷ kept) (stop_at stop.Join j kept) stack env s2.middle s3.middle s2.second f3 in
        let rest = Swap pl ∷ StopAt stop.Join j ∷ kept in
        let go = swap_part pl (stop_at stop.Join j kept) in
        expression e n (Parts pl m ∷ rest) (ev.parts pl m rest go) stack env t.0 p s1.middle s1.first
        (parts_fine pl m rest go (te ∷ stack) env s1.middle s2.middle t.1 s1.second f2
        (parts pl m rest go (te ∷ stack) env t.1 s1.middle s2.middle s1.second f2))
    expression (InitMutex name) n ps k stack env t p q s f =
        (stop_fine c (stop.InitMutex name) n ps stack env p q (s.has.0, to_next c.code p (instruction.Halt (stop.InitMutex name) n) q s) (t, f.coded)).ready
    expression (Lock name) n ps k stack env t p q s f =
        (stop_fine c (stop.Lock name) n ps stack env p q (s.has.0, to_next c.code p (instruction.Halt (stop.Lock name) n) q s) (t, f.coded)).ready
    expression (Unlock name) n ps k stack env t p q s f =
        (stop_fine c (stop.Unlock name) n ps stack env p q (s.has.0, to_next c.code p (instruction.Halt (stop.Unlock name) n) q s) (t, f.coded)).ready

    pub expressions : (es : Expressions) (n : ℕ) (ps : List Piece) (k : Next) (stack : Stack) (env : Environment) → AreTyped c.look env es
        → (p q : ℕ) → Span c.code p (made.values c.look env es n) q → Well ps k (pushed (types_of c.look env es) stack) env (At q)
        → Ends (ev.expressions es n ps k) stack env (At p)
    expressions NoExpressions n ps k stack env t p q s f = (fine_on c ps k stack env q p (nothing_between c.code p q s) f).ready
    expressions (ExpressionThen e es) n ps k stack env t p q s f =
        let m = n + size e in
        let te = type_of c.look env e in
        let h = halves c.code p (value c.look env e n) (made.values c.look env es m) q s in
        expression e n (Arguments es m ∷ ps) (ev.expressions es m ps k) stack env t.0 p h.middle h.first
        (arguments_fine es m ps k (te ∷ stack) env h.middle q t.1 h.second f (expressions es m ps k (te ∷ stack) env t.1 h.middle q h.second f))

    pub parts : (pl : Place) (n : ℕ) (ps : List Piece) (k : Next) (stack : Stack) (env : Environment) → IsPlaced c.look env pl
        → DoesParts env pl n ps k stack
    parts (Local name) n ps k stack env t p q s f = (fine_on c ps k stack env q p (nothing_between c.code p q s) f).ready
    parts (Global name) n ps k stack env t p q s f = (fine_on c ps k stack env q p (nothing_between c.code p q s) f).ready
    parts (Element name index) n ps k stack env t p q s f = expression index n ps k stack env t.0 p q s f
    parts (Field tag handle name) n ps k stack env t p q s f = expression handle n ps k stack env t.0 p q s f
