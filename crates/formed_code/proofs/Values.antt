-- The code of expressions from one stack to another.
use Rattle.std.proofs.Common.{◌≡◌, ◌≤◌, ℕ, suc, ◌+◌, max, Bool, true, false, [], ◌∷◌, ◌++◌, map, length, Option, Some, None, refl, sym, ap, subst, arith, inl, inr, append_assoc, length-append}
use Rattle.std.specs.Prelude.{◌⊎◌, option_map, if◌then◌else◌}
use Rattle.c_ints.specs.declared.int.Int.{Int}
use Rattle.c_ints.specs.declared.kind.Kind.{Kind}
use Rattle.c_ints.specs.declared.kind.Kind.TheVariants.{I32}
use Rattle.c_ints.specs.declared.operator.BinOp.{BinOp}
use Rattle.c_ints.specs.declared.operator.BinOp.TheVariants as binary
use Rattle.c_ints.specs.declared.operator.UnOp.{UnOp}
use Rattle.c_ints.specs.declared.operator.UnOp.TheVariants as unary
use Rattle.run_types.specs.CheckIns.{CheckInKind}
use Rattle.run_types.specs.CheckIns as check_in
use Rattle.c_tree.specs.BareExpr.{Bytes, BareType, Integer as IntegerType, Handle as HandleType, Thread as ThreadType}
use Rattle.c_semantics.specs.Texts.{Definitions, int}
use Rattle.c_semantics.specs.Resolved.{Expression, Expressions, Place, Constant, Read, Unary, Binary, Convert, And, Or, Choice, Assign, Update, Postfix, Call, Print, New, Free, Create, Join, JoinInto, InitMutex, Lock, Unlock, NoExpressions, ExpressionThen, Local, Global, Element, Field}
use Rattle.c_semantics.specs.Points.{size, size_parts, size_read}
use Rattle.c_semantics.specs.Stops.{Stop}
use Rattle.c_semantics.specs.Stops as stop
use Rattle.c_semantics.specs.Evaluation.{count}
use Rattle.typed_trees.specs.ValueTypes.{Environment, in_scope}
use Rattle.typed_trees.specs.ExpressionTypes.{AreOperands, AreTyped, Becomes, IsInteger, IsNullFor, IsOperand, IsPlaced, IsTyped, place_type, type_of, types_of}
use Rattle.bytecode.specs.Instructions.{Instruction, Load, Store, Copy, CopyUnder, Swap, Drop, IsZero, IsNotZero, Jump, JumpIfZero, JumpUnlessZero, Halt, CheckIn}
use Rattle.bytecode.specs.Instructions as instruction
use Rattle.tree_code.specs.Code.{Code, application, combination, comparison, constant_code, constant_of, conversion, converted_code, copying, effect, getting, int_code, keeps_word, number_code, result_of, setting, setting_only, slot, swapping, tucking, value, values, parts}
use Rattle.code_kinds.specs.declared.kind.WordKind.{WordKind}
use Rattle.code_kinds.specs.declared.kind.WordKind.TheVariants.{Integer, Handle, Thread}
use Rattle.code_kinds.specs.WordKinds.{word_kind}
use Rattle.code_kinds.specs.StopKinds.{Words, after_stop}
use Rattle.code_kinds.specs.Shapes.{Shape, after, leads_to, same_check_in, transactions_after}
use Rattle.code_kinds.specs.WellFormed.{Shapes, deepest}
use Rattle.formed_code.specs.Depths.{depth, depth_all, depth_parts, part_words}
use Rattle.formed_code.specs.FormedLaws.{kinds_of}
use Rattle.formed_code.proofs.Lists.{none_some}
use Rattle.formed_code.proofs.Segments.{Edge, Segment, Targets, and_then, further, land, more, nothing, recoded, same_shape}
use Rattle.formed_code.proofs.Instructions.{fork, jump, one}
use Rattle.formed_code.proofs.Words.{at_mutex, call, checked, due_after, halted, integer_of, new_object, print, pushed, read_element, read_field, read_global, shape, spawn, stored_in, variable_at, write_element, write_field, write_global}
use Rattle.formed_code.proofs.Branches.{Forks, branches}

-- the words of a place's part
abbrev pub part_kinds : Place → Words
part_kinds (Local name) = []
part_kinds (Global name) = []
part_kinds (Element name index) = Integer ∷ []
part_kinds (Field tag handle name) = Handle ∷ []

-- each expression leaves a word
pub positive : (e : Expression) → 1 ≤ depth e
positive (Constant n) = omega arith
positive (Read p) = omega arith
positive (Unary op a) = positive a
positive (Binary op a b) = omega (arith, positive a)
positive (Convert type a) = positive a
positive (And a b) = omega (arith, positive a)
positive (Or a b) = omega (arith, positive a)
positive (Choice c a b) = omega (arith, positive c)
positive (Assign p e) = omega arith
positive (Update type op p e) = omega arith
positive (Postfix type op p) = omega arith
positive (Call name arguments) = omega arith
positive (Print format arguments) = omega arith
positive (New tag) = omega arith
positive (Free tag e) = positive e
positive (Create p name e) = omega arith
positive (Join e) = positive e
positive (JoinInto e p) = omega (arith, positive e)
positive (InitMutex name) = omega arith
positive (Lock name) = omega arith
positive (Unlock name) = omega arith

pub room_for_one : (e : Expression) (m : ℕ) → m + depth e ≤ deepest → m + 1 ≤ deepest
room_for_one e m d = omega (arith, positive e, d)

-- ---- the order of parts of code

short_order : (a b : Code) (j n l i : Instruction) → a ++ (j ∷ (b ++ n ∷ l ∷ []) ++ i ∷ []) ≡ a ++ j ∷ b ++ n ∷ l ∷ i ∷ []
short_order a b j n l i = simp append_assoc refl

choice_order : (c a b : Code) (j l : Instruction) → c ++ ((j ∷ (a ++ l ∷ [])) ++ b) ≡ c ++ (j ∷ a ++ l ∷ b)
choice_order c a b j l = simp append_assoc refl

counted : (look : Definitions) (env : Environment) (es : Expressions) → length (types_of look env es) ≡ count es
counted look env NoExpressions = refl
counted look env (ExpressionThen e es) = ap suc (counted look env es)

operands : (op : BinOp) (a b : BareType) → IsInteger a → IsInteger b → AreOperands op a b
operands op (IntegerType a) (IntegerType b) h g = tt
operands op (HandleType a) b h g = absurd h
operands op ThreadType b h g = absurd h
operands op (IntegerType a) (HandleType b) h g = absurd g
operands op (IntegerType a) ThreadType h g = absurd g

becomes : (t : BareType) (k : Kind) → IsInteger t → Becomes t (IntegerType k)
becomes (IntegerType j) k h = tt
becomes (HandleType tag) k h = absurd h
becomes ThreadType k h = absurd h

null_is_constant : (t : BareType) (e : Expression) → IsNullFor t e → constant_of e ≡ None → ⊥
null_is_constant (IntegerType k) e h g = h
null_is_constant ThreadType e h g = h
null_is_constant (HandleType tag) (Constant n) h g = none_some g refl
null_is_constant (HandleType tag) e h g = h

module _ (look : Definitions) (result : WordKind) (room tr : ℕ) (env : Environment) where
  -- a stack in the scope of the variables
  abbrev pub on : Words → Shape
  on stack = shape tr (kinds_of (in_scope env)) stack

  -- some code that leads from one stack to another
  abbrev pub Stacks : Bool → Targets → Code → Words → Words → Type 0
  Stacks r k is stack left = Segment look result room r k is (on stack) (on left)

  pub to : {r : Bool} {k : Targets} {is : Code} {stack left other : Words} → left ≡ other → Stacks r k is stack left → Stacks r k is stack other
  to {r} {k} {is} {stack} e f = subst (λ x. Stacks r k is stack x) e f

  pub plain : {r : Bool} {k : Targets} {stack left : Words} (i : Instruction) → ((p : ℕ) → leads_to p i ≡ suc p ∷ [])
      → ((shapes : Shapes) (p : ℕ) → Edge look result room shapes p i) → after look result room i (on stack) ≡ Some (on left)
      → length left ≤ deepest → Stacks r k (i ∷ []) stack left
  plain i leads edge leaves shallow = one look result room i leads edge leaves shallow

  pub stopped : {r : Bool} {k : Targets} {stack left : Words} (s : Stop) (n : ℕ) → ((p : ℕ) → leads_to p (Halt s n) ≡ suc p ∷ [])
      → transactions_after s tr ≡ Some tr
      → due_after s n ≡ None
      → after_stop look result s stack ≡ Some left → length left ≤ deepest → Stacks r k (Halt s n ∷ []) stack left
  stopped {r} {k} {stack} {left} s n leads opened due leaves shallow =
      one look result room (Halt s n) leads (λ shapes p. tt)
      (halted look result room tr (kinds_of (in_scope env)) s n stack left tr None leaves opened due) shallow

  -- ---- constants, operators

  constant_formed : {r : Bool} {k : Targets} {stack : Words} (t : BareType) (v : Int) → length stack + 1 ≤ deepest
      → Stacks r k (constant_code t v ∷ []) stack (word_kind t ∷ stack)
  constant_formed (IntegerType k) v d = plain _ (λ p. refl) (λ shapes p. tt) refl (omega (arith, d))
  constant_formed (HandleType tag) v d = plain _ (λ p. refl) (λ shapes p. tt) refl (omega (arith, d))
  constant_formed ThreadType v d = plain _ (λ p. refl) (λ shapes p. tt) refl (omega (arith, d))

  pub int_formed : {r : Bool} {k : Targets} {stack : Words} (n : ℕ) → length stack + 1 ≤ deepest
      → Stacks r k (int_code n ∷ []) stack (Integer ∷ stack)
  int_formed n d = plain (int_code n) (λ p. refl) (λ shapes p. tt) refl (omega (arith, d))

  converts : {r : Bool} {k : Targets} {stack : Words} (b : Bool) (j : Kind) → length stack + 1 ≤ deepest
      → Stacks r k (if b then [] else instruction.Convert j ∷ []) (Integer ∷ stack) (Integer ∷ stack)
  converts true j d = nothing look result room _ _ _
  converts false j d = plain (instruction.Convert j) (λ p. refl) (λ shapes p. tt) refl (omega (arith, d))

  conversion_formed : {r : Bool} {k : Targets} {stack : Words} (t u : BareType) → Becomes t u → length stack + 1 ≤ deepest
      → Stacks r k (conversion t u) (word_kind u ∷ stack) (word_kind t ∷ stack)
  conversion_formed (IntegerType k) (IntegerType j) h d = converts (keeps_word k j) k d
  conversion_formed (HandleType a) (HandleType b) h d = nothing look result room _ _ _
  conversion_formed ThreadType ThreadType h d = nothing look result room _ _ _
  conversion_formed (IntegerType k) (HandleType b) h d = absurd h
  conversion_formed (IntegerType k) ThreadType h d = absurd h
  conversion_formed (HandleType a) (IntegerType j) h d = absurd h
  conversion_formed (HandleType a) ThreadType h d = absurd h
  conversion_formed ThreadType (IntegerType j) h d = absurd h
  conversion_formed ThreadType (HandleType b) h d = absurd h

  converted : {r : Bool} {k : Targets} {code : Code} {stack : Words} (t u : BareType) (o : Option Int) → length stack + 1 ≤ deepest
      → (o ≡ None → Becomes t u) → ((q : Bool) (j : Targets) → Stacks q j code stack (word_kind u ∷ stack))
      → Stacks r k (converted_code t u o code) stack (word_kind t ∷ stack)
  converted t u (Some v) d h f = constant_formed t v d
  converted {r} t u None d h f = and_then look result room (f r _) (λ q. conversion_formed t u (h refl) d)

  applied : {r : Bool} {k : Targets} {stack : Words} (op : UnOp) (t : BareType) → IsOperand op t → length stack + 1 ≤ deepest
      → Stacks r k (application op t) (word_kind t ∷ stack) (Integer ∷ stack)
  applied unary.Not t h d = plain IsZero (λ p. refl) (λ shapes p. tt) refl (omega (arith, d))
  applied {r} {k} {stack} unary.Plus t h d =
      subst (λ w. Stacks r k [] (w ∷ stack) (Integer ∷ stack)) (sym (integer_of t h)) (nothing look result room r k (on (Integer ∷ stack)))
  applied {r} {k} {stack} op t h d =
      subst (λ w. Stacks r k (application op t) (w ∷ stack) (Integer ∷ stack)) (sym (integer_of t h))
      (plain _ (λ p. refl) (λ shapes p. tt) refl (omega (arith, d)))

  compared : {r : Bool} {k : Targets} {stack : Words} (op : BinOp) → length stack + 1 ≤ deepest
      → Stacks r k (comparison op ∷ []) (Handle ∷ Handle ∷ stack) (Integer ∷ stack)
  compared binary.Eq d = plain _ (λ p. refl) (λ shapes p. tt) refl (omega (arith, d))
  compared op d = plain _ (λ p. refl) (λ shapes p. tt) refl (omega (arith, d))

  combined : {r : Bool} {k : Targets} {stack : Words} (op : BinOp) (a b : BareType) → AreOperands op a b → length stack + 1 ≤ deepest
      → Stacks r k (combination op a b ∷ []) (word_kind b ∷ word_kind a ∷ stack) (Integer ∷ stack)
  combined op (IntegerType a) (IntegerType b) h d = plain _ (λ p. refl) (λ shapes p. tt) refl (omega (arith, d))
  combined op (HandleType a) (HandleType b) h d = compared op d
  combined op (IntegerType a) (HandleType b) h d = absurd h
  combined op (IntegerType a) ThreadType h d = absurd h
  combined op (HandleType a) (IntegerType b) h d = absurd h
  combined op (HandleType a) ThreadType h d = absurd h
  combined op ThreadType b h d = absurd h

  -- an operator and the conversion of its value to the type of the place
  changed : {r : Bool} {k : Targets} {stack : Words} (op : BinOp) (t u : BareType) → IsInteger t → IsInteger u → length stack + 1 ≤ deepest
      → Stacks r k (combination op t u ∷ conversion t (result_of op t u)) (word_kind u ∷ word_kind t ∷ stack) (word_kind t ∷ stack)
  changed op t u h g d =
      and_then look result room (combined op t u (operands op t u h g) d) (λ q. conversion_formed t (result_of op t u) (becomes t _ h) d)

  -- ---- places

  got : {r : Bool} {k : Targets} {stack : Words} (p : Place) (n : ℕ) → IsPlaced look env p → length stack + 1 ≤ deepest
      → Stacks r k (getting env p n ∷ []) (part_kinds p ++ stack) (word_kind (place_type look env p) ∷ stack)
  got {r} {k} {stack} (Local name) n h d =
      plain (Load (slot env name)) (λ p. refl) (λ shapes p. tt)
      (ap (option_map (λ w. on (w ∷ stack))) (variable_at (in_scope env) name h)) (omega (arith, d))
  got {r} {k} {stack} (Global name) n h d =
      stopped (stop.ReadGlobal name) n (λ p. refl) refl refl (read_global look result name stack h) (omega (arith, d))
  got {r} {k} {stack} (Element name index) n h d =
      stopped (stop.ReadElement name) n (λ p. refl) refl refl (read_element look result name stack h.2) (omega (arith, d))
  got {r} {k} {stack} (Field tag handle name) n h d =
      stopped (stop.ReadField tag name) n (λ p. refl) refl refl (read_field look result tag name stack h.2) (omega (arith, d))

  got_as : {r : Bool} {k : Targets} {stack : Words} (t : BareType) (p : Place) (n : ℕ) → t ≡ place_type look env p → IsPlaced look env p
      → length stack + 1 ≤ deepest → Stacks r k (getting env p n ∷ []) (part_kinds p ++ stack) (word_kind t ∷ stack)
  got_as {r} {k} {stack} t p n e h d =
      subst (λ x. Stacks r k (getting env p n ∷ []) (part_kinds p ++ stack) (word_kind x ∷ stack)) (sym e) (got p n h d)

  pub stored_local : {r : Bool} {k : Targets} {stack : Words} (name : Bytes) → IsPlaced look env (Local name) → length stack ≤ deepest
      → Stacks r k (Store (slot env name) ∷ []) (word_kind (place_type look env (Local name)) ∷ stack) stack
  stored_local {r} {k} {stack} name h d =
      plain (Store (slot env name)) (λ p. refl) (λ shapes p. tt)
      (ap (option_map (λ v. shape tr v stack)) (stored_in room (slot env name) _ (kinds_of (in_scope env)) (variable_at (in_scope env) name h))) d

  written : {r : Bool} {k : Targets} {stack : Words} (p : Place) (n : ℕ) → IsPlaced look env p → length stack + 2 ≤ deepest
      → let w = word_kind (place_type look env p) in Stacks r k (setting env p n) (w ∷ (part_kinds p ++ stack)) (w ∷ stack)
  written {r} {k} {stack} (Local name) n h d =
      and_then look result room (plain Copy (λ p. refl) (λ shapes p. tt) refl (omega (arith, d))) (λ q. stored_local name h (omega (arith, d)))
  written {r} {k} {stack} (Global name) n h d =
      stopped (stop.WriteGlobal name) n (λ p. refl) refl refl (write_global look result name stack h) (omega (arith, d))
  written {r} {k} {stack} (Element name index) n h d =
      stopped (stop.WriteElement name) n (λ p. refl) refl refl (write_element look result name stack h.2) (omega (arith, d))
  written {r} {k} {stack} (Field tag handle name) n h d =
      stopped (stop.WriteField tag name) n (λ p. refl) refl refl (write_field look result tag name stack h.2) (omega (arith, d))

  dropped : {r : Bool} {k : Targets} {stack : Words} (w : WordKind) → length stack + 1 ≤ deepest → Stacks r k (Drop ∷ []) (w ∷ stack) stack
  dropped w d = plain Drop (λ p. refl) (λ shapes p. tt) refl (omega (arith, d))

  pub written_only : {r : Bool} {k : Targets} {stack : Words} (p : Place) (n : ℕ) → IsPlaced look env p → length stack + 2 ≤ deepest
      → Stacks r k (setting_only env p n) (word_kind (place_type look env p) ∷ (part_kinds p ++ stack)) stack
  written_only (Local name) n h d = stored_local name h (omega (arith, d))
  written_only (Global name) n h d = and_then look result room (written (Global name) n h d) (λ q. dropped _ (omega (arith, d)))
  written_only (Element name index) n h d = and_then look result room (written (Element name index) n h d) (λ q. dropped _ (omega (arith, d)))
  written_only (Field tag handle name) n h d = and_then look result room (written (Field tag handle name) n h d) (λ q. dropped _ (omega (arith, d)))

  copied : {r : Bool} {k : Targets} (stack : Words) (p : Place) → length stack + part_words p + part_words p ≤ deepest
      → Stacks r k (copying p) (part_kinds p ++ stack) (part_kinds p ++ (part_kinds p ++ stack))
  copied stack (Local name) d = nothing look result room _ _ _
  copied stack (Global name) d = nothing look result room _ _ _
  copied stack (Element name index) d = plain Copy (λ p. refl) (λ shapes p. tt) refl (omega (arith, d))
  copied stack (Field tag handle name) d = plain Copy (λ p. refl) (λ shapes p. tt) refl (omega (arith, d))

  tucked : {r : Bool} {k : Targets} (stack : Words) (p : Place) (w : WordKind) → length stack + (part_words p + 2) ≤ deepest
      → Stacks r k (tucking p ∷ []) (w ∷ (part_kinds p ++ stack)) (w ∷ (part_kinds p ++ (w ∷ stack)))
  tucked stack (Local name) w d = plain _ (λ p. refl) (λ shapes p. tt) refl (omega (arith, d))
  tucked stack (Global name) w d = plain _ (λ p. refl) (λ shapes p. tt) refl (omega (arith, d))
  tucked stack (Element name index) w d = plain _ (λ p. refl) (λ shapes p. tt) refl (omega (arith, d))
  tucked stack (Field tag handle name) w d = plain _ (λ p. refl) (λ shapes p. tt) refl (omega (arith, d))

  swapped : {r : Bool} {k : Targets} (stack : Words) (p : Place) (w : WordKind) → length stack + (part_words p + 1) ≤ deepest
      → Stacks r k (swapping p) (part_kinds p ++ (w ∷ stack)) (w ∷ (part_kinds p ++ stack))
  swapped stack (Local name) w d = nothing look result room _ _ _
  swapped stack (Global name) w d = nothing look result room _ _ _
  swapped stack (Element name index) w d = plain Swap (λ p. refl) (λ shapes p. tt) refl (omega (arith, d))
  swapped stack (Field tag handle name) w d = plain Swap (λ p. refl) (λ shapes p. tt) refl (omega (arith, d))

  kinds_length : (p : Place) (stack : Words) → length (part_kinds p ++ stack) ≡ length stack + part_words p
  kinds_length (Local name) stack = omega arith
  kinds_length (Global name) stack = omega arith
  kinds_length (Element name index) stack = omega arith
  kinds_length (Field tag handle name) stack = omega arith

  few_words : (p : Place) → part_words p ≤ 1
  few_words (Local name) = omega arith
  few_words (Global name) = omega arith
  few_words (Element name index) = omega arith
  few_words (Field tag handle name) = omega arith

  -- ---- `&&` and `||`

  module _ (a b : Code) (stack : Words) (x y : WordKind) (jumps : ℕ → Instruction) (i : ℕ) where
    abbrev tail : Code
    tail = IsNotZero ∷ Jump 1 ∷ []

    abbrev End : Targets → Targets
    End k = more (record { far = 0; shape = on (Integer ∷ stack); real = true }) k

    abbrev Given : Targets → Targets
    Given k = more (record { far = 0; shape = on stack; real = true }) (further 1 (End k))

    tested : (r : Bool) (k : Targets) → length stack + 1 ≤ deepest → Stacks r (Given k) tail (y ∷ stack) stack
    tested r k d =
        and_then look result room (plain {r = r} {k = further 1 (Given k)} {stack = y ∷ stack} {left = Integer ∷ stack} IsNotZero (λ p. refl) (λ shapes p. tt) refl (omega (arith, d)))
        (λ q. jump look result room {r = q} {k = Given k} {s = on (Integer ∷ stack)} {t = on stack} 1 1 refl refl (same_shape (on (Integer ∷ stack))) refl (omega (arith, d)))

    none_on : (n m : ℕ) → n ≡ m + 2 → n + 0 ≡ m + 2
    none_on n m e = omega (arith, e)

    side : (r : Bool) (k : Targets) → Forks look result room (jumps (length b + 2)) (length b + 2)
        → after look result room (jumps (length b + 2)) (on (x ∷ stack)) ≡ Some (on stack) → length stack + 1 ≤ deepest
        → ((q : Bool) (j : Targets) → Stacks q j b stack (y ∷ stack))
        → Stacks r k (jumps (length b + 2) ∷ (b ++ tail) ++ int_code i ∷ []) (x ∷ stack) (Integer ∷ stack)
    side r k forks leaves d g =
        land look result room (and_then look result room {m = on stack} (land look result room
        (and_then look result room
        (fork look result room {r = r} {k = further (length (b ++ tail)) (Given k)} {s = on (x ∷ stack)} {left = on stack} (jumps (length b + 2)) 0 (length b + 2)
        forks.leads forks.edge (none_on (length (b ++ tail)) (length b) (length-append b tail)) refl (same_shape (on stack)) leaves (omega (arith, d)))
        (λ q. and_then look result room (g q _) (λ o. tested o k d))))
        (λ q. int_formed i d))

    pub short : (r : Bool) (k : Targets) → Forks look result room (jumps (length b + 2)) (length b + 2)
        → after look result room (jumps (length b + 2)) (on (x ∷ stack)) ≡ Some (on stack) → length stack + 1 ≤ deepest
        → ((q : Bool) (j : Targets) → Stacks q j a stack (x ∷ stack)) → ((q : Bool) (j : Targets) → Stacks q j b stack (y ∷ stack))
        → Stacks r k (a ++ jumps (length b + 2) ∷ b ++ IsNotZero ∷ Jump 1 ∷ int_code i ∷ []) stack (Integer ∷ stack)
    short r k forks leaves d f g =
        recoded look result room (short_order a b (jumps (length b + 2)) IsNotZero (Jump 1) (int_code i))
        (and_then look result room (f r _) (λ q. side q k forks leaves d g))

  if_zero : (d : ℕ) → Forks look result room (JumpIfZero d) d
  if_zero d = record { leads = λ p. refl; edge = λ shapes p. tt }

  unless_zero : (d : ℕ) → Forks look result room (JumpUnlessZero d) d
  unless_zero d = record { leads = λ p. refl; edge = λ shapes p. tt }

  one_longer : (a : Code) (i : Instruction) → suc (length a) ≡ length (a ++ i ∷ [])
  one_longer a i = more_by (length-append a (i ∷ []))
    where
      more_by : {n : ℕ} → n ≡ length a + 1 → suc (length a) ≡ n
      more_by e = omega (arith, e)

  -- ---- `p op= e`, `p++`

  -- the value of `p op= e`, up to the write
  updated : (r : Bool) (k : Targets) (p : Place) (pieces : Code) (n : ℕ) (op : BinOp) (t u : BareType) (v : Code) (stack : Words)
      → IsPlaced look env p → t ≡ place_type look env p → IsInteger t → IsInteger u
      → length stack + (part_words p + 2) ≤ deepest
      → ((q : Bool) (j : Targets) → Stacks q j pieces stack (part_kinds p ++ stack))
      → ((q : Bool) (j : Targets) → Stacks q j v (word_kind t ∷ (part_kinds p ++ stack)) (word_kind u ∷ word_kind t ∷ (part_kinds p ++ stack)))
      → Stacks r k (pieces ++ copying p ++ getting env p n ∷ v ++ combination op t u ∷ conversion t (result_of op t u))
      stack (word_kind t ∷ (part_kinds p ++ stack))
  updated r k p pieces n op t u v stack h e ht hu d f g =
      and_then look result room (and_then look result room (and_then look result room (f r _)
      (λ q. copied stack p (omega (arith, d, few_words p))))
      (λ q. and_then look result room
      (got_as {stack = part_kinds p ++ stack} t p n e h (omega (arith, d, kinds_length p stack)))
      (λ o. g o _)))
      (λ q. changed op t u ht hu (omega (arith, d, kinds_length p stack)))

  -- what is written, by its type
  write_as : {r : Bool} {k : Targets} {stack : Words} (t : BareType) (p : Place) (n : ℕ) → t ≡ place_type look env p → IsPlaced look env p
      → length stack + 2 ≤ deepest → Stacks r k (setting env p n) (word_kind t ∷ (part_kinds p ++ stack)) (word_kind t ∷ stack)
  write_as {r} {k} {stack} t p n e h d =
      subst (λ x. Stacks r k (setting env p n) (word_kind x ∷ (part_kinds p ++ stack)) (word_kind x ∷ stack)) (sym e) (written p n h d)

  pub write_only_as : {r : Bool} {k : Targets} {stack : Words} (t : BareType) (p : Place) (n : ℕ) → t ≡ place_type look env p → IsPlaced look env p
      → length stack + 2 ≤ deepest → Stacks r k (setting_only env p n) (word_kind t ∷ (part_kinds p ++ stack)) stack
  write_only_as {r} {k} {stack} t p n e h d =
      subst (λ x. Stacks r k (setting_only env p n) (word_kind x ∷ (part_kinds p ++ stack)) stack) (sym e) (written_only p n h d)

  -- the old value of `p++` under the new one
  stepped : (r : Bool) (k : Targets) (p : Place) (pieces : Code) (n : ℕ) (op : BinOp) (t : BareType) (stack : Words)
      → IsPlaced look env p → t ≡ place_type look env p → IsInteger t → length stack + (part_words p + 3) ≤ deepest
      → ((q : Bool) (j : Targets) → Stacks q j pieces stack (part_kinds p ++ stack))
      → Stacks r k
      (pieces ++ copying p ++ getting env p n ∷ tucking p ∷ int_code 1 ∷ combination op t (IntegerType I32) ∷ conversion t (result_of op t (IntegerType I32)))
      stack (word_kind t ∷ (part_kinds p ++ (word_kind t ∷ stack)))
  stepped r k p pieces n op t stack h e ht d f =
      let w = word_kind t in
      let l = kinds_length p (w ∷ stack) in
      and_then look result room (and_then look result room (f r _) (λ q. copied stack p (omega (arith, d, few_words p))))
      (λ q. and_then look result room
      (got_as {stack = part_kinds p ++ stack} t p n e h (omega (arith, d, kinds_length p stack)))
      (λ o. and_then look result room (tucked stack p w (omega (arith, d)))
      (λ z. and_then look result room (int_formed 1 (omega (arith, d, l)))
      (λ y. changed op t (IntegerType I32) ht tt (omega (arith, d, l))))))

  -- ---- stops with what is behind them

  pub checked_in : {r : Bool} {k : Targets} {stack left : Words} (s : Stop) (n : ℕ) (kind : CheckInKind) (opened : ℕ)
      → ((p : ℕ) → leads_to p (Halt s n) ≡ suc p ∷ []) → transactions_after s tr ≡ Some opened
      → due_after s n ≡ Some (record { kind = kind; number = suc n })
      → same_check_in kind kind ≡ true → after_stop look result s stack ≡ Some left → length left ≤ deepest
      → Segment look result room r k (Halt s n ∷ CheckIn kind (suc n) ∷ []) (on stack) (shape opened (kinds_of (in_scope env)) left)
  checked_in {r} {k} {stack} {left} s n kind opened leads changes due same leaves shallow =
      and_then look result room
      (one look result room (Halt s n) leads (λ shapes p. tt)
      (halted look result room tr (kinds_of (in_scope env)) s n stack left opened (Some (record { kind = kind; number = suc n })) leaves changes due) shallow)
      (λ q. one look result room (CheckIn kind (suc n)) (λ p. refl) (λ shapes p. tt)
      (checked look result room opened (kinds_of (in_scope env)) left kind (suc n) same) shallow)

  becoming : (t : BareType) (a : Expression) → Becomes t (type_of look env a) ⊎ IsNullFor t a → constant_of a ≡ None
      → Becomes t (type_of look env a)
  becoming t a (inl h) e = h
  becoming t a (inr h) e = absurd (null_is_constant t a h e)

  -- ---- expressions

  mutual
    pub value_formed : (r : Bool) (k : Targets) (e : Expression) (n : ℕ) (stack : Words) → IsTyped look env e
        → length stack + depth e ≤ deepest → Stacks r k (value look env e n) stack (word_kind (type_of look env e) ∷ stack)
    value_formed r k (Constant v) n stack h d = plain (number_code v) (λ p. refl) (λ shapes p. tt) refl (omega (arith, d))
    value_formed r k (Read p) n stack h d =
        and_then look result room (part_formed r _ p n stack h (omega (arith, d))) (λ q. got p _ h (omega (arith, d)))
    value_formed r k (Unary op a) n stack h d =
        and_then look result room (value_formed r _ a n stack h.0 d)
        (λ q. applied op (type_of look env a) h.1 (room_for_one a (length stack) d))
    value_formed r k (Binary op a b) n stack h d =
        let x = type_of look env a in
        and_then look result room (and_then look result room (value_formed r _ a n stack h.0 (omega (arith, d)))
        (λ q. value_formed q _ b _ (word_kind x ∷ stack) h.1 (omega (arith, d))))
        (λ q. combined op x (type_of look env b) h.2 (omega (arith, d)))
    value_formed r k (Convert type a) n stack h d =
        converted type (type_of look env a) (constant_of a) (room_for_one a (length stack) d)
        (λ e. becoming type a h.1 e) (λ q j. value_formed q j a n stack h.0 d)
    value_formed r k (And a b) n stack h d =
        short (value look env a n) (value look env b (n + size a)) stack (word_kind (type_of look env a)) (word_kind (type_of look env b))
        JumpIfZero 0 r k (if_zero _) refl (omega (arith, d, positive a))
        (λ q j. value_formed q j a n stack h.0 (omega (arith, d))) (λ q j. value_formed q j b (n + size a) stack h.1 (omega (arith, d)))
    value_formed r k (Or a b) n stack h d =
        short (value look env a n) (value look env b (n + size a)) stack (word_kind (type_of look env a)) (word_kind (type_of look env b))
        JumpUnlessZero 1 r k (unless_zero _) refl (omega (arith, d, positive a))
        (λ q j. value_formed q j a n stack h.0 (omega (arith, d))) (λ q j. value_formed q j b (n + size a) stack h.1 (omega (arith, d)))
    value_formed r k (Choice c a b) n stack h d =
        let m = n + size c in
        let x = value look env a m in
        let y = value look env b (m + size a) in
        let w = word_kind (type_of look env a) in
        recoded look result room (choice_order (value look env c n) x y (JumpIfZero (suc (length x))) (Jump (length y)))
        (and_then look result room (value_formed r _ c n stack h.0 (omega (arith, d)))
        (λ q. branches look result room k x y (on (word_kind (type_of look env c) ∷ stack)) (on stack) (on (w ∷ stack)) q
        (JumpIfZero (suc (length x))) (suc (length x)) (if_zero _) (one_longer x (Jump (length y))) refl
        (omega (arith, d, positive c)) (omega (arith, d, positive c)) (λ z. refl)
        (λ o. value_formed o _ a m stack h.1 (omega (arith, d)))
        (λ o. to (ap (λ t. word_kind t ∷ stack) h.4) (value_formed o _ b (m + size a) stack h.2 (omega (arith, d))))))
    value_formed r k (Assign p e) n stack h d =
        to (ap (λ t. word_kind t ∷ stack) h.2)
        (and_then look result room (and_then look result room (part_formed r _ p n stack h.0 (omega (arith, d)))
        (λ q. value_formed q _ e (n + size_parts p) (part_kinds p ++ stack) h.1 (omega (arith, d, kinds_length p stack))))
        (λ q. write_as (type_of look env e) p _ h.2 h.0 (omega (arith, d))))
    value_formed r k (Update type op p e) n stack h d =
        and_then look result room
        (updated r _ p (parts look env p n) (n + size_parts p) op type (type_of look env e) (value look env e (n + size_parts p + size_read p)) stack h.0 h.2 h.3 h.4
        (omega (arith, d, positive e))
        (λ q j. part_formed q j p n stack h.0 (omega (arith, d)))
        (λ q j. value_formed q j e (n + size_parts p + size_read p) (word_kind type ∷ (part_kinds p ++ stack)) h.1 (omega (arith, d, kinds_length p stack))))
        (λ q. write_as type p _ h.2 h.0 (omega (arith, d, positive e)))
    value_formed r k (Postfix type op p) n stack h d =
        and_then look result room
        (stepped r _ p (parts look env p n) (n + size_parts p) op type stack h.0 h.1 h.2 (omega (arith, d))
        (λ q j. part_formed q j p n stack h.0 (omega (arith, d))))
        (λ q. write_only_as {stack = word_kind type ∷ stack} type p _ h.1 h.0 (omega (arith, d)))
    value_formed r k (Call name arguments) n stack h d =
        and_then look result room (values_formed r _ arguments n stack h.0 (omega (arith, d)))
        (λ q. checked_in (stop.Call name (count arguments)) _ check_in.Call tr (λ p. refl) refl refl refl
        (call look result name (count arguments) (types_of look env arguments) stack h.1 h.2 (counted look env arguments)) (omega (arith, d)))
    value_formed r k (Print format arguments) n stack h d =
        and_then look result room (values_formed r _ arguments n stack h.0 (omega (arith, d)))
        (λ q. stopped (stop.Print format (count arguments)) _ (λ p. refl) refl refl
        (print look result format (count arguments) (types_of look env arguments) stack h.1 (counted look env arguments)) (omega (arith, d)))
    value_formed r k (New tag) n stack h d =
        stopped (stop.New tag) n (λ p. refl) refl refl (new_object look result tag stack h) (omega (arith, d))
    value_formed r k (Free tag e) n stack h d =
        and_then look result room (to (ap (λ t. word_kind t ∷ stack) h.1) (value_formed r _ e n stack h.0 d))
        (λ q. stopped (stop.Free tag) _ (λ p. refl) refl refl refl (omega (arith, d, positive e)))
    value_formed r k (Create p name e) n stack h d =
        and_then look result room (and_then look result room (and_then look result room (part_formed r _ p n stack h.0 (omega (arith, d)))
        (λ q. value_formed q _ e (n + size_parts p) (part_kinds p ++ stack) h.1 (omega (arith, d, kinds_length p stack))))
        (λ q. and_then look result room
        (stopped (stop.Spawn name) _ (λ p. refl) refl refl (spawn look result name (type_of look env e) (part_kinds p ++ stack) h.3)
        (omega (arith, d, kinds_length p stack)))
        (λ o. write_as ThreadType p _ (sym h.2) h.0 (omega (arith, d)))))
        (λ q. plain IsZero (λ p. refl) (λ shapes p. tt) refl (omega (arith, d)))
    value_formed r k (Join e) n stack h d =
        and_then look result room (to (ap (λ t. word_kind t ∷ stack) h.1) (value_formed r _ e n stack h.0 d))
        (λ q. and_then look result room
        (stopped {stack = Thread ∷ stack} {left = Integer ∷ stack} stop.Join _ (λ p. refl) refl refl refl (omega (arith, d, positive e)))
        (λ o. and_then look result room (dropped Integer (omega (arith, d, positive e))) (λ z. int_formed 0 (omega (arith, d, positive e)))))
    value_formed r k (JoinInto e p) n stack h d =
        and_then look result room (and_then look result room (and_then look result room
        (and_then look result room (to (ap (λ t. word_kind t ∷ stack) h.2) (value_formed r _ e n stack h.0 (omega (arith, d))))
        (λ q. part_formed q _ p _ (Thread ∷ stack) h.1 (omega (arith, d))))
        (λ q. swapped stack p Thread (omega (arith, d))))
        (λ q. and_then look result room
        (stopped {stack = Thread ∷ (part_kinds p ++ stack)} {left = Integer ∷ (part_kinds p ++ stack)} stop.Join _ (λ p. refl) refl refl refl
        (omega (arith, d, kinds_length p stack)))
        (λ o. write_only_as int p _ (sym h.3) h.1 (omega (arith, d)))))
        (λ q. int_formed 0 (omega (arith, d)))
    value_formed r k (InitMutex name) n stack h d =
        stopped (stop.InitMutex name) n (λ p. refl) refl refl (at_mutex look result name stack h) (omega (arith, d))
    value_formed r k (Lock name) n stack h d =
        stopped (stop.Lock name) n (λ p. refl) refl refl (at_mutex look result name stack h) (omega (arith, d))
    value_formed r k (Unlock name) n stack h d =
        stopped (stop.Unlock name) n (λ p. refl) refl refl (at_mutex look result name stack h) (omega (arith, d))

    values_formed : (r : Bool) (k : Targets) (es : Expressions) (n : ℕ) (stack : Words) → AreTyped look env es
        → length stack + depth_all es ≤ deepest → Stacks r k (values look env es n) stack (pushed (map word_kind (types_of look env es)) stack)
    values_formed r k NoExpressions n stack h d = nothing look result room r k (on stack)
    values_formed r k (ExpressionThen e es) n stack h d =
        and_then look result room (value_formed r _ e n stack h.0 (omega (arith, d)))
        (λ q. values_formed q _ es _ (word_kind (type_of look env e) ∷ stack) h.1 (omega (arith, d)))

    part_formed : (r : Bool) (k : Targets) (p : Place) (n : ℕ) (stack : Words) → IsPlaced look env p
        → length stack + depth_parts p ≤ deepest → Stacks r k (parts look env p n) stack (part_kinds p ++ stack)
    part_formed r k (Local name) n stack h d = nothing look result room r k (on stack)
    part_formed r k (Global name) n stack h d = nothing look result room r k (on stack)
    part_formed r k (Element name index) n stack h d =
        to (ap (λ w. w ∷ stack) (integer_of (type_of look env index) h.1)) (value_formed r k index n stack h.0 d)
    part_formed r k (Field tag handle name) n stack h d =
        to (ap (λ t. word_kind t ∷ stack) h.1) (value_formed r k handle n stack h.0 d)

  -- the parts of a place, and what is written there
  assigned : (r : Bool) (k : Targets) (p : Place) (e : Expression) (n : ℕ) (stack : Words) → IsPlaced look env p → IsTyped look env e
      → length stack + max (depth_parts p) (part_words p + max 2 (depth e)) ≤ deepest
      → Stacks r k (parts look env p n ++ value look env e (n + size_parts p)) stack (word_kind (type_of look env e) ∷ (part_kinds p ++ stack))
  assigned r k p e n stack h g d =
      and_then look result room (part_formed r _ p n stack h (omega (arith, d)))
      (λ q. value_formed q _ e (n + size_parts p) (part_kinds p ++ stack) g (omega (arith, d, kinds_length p stack)))

  operated : (r : Bool) (k : Targets) (type : BareType) (op : BinOp) (p : Place) (e : Expression) (n : ℕ) (stack : Words)
      → IsPlaced look env p → IsTyped look env e → type ≡ place_type look env p → IsInteger type → IsInteger (type_of look env e)
      → length stack + max (depth_parts p) (part_words p + suc (depth e)) ≤ deepest
      → let o = n + size_parts p in
      Stacks r k (parts look env p n ++ copying p ++ getting env p o ∷ value look env e (o + size_read p)
      ++ combination op type (type_of look env e) ∷ conversion type (result_of op type (type_of look env e)))
      stack (word_kind type ∷ (part_kinds p ++ stack))
  operated r k type op p e n stack h g same ht hu d =
      let o = n + size_parts p in
      updated r k p (parts look env p n) o op type (type_of look env e) (value look env e (o + size_read p)) stack h same ht hu
      (omega (arith, d, positive e))
      (λ q j. part_formed q j p n stack h (omega (arith, d)))
      (λ q j. value_formed q j e (o + size_read p) (word_kind type ∷ (part_kinds p ++ stack)) g (omega (arith, d, kinds_length p stack)))

  -- an expression whose value is dropped
  pub effect_formed : (r : Bool) (k : Targets) (e : Expression) (n : ℕ) → IsTyped look env e → depth e ≤ deepest
      → Stacks r k (effect look env e n) [] []
  effect_formed r k (Assign p e) n h d =
      and_then look result room (assigned r _ p e n [] h.0 h.1 (omega (arith, d)))
      (λ q. write_only_as (type_of look env e) p _ h.2 h.0 (omega arith))
  effect_formed r k (Update type op p e) n h d =
      and_then look result room (operated r _ type op p e n [] h.0 h.1 h.2 h.3 h.4 (omega (arith, d)))
      (λ q. write_only_as type p _ h.2 h.0 (omega arith))
  effect_formed r k (Postfix type op (Local name)) n h d =
      and_then look result room (and_then look result room
      (got_as {stack = []} type (Local name) n h.1 h.0 (omega arith))
      (λ q. and_then look result room (int_formed 1 (omega arith)) (λ o. changed op type (IntegerType I32) h.2 tt (omega arith))))
      (λ q. write_only_as {stack = []} type (Local name) 0 h.1 h.0 (omega arith))
  effect_formed r k e n h d =
      and_then look result room (value_formed r _ e n [] h (omega (arith, d))) (λ q. dropped _ (omega arith))
