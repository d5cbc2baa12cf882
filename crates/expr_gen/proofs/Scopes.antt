-- Of the variables that are declared, an expression's code depends on those in scope alone, and not on their blocks.
use Rattle.std.proofs.Common.{◌≡◌, ℕ, suc, ◌+◌, [], ◌∷◌, ◌++◌, refl, ap, ◌∙◌}
use Rattle.c_ints.specs.declared.kind.Kind.TheVariants.{I32}
use Rattle.c_ints.specs.Arithmetic.{binary_kind, unary_kind}
use Rattle.run_types.specs.CheckIns as check_in
use Rattle.c_tree.specs.BareExpr.{Bytes, Integer}
use Rattle.c_semantics.specs.Evaluation.{count}
use Rattle.c_semantics.specs.Points.{size, size_all, size_parts, size_read}
use Rattle.c_semantics.specs.Resolution.{kind}
use Rattle.c_semantics.specs.Resolved.{Expression, Expressions, Place, Constant, Read, Unary, Binary, Convert, And, Or, Choice, Assign, Update, Postfix, Call, Print, New, Free, Create, Join, JoinInto, InitMutex, Lock, Unlock, NoExpressions, ExpressionThen, Local, Global, Element, Field}
use Rattle.c_semantics.specs.Stops as stop
use Rattle.c_semantics.specs.Texts.{Definitions, bound_type}
use Rattle.typed_trees.specs.ValueTypes.{Environment, in_scope}
use Rattle.typed_trees.specs.ExpressionTypes.{type_of, place_type}
use Rattle.bytecode.specs.Instructions.{Copy, Load, Store, Drop, Halt, CheckIn, IsZero, JumpIfZero}
use Rattle.tree_code.specs.Code.{slot_in, slot, int_code, combination, conversion, result_of, application, converted_code, constant_of, and_code, or_code, either, getting, setting, setting_only, copying, tucking, swapping, value, values, parts, effect}

both : {A B C : Type 0} {x u : A} {y v : B} (f : A → B → C) → x ≡ u → y ≡ v → f x y ≡ f u v
both {A} {B} {C} {x} {u} {y} {v} f e h = ap (λ a. f a y) e ∙ ap (f u) h

three : {A B C D : Type 0} {x u : A} {y v : B} {z w : C} (f : A → B → C → D) → x ≡ u → y ≡ v → z ≡ w → f x y z ≡ f u v w
three {A} {B} {C} {D} {x} {u} {y} {v} {z} {w} f e h k = ap (λ a. f a y z) e ∙ both (f u) h k

place_types : (look : Definitions) (a b : Environment) → in_scope a ≡ in_scope b → (p : Place) → place_type look a p ≡ place_type look b p
place_types look a b s (Local name) = ap (λ bs. bound_type bs name) s
place_types look a b s (Global name) = refl
place_types look a b s (Element name index) = refl
place_types look a b s (Field tag handle name) = refl

pub types : (look : Definitions) (a b : Environment) → in_scope a ≡ in_scope b → (e : Expression) → type_of look a e ≡ type_of look b e
types look a b s (Constant n) = refl
types look a b s (Read p) = place_types look a b s p
types look a b s (Unary op x) = ap (λ t. Integer (unary_kind op (kind t))) (types look a b s x)
types look a b s (Binary op x y) = both (λ t u. Integer (binary_kind op (kind t) (kind u))) (types look a b s x) (types look a b s y)
types look a b s (Convert type x) = refl
types look a b s (And x y) = refl
types look a b s (Or x y) = refl
types look a b s (Choice c x y) = types look a b s x
types look a b s (Assign p e) = place_types look a b s p
types look a b s (Update type op p e) = refl
types look a b s (Postfix type op p) = refl
types look a b s (Call name es) = refl
types look a b s (Print format es) = refl
types look a b s (New tag) = refl
types look a b s (Free tag e) = refl
types look a b s (Create p name e) = refl
types look a b s (Join e) = refl
types look a b s (JoinInto e p) = refl
types look a b s (InitMutex name) = refl
types look a b s (Lock name) = refl
types look a b s (Unlock name) = refl

pub slots : (a b : Environment) → in_scope a ≡ in_scope b → (name : Bytes) → slot a name ≡ slot b name
slots a b s name = ap (λ bs. slot_in bs name) s

gets : (a b : Environment) → in_scope a ≡ in_scope b → (p : Place) (n : ℕ) → getting a p n ≡ getting b p n
gets a b s (Local name) n = ap Load (slots a b s name)
gets a b s (Global name) n = refl
gets a b s (Element name index) n = refl
gets a b s (Field tag handle name) n = refl

sets : (a b : Environment) → in_scope a ≡ in_scope b → (p : Place) (n : ℕ) → setting a p n ≡ setting b p n
sets a b s (Local name) n = ap (λ i. Copy ∷ Store i ∷ []) (slots a b s name)
sets a b s (Global name) n = refl
sets a b s (Element name index) n = refl
sets a b s (Field tag handle name) n = refl

sets_only : (a b : Environment) → in_scope a ≡ in_scope b → (p : Place) (n : ℕ) → setting_only a p n ≡ setting_only b p n
sets_only a b s (Local name) n = ap (λ i. Store i ∷ []) (slots a b s name)
sets_only a b s (Global name) n = refl
sets_only a b s (Element name index) n = refl
sets_only a b s (Field tag handle name) n = refl

mutual
  pub same_value : (look : Definitions) (a b : Environment) → in_scope a ≡ in_scope b → (e : Expression) (n : ℕ)
      → value look a e n ≡ value look b e n
  same_value look a b s (Constant v) n = refl
  same_value look a b s (Read p) n =
      both (λ c i. c ++ i ∷ []) (same_parts look a b s p n) (gets a b s p (n + size_parts p))
  same_value look a b s (Unary op x) n = both (λ c t. c ++ application op t) (same_value look a b s x n) (types look a b s x)
  same_value look a b s (Binary op x y) n =
      both (λ c i. c ++ i ∷ [])
      (both (λ c d. c ++ d) (same_value look a b s x n) (same_value look a b s y (n + size x)))
      (both (combination op) (types look a b s x) (types look a b s y))
  same_value look a b s (Convert type x) n =
      both (λ t c. converted_code type t (constant_of x) c) (types look a b s x) (same_value look a b s x n)
  same_value look a b s (And x y) n = both and_code (same_value look a b s x n) (same_value look a b s y (n + size x))
  same_value look a b s (Or x y) n = both or_code (same_value look a b s x n) (same_value look a b s y (n + size x))
  same_value look a b s (Choice c x y) n =
      three (λ c x y. c ++ either JumpIfZero x y) (same_value look a b s c n) (same_value look a b s x (n + size c))
      (same_value look a b s y (n + size c + size x))
  same_value look a b s (Assign p e) n =
      let m = n + size_parts p in
      three (λ c d f. c ++ d ++ f) (same_parts look a b s p n) (same_value look a b s e m) (sets a b s p (m + size e))
  same_value look a b s (Update type op p e) n =
      let r = n + size_parts p in
      let m = r + size_read p in
      both (λ c f. c ++ f)
      (both (λ c t. c ++ (combination op type t ∷ conversion type (result_of op type t)))
      (three (λ c i d. c ++ copying p ++ i ∷ d) (same_parts look a b s p n) (gets a b s p r) (same_value look a b s e m))
      (types look a b s e))
      (sets a b s p (m + size e))
  same_value look a b s (Postfix type op p) n =
      let r = n + size_parts p in
      three
      (λ c i f. c ++ copying p ++ i ∷ tucking p ∷ int_code 1 ∷ combination op type (Integer I32) ∷ conversion type (result_of op type (Integer I32)) ++ f)
      (same_parts look a b s p n) (gets a b s p r) (sets_only a b s p (r + size_read p))
  same_value look a b s (Call name es) n =
      let m = n + size_all es in
      ap (λ c. c ++ Halt (stop.Call name (count es)) m ∷ CheckIn check_in.Call (suc m) ∷ []) (same_values look a b s es n)
  same_value look a b s (Print format es) n =
      ap (λ c. c ++ Halt (stop.Print format (count es)) (n + size_all es) ∷ []) (same_values look a b s es n)
  same_value look a b s (New tag) n = refl
  same_value look a b s (Free tag e) n = ap (λ c. c ++ Halt (stop.Free tag) (n + size e) ∷ []) (same_value look a b s e n)
  same_value look a b s (Create p name e) n =
      let m = n + size_parts p in
      let h = m + size e in
      three (λ c d f. c ++ d ++ Halt (stop.Spawn name) h ∷ f ++ IsZero ∷ []) (same_parts look a b s p n) (same_value look a b s e m)
      (sets a b s p (h + 1))
  same_value look a b s (Join e) n = ap (λ c. c ++ Halt stop.Join (n + size e) ∷ Drop ∷ int_code 0 ∷ []) (same_value look a b s e n)
  same_value look a b s (JoinInto e p) n =
      let m = n + size e in
      let j = m + size_parts p in
      three (λ c d f. c ++ d ++ swapping p ++ Halt stop.Join j ∷ f ++ int_code 0 ∷ []) (same_value look a b s e n) (same_parts look a b s p m)
      (sets_only a b s p (j + 1))
  same_value look a b s (InitMutex name) n = refl
  same_value look a b s (Lock name) n = refl
  same_value look a b s (Unlock name) n = refl

  pub same_values : (look : Definitions) (a b : Environment) → in_scope a ≡ in_scope b → (es : Expressions) (n : ℕ)
      → values look a es n ≡ values look b es n
  same_values look a b s NoExpressions n = refl
  same_values look a b s (ExpressionThen e es) n =
      both (λ c d. c ++ d) (same_value look a b s e n) (same_values look a b s es (n + size e))

  pub same_parts : (look : Definitions) (a b : Environment) → in_scope a ≡ in_scope b → (p : Place) (n : ℕ)
      → parts look a p n ≡ parts look b p n
  same_parts look a b s (Local name) n = refl
  same_parts look a b s (Global name) n = refl
  same_parts look a b s (Element name index) n = same_value look a b s index n
  same_parts look a b s (Field tag handle name) n = same_value look a b s handle n

-- and so for an expression whose value is dropped
dropped : (look : Definitions) (a b : Environment) → in_scope a ≡ in_scope b → (e : Expression) (n : ℕ)
    → value look a e n ++ Drop ∷ [] ≡ value look b e n ++ Drop ∷ []
dropped look a b s e n = ap (λ c. c ++ Drop ∷ []) (same_value look a b s e n)

pub same_effect : (look : Definitions) (a b : Environment) → in_scope a ≡ in_scope b → (e : Expression) (n : ℕ)
    → effect look a e n ≡ effect look b e n
same_effect look a b s (Assign p e) n =
    let m = n + size_parts p in
    three (λ c d f. c ++ d ++ f) (same_parts look a b s p n) (same_value look a b s e m) (sets_only a b s p (m + size e))
same_effect look a b s (Update type op p e) n =
    let r = n + size_parts p in
    let m = r + size_read p in
    both (λ c f. c ++ f)
    (both (λ c t. c ++ (combination op type t ∷ conversion type (result_of op type t)))
    (three (λ c i d. c ++ copying p ++ i ∷ d) (same_parts look a b s p n) (gets a b s p r) (same_value look a b s e m))
    (types look a b s e))
    (sets_only a b s p (m + size e))
same_effect look a b s (Postfix type op (Local name)) n =
    ap (λ i. Load i ∷ int_code 1 ∷ combination op type (Integer I32) ∷ conversion type (result_of op type (Integer I32)) ++ Store i ∷ []) (slots a b s name)
same_effect look a b s (Postfix type op (Global name)) n = dropped look a b s (Postfix type op (Global name)) n
same_effect look a b s (Postfix type op (Element name index)) n = dropped look a b s (Postfix type op (Element name index)) n
same_effect look a b s (Postfix type op (Field tag handle name)) n = dropped look a b s (Postfix type op (Field tag handle name)) n
same_effect look a b s (Constant v) n = refl
same_effect look a b s (Read p) n = dropped look a b s (Read p) n
same_effect look a b s (Unary op x) n = dropped look a b s (Unary op x) n
same_effect look a b s (Binary op x y) n = dropped look a b s (Binary op x y) n
same_effect look a b s (Convert type x) n = dropped look a b s (Convert type x) n
same_effect look a b s (And x y) n = dropped look a b s (And x y) n
same_effect look a b s (Or x y) n = dropped look a b s (Or x y) n
same_effect look a b s (Choice c x y) n = dropped look a b s (Choice c x y) n
same_effect look a b s (Call name es) n = dropped look a b s (Call name es) n
same_effect look a b s (Print format es) n = dropped look a b s (Print format es) n
same_effect look a b s (New tag) n = refl
same_effect look a b s (Free tag e) n = dropped look a b s (Free tag e) n
same_effect look a b s (Create p name e) n = dropped look a b s (Create p name e) n
same_effect look a b s (Join e) n = dropped look a b s (Join e) n
same_effect look a b s (JoinInto e p) n = dropped look a b s (JoinInto e p) n
same_effect look a b s (InitMutex name) n = refl
same_effect look a b s (Lock name) n = refl
same_effect look a b s (Unlock name) n = refl
