-- The value of a transformer's expression is of the type that the expression is found to have, also where that is a handle: then
-- it is null or names an object of its struct.
use Rattle.std.proofs.Common.{◌≡◌, ℕ, Bool, true, false, true≢false, List, [], ◌∷◌, ◌++◌, refl, sym, subst}
use Rattle.std.specs.Prelude.{IsTrue, ◌&&◌, Option, Some, None, IfSome, find, map, bytes_eq, option_map, slice_get, unwrap_or, if◌then◌else◌}
use Rattle.c_ints.specs.declared.kind.Kind.{Kind}
use Rattle.c_ints.specs.declared.kind.Kind.TheVariants.{I8, U8, I16, U16, I32, U32, I64, U64}
use Rattle.c_ints.specs.declared.int.Int.{Int}
use Rattle.c_ints.specs.declared.operator.BinOp.{BinOp}
use Rattle.c_ints.specs.Kind.{common_kind}
use Rattle.c_ints.specs.Number.{kind_of, reduced, value_of}
use Rattle.c_ints.specs.Arithmetic.{is_zero, binary_kind}
use Rattle.c_ints.proofs.Reduction.{kind_of-number}
use Rattle.c_tree.specs.BareExpr.{Bytes, BareExpr}
use Rattle.c_tree.specs.BareExpr as bare
use Rattle.c_tree.specs.BareDef.{BareBinding}
use Rattle.c_tree.specs.Bare.{bare_type, bare_node, bare_expr, bare_binding}
use Rattle.c_tree.specs.declared.name.Name.{Name}
use Rattle.c_tree.specs.declared.name.CType.{CType}
use Rattle.c_tree.specs.declared.name.CType.TheVariants.{Integer, Handle, Thread}
use Rattle.c_tree.specs.declared.expr.Expr.{Expr, roll-Expr}
use Rattle.c_tree.specs.declared.expr.Expr.TheOpen.{Expr-F}
use Rattle.c_tree.specs.declared.expr.Expr.TheFolds.{fold-roll-Expr, ind-Expr, map-Expr}
use Rattle.c_tree.specs.declared.expr.ExprNode.{ExprNode}
use Rattle.c_tree.specs.declared.expr.ExprNode.TheVariants as node
use Rattle.c_tree.specs.declared.def.Binding.{Binding}
use Rattle.c_tree.specs.declared.def.Def.{Def}
use Rattle.c_expr_types.specs.declared.fault.Fault.{Fault}
use Rattle.c_expr_types.specs.declared.found.Found.{Found}
use Rattle.c_expr_types.specs.declared.found.Found.TheVariants.{Wrong, Place, Value, Zero, Null, Nothing, Designator}
use Rattle.c_expr_types.specs.declared.found.Part.{Part}
use Rattle.c_expr_types.specs.Found.{after, has_value, is_integer, is_handle, is_comparable, misfit, required, type_of, kind_of_type, kind_in, is_value, value_of_type, same_type, converts}
use Rattle.c_definitions.specs.Lookup.{is_known}
use Rattle.c_expr_types.specs.Expressions.{is_condition, is_equality, fits, unknown_tag, is_initialising, where_allowed, where_met, meeting, follows, number_type, parts, own, part}
use Rattle.c_semantics.specs.Values.{Value as RunValue, Number, Reference, Started, int_of, is_true, converted_to}
use Rattle.c_semantics.specs.Pieces.{Variable}
use Rattle.c_semantics.specs.Same.{same_kind}
use Rattle.c_semantics.specs.Constants.{Old as OldValue, object_of, chosen, constant}
use Rattle.c_semantics.specs.Transformers.{old_object, old_value}
use Rattle.patch_faults.specs.TransformTypes.{Old, AnObject, AValue, is_object, by_itself, type_in, field_value, names_in, part_of, infer_old}
use Rattle.patch_faults.specs.TransformFaults.{of_expression, value_faults}
use Rattle.patch_faults.specs.TransformLaws.{has_type, HaveTypes, AsFound, ObjectsAreAsFound, GlobalsAreAsFound}
use Rattle.typed_uses.proofs.SoundTexts.{known}
use Rattle.typed_uses.proofs.Lookups.{same_bytes}
use Rattle.typed_trees.specs.ValueTypes.{HasType, ScopeHas}
use Rattle.typed_trees.proofs.ValuesOfTypes.{zero_has}

no : false ≡ true → ⊥
no e = cc

-- ---- faults

required_holds : (holds : Bool) (at : ℕ) (f : Found) → misfit holds at f ≡ [] → holds ≡ true
required_holds true at f e = refl
required_holds false at (Wrong fault) e = cc
required_holds false at (Place t) e = cc
required_holds false at (Value t) e = cc
required_holds false at (Zero k) e = cc
required_holds false at Null e = cc
required_holds false at Nothing e = cc
required_holds false at Designator e = cc

left : (a b : Bool) → (a && b) ≡ true → a ≡ true
left true b e = refl
left false b e = absurd (true≢false (sym e))

right : (a b : Bool) → (a && b) ≡ true → b ≡ true
right true b e = e
right false b e = absurd (true≢false (sym e))

-- ---- kinds

kind_itself : (k : Kind) → IsTrue (same_kind k k)
kind_itself I8 = refl
kind_itself U8 = refl
kind_itself I16 = refl
kind_itself U16 = refl
kind_itself I32 = refl
kind_itself U32 = refl
kind_itself I64 = refl
kind_itself U64 = refl

of_kind : (k : Kind) (n : Int) → kind_of n ≡ k → IsTrue (has_type (bare.Integer k) (Number n))
of_kind k n e = subst (λ x. IsTrue (same_kind x k)) (sym e) (kind_itself k)

one_kind : (a b : Kind) → IsTrue (same_kind a b) → a ≡ b
one_kind I8 I8 e = refl
one_kind U8 U8 e = refl
one_kind I16 I16 e = refl
one_kind U16 U16 e = refl
one_kind I32 I32 e = refl
one_kind U32 U32 e = refl
one_kind I64 I64 e = refl
one_kind U64 U64 e = refl
one_kind a b e = absurd (true≢false (sym e))

-- ---- what has a type with a handle's struct has it without

module _ (tags : List Bytes) where
  pub forgotten : (t : bare.BareType) (v : RunValue) → HasType tags t v → IsTrue (has_type t v)
  forgotten (bare.Integer k) (Number n) h = of_kind k n h
  forgotten (bare.Integer k) (Reference o) h = absurd h
  forgotten (bare.Integer k) (Started r) h = absurd h
  forgotten (bare.Handle tag) (Number n) h = absurd h
  forgotten (bare.Handle tag) (Reference o) h = refl
  forgotten (bare.Handle tag) (Started r) h = absurd h
  forgotten bare.Thread (Number n) h = absurd h
  forgotten bare.Thread (Reference o) h = absurd h
  forgotten bare.Thread (Started r) h = refl

  pub fields_forgotten : (bs : List BareBinding) (vs : List Variable) → ScopeHas tags bs vs → HaveTypes bs vs
  fields_forgotten [] [] h = tt
  fields_forgotten [] (v ∷ vs) h = absurd h
  fields_forgotten (b ∷ bs) [] h = absurd h
  fields_forgotten (b ∷ bs) (v ∷ vs) h = (h.0, forgotten b.declared v.value h.1, fields_forgotten bs vs h.2)

  -- and with one, unless it is a handle
  integers_same : (k : Kind) (v : RunValue) → IsTrue (has_type (bare.Integer k) v) → HasType tags (bare.Integer k) v
  integers_same k (Number n) h = one_kind (kind_of n) k h
  integers_same k (Reference o) h = absurd (true≢false (sym h))
  integers_same k (Started r) h = absurd (true≢false (sym h))

  threads_same : (v : RunValue) → IsTrue (has_type bare.Thread v) → HasType tags bare.Thread v
  threads_same (Number n) h = absurd (true≢false (sym h))
  threads_same (Reference o) h = absurd (true≢false (sym h))
  threads_same (Started r) h = tt

  -- ---- values as found

  -- an expression that is found with a type has a value of it
  abbrev pub FoundTyped : Found → RunValue → Type 0
  FoundTyped (Place t) v = HasType tags (bare_type t) v
  FoundTyped (Value t) v = HasType tags (bare_type t) v
  FoundTyped _ v = Unit {0}

  of_type : (t : CType) (v : RunValue) → is_handle t ≡ false → IsTrue (has_type (bare_type t) v) → HasType tags (bare_type t) v
  of_type (Integer k) v e h = integers_same k v h
  of_type (Handle tag) v e h = absurd (no (sym e))
  of_type Thread v e h = threads_same v h

  -- where no handle is found
  no_handle : (f : Found) (v : RunValue) → has_value is_handle f ≡ false → AsFound f v → FoundTyped f v
  no_handle (Place t) v e h = of_type t v e h
  no_handle (Value t) v e h = of_type t v e h
  no_handle (Zero k) v e h = tt
  no_handle Null v e h = tt
  no_handle Nothing v e h = tt
  no_handle Designator v e h = tt
  no_handle (Wrong fault) v e h = tt

  no_handle_after : (faults : List Fault) (f : Found) → has_value is_handle f ≡ false → has_value is_handle (after faults f) ≡ false
  no_handle_after [] f e = e
  no_handle_after (x ∷ xs) f e = refl

  no_handle_met : (m : Option CType) (at : ℕ) (f : Found) → has_value is_handle f ≡ false → has_value is_handle (where_met m at f) ≡ false
  no_handle_met None at f e = refl
  no_handle_met (Some t) at f e = e

  where_faultless : (faults : List Fault) (f : Found) (v : RunValue) → (faults ≡ [] → FoundTyped f v) → FoundTyped (after faults f) v
  where_faultless [] f v h = h refl
  where_faultless (x ∷ xs) f v h = tt

  -- ---- conversions

  handle_converted : (tag : Name) (t : CType) (v : RunValue) → same_type (Handle tag) t ≡ true → HasType tags (bare_type t) v
      → HasType tags (bare.Handle tag.text) (converted_to (bare.Handle tag.text) v)
  handle_converted tag (Handle other) (Reference None) e h = tt
  handle_converted tag (Handle other) (Reference (Some n)) e h =
      subst (λ x. slice_get tags n ≡ Some x) (sym (same_bytes tag.text other.text e)) h
  handle_converted tag (Handle other) (Number n) e h = absurd h
  handle_converted tag (Handle other) (Started r) e h = absurd h
  handle_converted tag (Integer k) v e h = absurd (true≢false (sym e))
  handle_converted tag Thread v e h = absurd (true≢false (sym e))

  integer_converted : (k : Kind) (v : RunValue) → HasType tags (bare.Integer k) (converted_to (bare.Integer k) v)
  integer_converted k (Number n) = kind_of-number k (reduced k (value_of n))
  integer_converted k (Reference o) = zero_has tags (bare.Integer k)
  integer_converted k (Started r) = zero_has tags (bare.Integer k)

  thread_converted : (v : RunValue) → HasType tags bare.Thread (converted_to bare.Thread v)
  thread_converted (Number n) = tt
  thread_converted (Reference o) = tt
  thread_converted (Started r) = tt

  pub converted_typed : (t : CType) (f : Found) (v : RunValue) → converts t f ≡ true → AsFound f v → FoundTyped f v
      → HasType tags (bare_type t) (converted_to (bare_type t) v)
  converted_typed (Integer k) f v e h typed = integer_converted k v
  converted_typed Thread f v e h typed = thread_converted v
  converted_typed (Handle tag) (Place t) v e h typed = handle_converted tag t v e typed
  converted_typed (Handle tag) (Value t) v e h typed = handle_converted tag t v e typed
  converted_typed (Handle tag) (Zero k) v e h typed =
      subst (λ w. HasType tags (bare.Handle tag.text) (converted_to (bare.Handle tag.text) w)) (sym h) tt
  converted_typed (Handle tag) Null v e h typed =
      subst (λ w. HasType tags (bare.Handle tag.text) (converted_to (bare.Handle tag.text) w)) (sym h) tt
  converted_typed (Handle tag) f v e h typed = absurd (true≢false (sym e))

  -- a cast
  cast_typed : (q : List Def) (t : CType) (a : Part) (v : RunValue) → AsFound a.found v → FoundTyped a.found v
      → FoundTyped (after (required (fits q t a.found) a) (after (unknown_tag q t) (Value t))) (converted_to (bare_type t) v)
  cast_typed q t a v h typed =
      where_faultless (required (fits q t a.found) a) (after (unknown_tag q t) (Value t)) (converted_to (bare_type t) v) (λ none.
      where_faultless (unknown_tag q t) (Value t) (converted_to (bare_type t) v) (λ there.
      converted_typed t a.found v
      (by (is_known q t) (known q t there) (required_holds (fits q t a.found) a.place a.found none)) h typed))
    where
      by : (b : Bool) → b ≡ true → (if b then converts t a.found else is_value a.found) ≡ true → converts t a.found ≡ true
      by true e fit = fit
      by false e fit = absurd (no e)

  -- ---- conditional expressions

  -- a handle
  record AHandle (t : Option CType) (v : RunValue) : Type 0 where
    tag : Name
    type : t ≡ Some (Handle tag)
    object : Option ℕ
    is : v ≡ Reference object
    typed : HasType tags (bare.Handle tag.text) (Reference object)

  handle_of : (t : CType) (v : RunValue) → is_handle t ≡ true → HasType tags (bare_type t) v → AHandle (Some t) v
  handle_of (Handle tag) (Reference o) e h = record { tag = tag; type = refl; object = o; is = refl; typed = h }
  handle_of (Handle tag) (Number n) e h = absurd h
  handle_of (Handle tag) (Started r) e h = absurd h
  handle_of (Integer k) v e h = absurd (no e)
  handle_of Thread v e h = absurd (no e)

  handle_in : (f : Found) (v : RunValue) → has_value is_handle f ≡ true → FoundTyped f v → AHandle (type_of f) v
  handle_in (Place t) v e h = handle_of t v e h
  handle_in (Value t) v e h = handle_of t v e h
  handle_in (Zero k) v e h = absurd (no e)
  handle_in Null v e h = absurd (no e)
  handle_in Nothing v e h = absurd (no e)
  handle_in Designator v e h = absurd (no e)
  handle_in (Wrong fault) v e h = absurd (no e)

  -- the object of what is converted to a handle
  object_typed : (tag : Name) (t : CType) (v : RunValue) → same_type (Handle tag) t ≡ true → HasType tags (bare_type t) v
      → HasType tags (bare.Handle tag.text) (Reference (object_of v))
  object_typed tag (Handle other) (Reference None) e h = tt
  object_typed tag (Handle other) (Reference (Some n)) e h =
      subst (λ x. slice_get tags n ≡ Some x) (sym (same_bytes tag.text other.text e)) h
  object_typed tag (Handle other) (Number n) e h = absurd h
  object_typed tag (Handle other) (Started r) e h = absurd h
  object_typed tag (Integer k) v e h = absurd (true≢false (sym e))
  object_typed tag Thread v e h = absurd (true≢false (sym e))

  followed : (tag : Name) (f : Found) (v : RunValue) → converts (Handle tag) f ≡ true → AsFound f v → FoundTyped f v
      → HasType tags (bare.Handle tag.text) (Reference (object_of v))
  followed tag (Place t) v e h typed = object_typed tag t v e typed
  followed tag (Value t) v e h typed = object_typed tag t v e typed
  followed tag (Zero k) v e h typed = subst (λ w. HasType tags (bare.Handle tag.text) (Reference (object_of w))) (sym h) tt
  followed tag Null v e h typed = subst (λ w. HasType tags (bare.Handle tag.text) (Reference (object_of w))) (sym h) tt
  followed tag Nothing v e h typed = absurd (no e)
  followed tag Designator v e h typed = absurd (no e)
  followed tag (Wrong fault) v e h typed = absurd (no e)

  first_chosen : (c : Bool) (tag : Bytes) (v w : RunValue) (o : Option ℕ) → v ≡ Reference o → HasType tags (bare.Handle tag) (Reference o)
      → HasType tags (bare.Handle tag) (Reference (object_of w)) → HasType tags (bare.Handle tag) (chosen c v w)
  first_chosen c tag v w o is h k = subst (λ u. HasType tags (bare.Handle tag) (chosen c u w)) (sym is) (by c)
    where
      by : (c : Bool) → HasType tags (bare.Handle tag) (Reference (object_of (if c then Reference o else w)))
      by true = h
      by false = k

  second_chosen : (c : Bool) (tag : Bytes) (v w : RunValue) (o : Option ℕ) → w ≡ Reference o → HasType tags (bare.Handle tag) (Reference o)
      → HasType tags (bare.Handle tag) (Reference (object_of v)) → HasType tags (bare.Handle tag) (chosen c v w)
  second_chosen c tag v w o is h k = subst (λ u. HasType tags (bare.Handle tag) (chosen c v u)) (sym is) (by v k)
    where
      either : (c : Bool) (u : RunValue) → HasType tags (bare.Handle tag) (Reference (object_of u))
          → HasType tags (bare.Handle tag) (Reference (object_of (if c then u else Reference o)))
      either true u k = k
      either false u k = h

      by : (u : RunValue) → HasType tags (bare.Handle tag) (Reference (object_of u)) → HasType tags (bare.Handle tag) (chosen c u (Reference o))
      by (Number n) k = either c (Number n) k
      by (Reference other) k = either c (Reference other) k
      by (Started r) k = either c (Started r) k

  met_at : (m : Option CType) (at : ℕ) (t : CType) (v : RunValue) → m ≡ Some t → HasType tags (bare_type t) v
      → FoundTyped (where_met m at (value_of_type m)) v
  met_at m at t v e h = subst {A = Option CType} (λ o. FoundTyped (where_met o at (value_of_type o)) v) (sym e) h

  -- a type that converts is that of the other side
  follows_at : (t : Option CType) (u : CType) (f : Found) → t ≡ Some u → follows t f ≡ true → converts u f ≡ true
  follows_at t u f e h = subst {A = Option CType} (λ o. follows o f ≡ true) e h

  choice_typed : (at : ℕ) (c : Bool) (f g : Found) (v w : RunValue) → AsFound f v → AsFound g w → FoundTyped f v → FoundTyped g w
      → AsFound (where_met (meeting f g) at (value_of_type (meeting f g))) (chosen c v w)
      → FoundTyped (where_met (meeting f g) at (value_of_type (meeting f g))) (chosen c v w)
  choice_typed at c f g v w fa ga ft gt whole =
      by (has_value is_integer f && has_value is_integer g) (has_value is_handle f && follows (type_of f) g)
      (has_value is_handle g && follows (type_of g) f) refl refl whole
    where
      kinds : Kind
      kinds = common_kind (kind_of_type (type_of f)) (kind_of_type (type_of g))

      by : (a b d : Bool) → (has_value is_handle f && follows (type_of f) g) ≡ b → (has_value is_handle g && follows (type_of g) f) ≡ d
          → AsFound
          (where_met (if a then Some (Integer kinds) else (if b then type_of f else (if d then type_of g else None))) at
          (value_of_type (if a then Some (Integer kinds) else (if b then type_of f else (if d then type_of g else None))))) (chosen c v w)
          → FoundTyped
          (where_met (if a then Some (Integer kinds) else (if b then type_of f else (if d then type_of g else None))) at
          (value_of_type (if a then Some (Integer kinds) else (if b then type_of f else (if d then type_of g else None))))) (chosen c v w)
      by true b d eb ed h = integers_same kinds (chosen c v w) h
      by false true d eb ed h =
          let x : AHandle (type_of f) v = handle_in f v (left (has_value is_handle f) (follows (type_of f) g) eb) ft in
          met_at (type_of f) at (Handle x.tag) (chosen c v w) x.type
          (first_chosen c x.tag.text v w x.object x.is x.typed
          (followed x.tag g w (follows_at (type_of f) (Handle x.tag) g x.type (right (has_value is_handle f) (follows (type_of f) g) eb)) ga gt))
      by false false true eb ed h =
          let x : AHandle (type_of g) w = handle_in g w (left (has_value is_handle g) (follows (type_of g) f) ed) gt in
          met_at (type_of g) at (Handle x.tag) (chosen c v w) x.type
          (second_chosen c x.tag.text v w x.object x.is x.typed
          (followed x.tag f v (follows_at (type_of g) (Handle x.tag) f x.type (right (has_value is_handle g) (follows (type_of g) f) ed)) fa ft))
      by false false false eb ed h = tt

  -- ---- expressions whole

  -- `old` has the types that it is found with
  pub record OldTyped (old : Old) (now : OldValue) : Type 0 where
    pub whole : FoundTyped (by_itself old) now.whole
    pub field : (name : Bytes) → IfSome (type_in old name) (λ t. HasType tags (bare_type t) (now.field name))

  module _ (q : List Def) (old : Old) (now : OldValue) (is : OldTyped old now)
      (as_found : (e : Expr) → AsFound (infer_old (names_in q) old e).found (constant now (bare_expr e))) where
    abbrev inferred : Expr → Part
    inferred e = infer_old (names_in q) old e

    abbrev value : Expr → RunValue
    value e = constant now (bare_expr e)

    abbrev Holds : Expr → Type 0
    Holds e = FoundTyped (inferred e).found (value e)

    -- an expression by its parts
    abbrev part_at : Expr-F Expr → Part
    part_at x = part_of (names_in q) old x.place (map-Expr Expr Part (infer_old (names_in q) old) x).node

    abbrev value_at : Expr-F Expr → RunValue
    value_at x = constant now (bare_node (map-Expr Expr BareExpr bare_expr x).node)

    at_node : (x : Expr-F Expr) → (AsFound (part_at x).found (value_at x) → FoundTyped (part_at x).found (value_at x)) → Holds (roll-Expr x)
    at_node x h =
        subst {A = Part} (λ p. FoundTyped p.found (constant now (bare_expr (roll-Expr x)))) (sym found_is)
        (subst {A = BareExpr} (λ b. FoundTyped (part_at x).found (constant now b)) (sym bare_is)
        (h (subst {A = BareExpr} (λ b. AsFound (part_at x).found (constant now b)) bare_is
        (subst {A = Part} (λ p. AsFound p.found (constant now (bare_expr (roll-Expr x)))) found_is (as_found (roll-Expr x))))))
      where
        found_is : inferred (roll-Expr x) ≡ part_at x
        found_is = fold-roll-Expr Part (λ e. part_of (names_in q) old e.place e.node) x

        bare_is : bare_expr (roll-Expr x) ≡ bare_node (map-Expr Expr BareExpr bare_expr x).node
        bare_is = fold-roll-Expr BareExpr (λ e. bare_node e.node) x

    -- where no handle is found
    plain : (x : Expr-F Expr) → has_value is_handle (part_at x).found ≡ false → Holds (roll-Expr x)
    plain x e = at_node x (no_handle (part_at x).found (value_at x) e)

    number_plain : (n : Int) → has_value is_handle (number_type n) ≡ false
    number_plain n = by (is_zero (value_of n))
      where
        by : (b : Bool) → has_value is_handle (if b then Zero (kind_of n) else Value (Integer (kind_of n))) ≡ false
        by true = refl
        by false = refl

    allowed_plain : (b : Bool) (at : ℕ) (f : Found) → has_value is_handle f ≡ false → has_value is_handle (where_allowed b at f) ≡ false
    allowed_plain true at f e = e
    allowed_plain false at f e = refl

    binary_plain : (at : ℕ) (o : BinOp) (a b : Part) → has_value is_handle (part (names_in q) at (node.Binary o a b)).found ≡ false
    binary_plain at o a b =
        no_handle_after (parts (names_in q) (node.Binary o a b)) _
        (allowed_plain (is_initialising (node.Binary o a b)) at (own (names_in q) at (node.Binary o a b)) (by (is_equality o)))
      where
        integer : Found
        integer = Value (Integer (binary_kind o (kind_in a) (kind_in b)))

        by : (e : Bool) → has_value is_handle (if e then where_met (meeting a.found b.found) at integer else integer) ≡ false
        by true = no_handle_met (meeting a.found b.found) at integer refl
        by false = refl

    -- what isn't allowed in a transformer
    refused : (at : ℕ) (made : ExprNode Part) → is_initialising made ≡ false → has_value is_handle (part (names_in q) at made).found ≡ false
    refused at made e =
        no_handle_after (parts (names_in q) made) (where_allowed (is_initialising made) at (own (names_in q) at made)) (by (is_initialising made) e)
      where
        by : (b : Bool) → b ≡ false → has_value is_handle (where_allowed b at (own (names_in q) at made)) ≡ false
        by true x = absurd (true≢false x)
        by false x = refl

    dot_typed : (a : Part) (field : Name)
        → FoundTyped (after (required (is_object old) a) (field_value (type_in old field.text) field.place)) (now.field field.text)
    dot_typed a field =
        where_faultless (required (is_object old) a) (field_value (type_in old field.text) field.place) (now.field field.text)
        (λ none. by (type_in old field.text) (is.field field.text))
      where
        by : (o : Option CType) → IfSome o (λ t. HasType tags (bare_type t) (now.field field.text))
            → FoundTyped (field_value o field.place) (now.field field.text)
        by None h = tt
        by (Some t) h = h

    abbrev met : ℕ → Expr → Expr → Found
    met at a b = where_met (meeting (inferred a).found (inferred b).found) at (value_of_type (meeting (inferred a).found (inferred b).found))

    choice_found : (at : ℕ) (c a b : Expr) → Holds a → Holds b
        → AsFound (part (names_in q) at (node.Choice (inferred c) (inferred a) (inferred b))).found (chosen (is_true (value c)) (value a) (value b))
        → FoundTyped (part (names_in q) at (node.Choice (inferred c) (inferred a) (inferred b))).found (chosen (is_true (value c)) (value a) (value b))
    choice_found at c a b ha hb whole =
        by
        (required (is_condition (inferred c).found) (inferred c)
        ++ (required (is_comparable (inferred a).found) (inferred a) ++ required (is_comparable (inferred b).found) (inferred b))) whole
      where
        by : (faults : List Fault) → AsFound (after faults (met at a b)) (chosen (is_true (value c)) (value a) (value b))
            → FoundTyped (after faults (met at a b)) (chosen (is_true (value c)) (value a) (value b))
        by [] h = choice_typed at (is_true (value c)) (inferred a).found (inferred b).found (value a) (value b) (as_found a) (as_found b) ha hb h
        by (x ∷ xs) h = tt

    by_form : (at : ℕ) (made : ExprNode ((e : Expr) × Holds e))
        → Holds (roll-Expr (map-Expr ((e : Expr) × Holds e) Expr (λ e. e.0) (record { place = at; node = made })))
    by_form at (node.Number n) = plain (record { place = at; node = node.Number n }) (number_plain n)
    by_form at (node.Character n) = plain (record { place = at; node = node.Character n }) refl
    by_form at node.Null = plain (record { place = at; node = node.Null }) refl
    by_form at (node.Variable name) = at_node (record { place = at; node = node.Variable name }) (λ h. is.whole)
    by_form at (node.Dot a field) =
        at_node (record { place = at; node = node.Dot a.0 field }) (λ h. dot_typed (inferred a.0) field)
    by_form at (node.Unary o a) =
        plain (record { place = at; node = node.Unary o a.0 }) (no_handle_after (parts (names_in q) (node.Unary o (inferred a.0))) _ refl)
    by_form at (node.Cast t a) =
        at_node (record { place = at; node = node.Cast t a.0 }) (λ h. cast_typed q t (inferred a.0) (value a.0) (as_found a.0) a.1)
    by_form at (node.Binary o a b) =
        plain (record { place = at; node = node.Binary o a.0 b.0 }) (binary_plain at o (inferred a.0) (inferred b.0))
    by_form at (node.Choice c a b) =
        at_node (record { place = at; node = node.Choice c.0 a.0 b.0 }) (choice_found at c.0 a.0 b.0 a.1 b.1)
    by_form at made =
        let x : Expr-F Expr = map-Expr ((e : Expr) × Holds e) Expr (λ e. e.0) (record { place = at; node = made }) in
        plain x (refused at (map-Expr Expr Part (infer_old (names_in q) old) x).node refl)

    pub found_typed : (e : Expr) → FoundTyped (infer_old (names_in q) old e).found (constant now (bare_expr e))
    found_typed = ind-Expr Holds (λ x y same. subst (λ z. Holds (roll-Expr z)) same (by_form y.place y.node))

  -- ---- the two kinds of transformers

  abbrev Fits : Option Binding → Option Variable → Type 0
  Fits o w =
      IfSome (option_map (λ b. b.declared) o) (λ t. HasType tags (bare_type t) (unwrap_or (option_map (λ v. v.value) w) (int_of 0)))

  member_typed : (layout : List Binding) (fields : List Variable) (name : Bytes) → ScopeHas tags (map bare_binding layout) fields
      → Fits (find (λ b. bytes_eq name b.name.text) layout) (find (λ v. bytes_eq name v.name) fields)
  member_typed [] fields name h = tt
  member_typed (b ∷ bs) [] name h = absurd h
  member_typed (b ∷ bs) (v ∷ vs) name h =
      subst
      (λ n.
      Fits (if bytes_eq name b.name.text then Some b else find (λ c. bytes_eq name c.name.text) bs)
      (if bytes_eq name n then Some v else find (λ w. bytes_eq name w.name) vs)) (sym h.0)
      (by_test (member_typed bs vs name h.2) (bytes_eq name b.name.text))
    where
      by_test : Fits (find (λ c. bytes_eq name c.name.text) bs) (find (λ w. bytes_eq name w.name) vs) → (t : Bool)
          → Fits (if t then Some b else find (λ c. bytes_eq name c.name.text) bs) (if t then Some v else find (λ w. bytes_eq name w.name) vs)
      by_test more true = h.1
      by_test more false = more

  none_mapped : {A B : Type 0} (f : A → B) (xs : List A) → map f xs ≡ [] → xs ≡ []
  none_mapped f [] e = refl
  none_mapped f (x ∷ xs) e = cc

  converts_faultless : (q : List Def) (old : Old) (t : CType) (e : Expr) → value_faults q old t e ≡ []
      → converts t (infer_old (names_in q) old e).found ≡ true
  converts_faultless q old t e none =
      let value : Part = infer_old (names_in q) old e in
      required_holds (converts t value.found) value.place value.found
      (none_mapped of_expression (required (converts t value.found) value) none)

  -- a value without a fault for a field becomes one of the field's type
  pub field_converted : ObjectsAreAsFound → (q : List Def) (layout : List Binding) (fields : List Variable) (t : CType) (e : Expr)
      → ScopeHas tags (map bare_binding layout) fields → value_faults q (AnObject layout) t e ≡ []
      → HasType tags (bare_type t) (converted_to (bare_type t) (constant (old_object fields) (bare_expr e)))
  field_converted objects_are_as_found q layout fields t e h none =
      let as_found = λ (x : Expr). objects_are_as_found q layout fields x (fields_forgotten (map bare_binding layout) fields h) in
      converted_typed t (infer_old (names_in q) (AnObject layout) e).found (constant (old_object fields) (bare_expr e))
      (converts_faultless q (AnObject layout) t e none) (as_found e)
      (found_typed q (AnObject layout) (old_object fields) (record { whole = tt; field = λ name. member_typed layout fields name h }) as_found e)

  -- and of a global, which had the type u
  pub global_converted : GlobalsAreAsFound → (q : List Def) (t u : CType) (v : RunValue) (e : Expr)
      → HasType tags (bare_type u) v → value_faults q (AValue u) t e ≡ []
      → HasType tags (bare_type t) (converted_to (bare_type t) (constant (old_value v) (bare_expr e)))
  global_converted globals_are_as_found q t u v e h none =
      let as_found = λ (x : Expr). globals_are_as_found q u v x (forgotten (bare_type u) v h) in
      converted_typed t (infer_old (names_in q) (AValue u) e).found (constant (old_value v) (bare_expr e))
      (converts_faultless q (AValue u) t e none) (as_found e)
      (found_typed q (AValue u) (old_value v) (record { whole = h; field = λ name. tt }) as_found e)
