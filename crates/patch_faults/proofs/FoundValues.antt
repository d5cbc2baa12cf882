-- The value of a transformer's expression is as the expression was found.
use Rattle.std.proofs.Common.{◌≡◌, ℕ, ℤ, pos, negsuc, Bool, true, false, true≢false, List, [], ◌∷◌, ◌++◌, refl, sym, subst, ap, ◌∙◌, arith}
use Rattle.std.specs.Prelude.{IsTrue, ◌&&◌, Option, Some, None, IfSome, find, map, bytes_eq, option_map, unwrap_or, if◌then◌else◌}
use Rattle.std.specs.Option.{option_map_or}
use Rattle.c_ints.specs.declared.kind.Kind.{Kind}
use Rattle.c_ints.specs.declared.kind.Kind.TheVariants.{I8, U8, I16, U16, I32, U32, I64, U64}
use Rattle.c_ints.specs.declared.int.Int.{Int}
use Rattle.c_ints.specs.declared.int.Int.TheVariants as int
use Rattle.c_ints.specs.declared.operator.BinOp.{BinOp}
use Rattle.c_ints.specs.declared.operator.BinOp.TheVariants as op
use Rattle.c_ints.specs.declared.operator.SafeOp.{SafeOp}
use Rattle.c_ints.specs.declared.operator.SafeOp.TheVariants as safe_op
use Rattle.c_ints.specs.declared.operator.UnOp.{UnOp}
use Rattle.c_ints.specs.declared.operator.UnOp.TheVariants.{Plus, Negate, Complement, Not}
use Rattle.c_ints.specs.Kind.{common_kind}
use Rattle.c_ints.specs.Number.{kind_of, number, value_of, reduced, converted}
use Rattle.c_ints.specs.Arithmetic.{is_zero, as_binary, binary_kind, unary_kind, binary_wrapped, unary_wrapped}
use Rattle.c_ints.proofs.Reduction.{kind_of-number}
use Rattle.c_ints.proofs.KindOf.{binary_wrapped_kind, unary_wrapped_kind}
use Rattle.c_tree.specs.BareExpr.{Bytes, BareExpr}
use Rattle.c_tree.specs.BareExpr as bare
use Rattle.c_tree.specs.Bare.{bare_type, bare_node, bare_expr, bare_binding}
use Rattle.c_tree.specs.declared.name.Name.{Name}
use Rattle.c_tree.specs.declared.name.CType.{CType}
use Rattle.c_tree.specs.declared.name.CType.TheVariants.{Integer, Handle, Thread}
use Rattle.c_tree.specs.declared.expr.Expr.{Expr, roll-Expr}
use Rattle.c_tree.specs.declared.expr.Expr.TheOpen.{Expr-F}
use Rattle.c_tree.specs.declared.expr.Expr.TheFolds.{fold-roll-Expr, ind-Expr, map-Expr}
use Rattle.c_tree.specs.declared.expr.ExprNode.{ExprNode}
use Rattle.c_tree.specs.declared.expr.ExprNode.TheVariants as node
use Rattle.c_tree.specs.declared.def.Binding.{Binding}
use Rattle.c_tree.specs.declared.def.Def.{Def}
use Rattle.c_expr_types.specs.declared.fault.Fault.{Fault}
use Rattle.c_expr_types.specs.declared.found.Found.{Found}
use Rattle.c_expr_types.specs.declared.found.Found.TheVariants.{Wrong, Place, Value, Zero, Null, Nothing, Designator}
use Rattle.c_expr_types.specs.declared.found.Part.{Part}
use Rattle.c_expr_types.specs.Found.{after, has_value, is_integer, is_handle, is_comparable, misfit, required, type_of, kind_of_type, kind_in, value_of_type, same_type, converts}
use Rattle.c_expr_types.specs.Expressions.{is_unary_operand, is_operand, is_condition, fits, unknown_tag, is_initialising, where_allowed, where_met, meeting, follows, number_type, parts, own, part}
use Rattle.c_semantics.specs.Values.{Value as RunValue, Number, Reference, Started, int_of, is_true, converted_to}
use Rattle.c_semantics.specs.Pieces.{Variable}
use Rattle.c_semantics.specs.Constants.{Old as OldValue, safe, wrapped, wrapped_unary, chosen, constant}
use Rattle.c_semantics.specs.Transformers.{old_object, old_value}
use Rattle.patch_faults.specs.TransformTypes.{Old, AnObject, AValue, is_object, by_itself, type_in, field_value, names_in, part_of, infer_old}
use Rattle.patch_faults.specs.TransformFaults.{of_expression, value_faults}
use Rattle.patch_faults.specs.TransformLaws.{has_type, HaveTypes, AsFound, ObjectsAreAsFound, GlobalsAreAsFound, takes, ObjectsConvert, GlobalsConvert}
use Rattle.patch_faults.proofs.ValuesOfTypes.{one_kind, of_kind, same_kind_itself, converted_has_type}

-- Faults.

-- what is required of a part holds, where the part has no fault
required_holds : (holds : Bool) (at : ℕ) (f : Found) → misfit holds at f ≡ [] → holds ≡ true
required_holds true at f e = refl
required_holds false at (Wrong fault) e = cc
required_holds false at (Place t) e = cc
required_holds false at (Value t) e = cc
required_holds false at (Zero k) e = cc
required_holds false at Null e = cc
required_holds false at Nothing e = cc
required_holds false at Designator e = cc

neither : (xs ys : List Fault) → xs ++ ys ≡ [] → (xs ≡ []) × (ys ≡ [])
neither [] ys e = (refl, e)
neither (x ∷ xs) ys e = cc

-- only where there are no faults is anything said
where_faultless : (faults : List Fault) (f : Found) (v : RunValue) → (faults ≡ [] → AsFound f v) → AsFound (after faults f) v
where_faultless [] f v h = h refl
where_faultless (x ∷ xs) f v h = tt

not_allowed : (q : List Def) (at : ℕ) (made : ExprNode Part) (v : RunValue) → is_initialising made ≡ false
    → AsFound (part (names_in q) at made).found v
not_allowed q at made v e =
    where_faultless (parts (names_in q) made) (where_allowed (is_initialising made) at (own (names_in q) at made)) v
    (λ none. by (is_initialising made) e)
  where
    by : (b : Bool) → b ≡ false → AsFound (where_allowed b at (own (names_in q) at made)) v
    by true x = absurd (true≢false x)
    by false x = tt

-- What is found to be an integer or a handle.

record AnInteger (k : Kind) (v : RunValue) : Type 0 where
  int : Int
  is : v ≡ Number int
  kind : kind_of int ≡ k

integer_of_type : (t : CType) (v : RunValue) → IsTrue (has_type (bare_type t) v) → is_integer t ≡ true
    → AnInteger (kind_of_type (Some t)) v
integer_of_type (Integer k) (Number n) h e = record { int = n; is = refl; kind = one_kind (kind_of n) k h }
integer_of_type (Integer k) (Reference object) h e = absurd (true≢false (sym h))
integer_of_type (Integer k) (Started thread) h e = absurd (true≢false (sym h))
integer_of_type (Handle tag) v h e = absurd (true≢false (sym e))
integer_of_type Thread v h e = absurd (true≢false (sym e))

integer_in : (f : Found) (v : RunValue) → AsFound f v → has_value is_integer f ≡ true → AnInteger (kind_of_type (type_of f)) v
integer_in (Place t) v h e = integer_of_type t v h e
integer_in (Value t) v h e = integer_of_type t v h e
integer_in (Zero k) v h e = record { int = number k (pos 0); is = h; kind = kind_of-number k (pos 0) }
integer_in f v h e = absurd (true≢false (sym e))

record AHandle (t : Option CType) (v : RunValue) : Type 0 where
  tag : Name
  type : t ≡ Some (Handle tag)
  object : Option ℕ
  is : v ≡ Reference object

handle_of_type : (t : CType) (v : RunValue) → IsTrue (has_type (bare_type t) v) → is_handle t ≡ true → AHandle (Some t) v
handle_of_type (Handle tag) (Reference object) h e = record { tag = tag; type = refl; object = object; is = refl }
handle_of_type (Handle tag) (Number n) h e = absurd (true≢false (sym h))
handle_of_type (Handle tag) (Started thread) h e = absurd (true≢false (sym h))
handle_of_type (Integer k) v h e = absurd (true≢false (sym e))
handle_of_type Thread v h e = absurd (true≢false (sym e))

handle_in : (f : Found) (v : RunValue) → AsFound f v → has_value is_handle f ≡ true → AHandle (type_of f) v
handle_in (Place t) v h e = handle_of_type t v h e
handle_in (Value t) v h e = handle_of_type t v h e
handle_in f v h e = absurd (true≢false (sym e))

-- Operators.

zero_is : (z : ℤ) → is_zero z ≡ true → z ≡ pos 0
zero_is (pos n) e = ap pos (grind arith)
zero_is (negsuc n) e = absurd (true≢false (sym e))

zero_number : (n : Int) → is_zero (value_of n) ≡ true → n ≡ number (kind_of n) (pos 0)
zero_number (int.I8 z) e = ap int.I8 (zero_is z e)
zero_number (int.U8 m) e = ap int.U8 (grind arith)
zero_number (int.I16 z) e = ap int.I16 (zero_is z e)
zero_number (int.U16 m) e = ap int.U16 (grind arith)
zero_number (int.I32 z) e = ap int.I32 (zero_is z e)
zero_number (int.U32 m) e = ap int.U32 (grind arith)
zero_number (int.I64 z) e = ap int.I64 (zero_is z e)
zero_number (int.U64 m) e = ap int.U64 (grind arith)

number_found : (n : Int) → AsFound (number_type n) (Number n)
number_found n = by (is_zero (value_of n)) refl
  where
    by : (z : Bool) → is_zero (value_of n) ≡ z → AsFound (if z then Zero (kind_of n) else Value (Integer (kind_of n))) (Number n)
    by true e = ap Number (zero_number n e)
    by false e = same_kind_itself (kind_of n)

not_is_int : (v : RunValue) → IsTrue (has_type (bare.Integer I32) (wrapped_unary Not v))
not_is_int (Number n) = refl
not_is_int (Reference object) = refl
not_is_int (Started thread) = refl

unary_of_integer : (o : UnOp) (k : Kind) (v : RunValue) → AnInteger k v
    → IsTrue (has_type (bare.Integer (unary_kind o k)) (wrapped_unary o v))
unary_of_integer o k v x =
    subst (λ w. IsTrue (has_type (bare.Integer (unary_kind o k)) (wrapped_unary o w))) (sym x.is)
    (of_kind (unary_kind o k) (unary_wrapped o x.int) (unary_wrapped_kind o x.int ∙ ap (unary_kind o) x.kind))

unary_value : (o : UnOp) (f : Found) (v : RunValue) → AsFound f v → is_unary_operand o f ≡ true
    → IsTrue (has_type (bare.Integer (unary_kind o (kind_of_type (type_of f)))) (wrapped_unary o v))
unary_value Not f v h e = not_is_int v
unary_value Plus f v h e = unary_of_integer Plus (kind_of_type (type_of f)) v (integer_in f v h e)
unary_value Negate f v h e = unary_of_integer Negate (kind_of_type (type_of f)) v (integer_in f v h e)
unary_value Complement f v h e = unary_of_integer Complement (kind_of_type (type_of f)) v (integer_in f v h e)

unary_found : (q : List Def) (at : ℕ) (o : UnOp) (a : Part) (v : RunValue) → AsFound a.found v
    → AsFound (part (names_in q) at (node.Unary o a)).found (wrapped_unary o v)
unary_found q at o a v h =
    where_faultless (required (is_unary_operand o a.found) a) (Value (Integer (unary_kind o (kind_in a)))) (wrapped_unary o v)
    (λ none. unary_value o a.found v h (required_holds (is_unary_operand o a.found) a.place a.found none))

cast_found : (q : List Def) (at : ℕ) (t : CType) (a : Part) (v : RunValue)
    → AsFound (part (names_in q) at (node.Cast t a)).found (converted_to (bare_type t) v)
cast_found q at t a v =
    where_faultless (required (fits q t a.found) a) (after (unknown_tag q t) (Value t)) (converted_to (bare_type t) v)
    (λ none.
    where_faultless (unknown_tag q t) (Value t) (converted_to (bare_type t) v) (λ known. converted_has_type (bare_type t) v))

safe_of : (s : SafeOp) → safe (as_binary s) ≡ Some s
safe_of safe_op.Add = refl
safe_of safe_op.Sub = refl
safe_of safe_op.Mul = refl
safe_of safe_op.And = refl
safe_of safe_op.Or = refl
safe_of safe_op.Xor = refl
safe_of safe_op.Lt = refl
safe_of safe_op.Gt = refl
safe_of safe_op.Le = refl
safe_of safe_op.Ge = refl
safe_of safe_op.Eq = refl
safe_of safe_op.Ne = refl

abbrev OfKind : Kind → RunValue → Type 0
OfKind k v = IsTrue (has_type (bare.Integer k) v)

binary_of_integers : (s : SafeOp) (j k : Kind) (v w : RunValue) → AnInteger j v → AnInteger k w
    → IsTrue (has_type (bare.Integer (binary_kind (as_binary s) j k)) (wrapped (as_binary s) v w))
binary_of_integers s j k v w x y =
    subst (λ u. OfKind (binary_kind (as_binary s) j k) (wrapped (as_binary s) u w)) (sym x.is)
    (subst (λ u. OfKind (binary_kind (as_binary s) j k) (wrapped (as_binary s) (Number x.int) u)) (sym y.is)
    (subst (λ o. OfKind (binary_kind (as_binary s) j k) (option_map_or (λ f. Number (binary_wrapped f x.int y.int)) o (int_of 0))) (sym (safe_of s))
    (of_kind (binary_kind (as_binary s) j k) (binary_wrapped s x.int y.int) (
    binary_wrapped_kind s x.int y.int
    ∙ ap (λ l. binary_kind (as_binary s) l (kind_of y.int)) x.kind
    ∙ ap (binary_kind (as_binary s) j) y.kind
    ))))

arithmetic_found : (s : SafeOp) (a b : Part) (v w : RunValue) → AsFound a.found v → AsFound b.found w
    → AsFound
    (after (required (has_value is_integer a.found) a ++ required (has_value is_integer b.found) b)
    (Value (Integer (binary_kind (as_binary s) (kind_in a) (kind_in b)))))
    (wrapped (as_binary s) v w)
arithmetic_found s a b v w h k =
    let of_a : List Fault = required (has_value is_integer a.found) a in
    let of_b : List Fault = required (has_value is_integer b.found) b in
    where_faultless (of_a ++ of_b) (Value (Integer (binary_kind (as_binary s) (kind_in a) (kind_in b)))) (wrapped (as_binary s) v w)
    (λ none.
    binary_of_integers s (kind_in a) (kind_in b) v w
    (integer_in a.found v h (required_holds (has_value is_integer a.found) a.place a.found (neither of_a of_b none).0))
    (integer_in b.found w k (required_holds (has_value is_integer b.found) b.place b.found (neither of_a of_b none).1)))

equal_is_int : (v w : RunValue) → IsTrue (has_type (bare.Integer I32) (wrapped op.Eq v w))
equal_is_int (Number n) (Number m) = refl
equal_is_int (Number n) (Reference o) = refl
equal_is_int (Number n) (Started o) = refl
equal_is_int (Reference o) w = refl
equal_is_int (Started o) w = refl

unequal_is_int : (v w : RunValue) → IsTrue (has_type (bare.Integer I32) (wrapped op.Ne v w))
unequal_is_int (Number n) (Number m) = refl
unequal_is_int (Number n) (Reference o) = refl
unequal_is_int (Number n) (Started o) = refl
unequal_is_int (Reference o) w = refl
unequal_is_int (Started o) w = refl

where_they_meet : (m : Option CType) (at : ℕ) (f : Found) (v : RunValue) → AsFound f v → AsFound (where_met m at f) v
where_they_meet None at f v h = tt
where_they_meet (Some t) at f v h = h

equality_found : (o : BinOp) (at : ℕ) (a b : Part) (v : RunValue) → IsTrue (has_type (bare.Integer I32) v)
    → AsFound
    (after (required (is_operand o a.found) a ++ required (is_operand o b.found) b)
    (where_met (meeting a.found b.found) at (Value (Integer I32))))
    v
equality_found o at a b v h =
    where_faultless (required (is_operand o a.found) a ++ required (is_operand o b.found) b)
    (where_met (meeting a.found b.found) at (Value (Integer I32))) v
    (λ none. where_they_meet (meeting a.found b.found) at (Value (Integer I32)) v h)

binary_found : (q : List Def) (at : ℕ) (o : BinOp) (a b : Part) (v w : RunValue) → AsFound a.found v → AsFound b.found w
    → AsFound (part (names_in q) at (node.Binary o a b)).found (wrapped o v w)
binary_found q at op.Add a b v w h k = arithmetic_found safe_op.Add a b v w h k
binary_found q at op.Sub a b v w h k = arithmetic_found safe_op.Sub a b v w h k
binary_found q at op.Mul a b v w h k = arithmetic_found safe_op.Mul a b v w h k
binary_found q at op.And a b v w h k = arithmetic_found safe_op.And a b v w h k
binary_found q at op.Or a b v w h k = arithmetic_found safe_op.Or a b v w h k
binary_found q at op.Xor a b v w h k = arithmetic_found safe_op.Xor a b v w h k
binary_found q at op.Lt a b v w h k = arithmetic_found safe_op.Lt a b v w h k
binary_found q at op.Gt a b v w h k = arithmetic_found safe_op.Gt a b v w h k
binary_found q at op.Le a b v w h k = arithmetic_found safe_op.Le a b v w h k
binary_found q at op.Ge a b v w h k = arithmetic_found safe_op.Ge a b v w h k
binary_found q at op.Eq a b v w h k = equality_found op.Eq at a b (wrapped op.Eq v w) (equal_is_int v w)
binary_found q at op.Ne a b v w h k = equality_found op.Ne at a b (wrapped op.Ne v w) (unequal_is_int v w)
binary_found q at op.Div a b v w h k = not_allowed q at (node.Binary op.Div a b) (wrapped op.Div v w) refl
binary_found q at op.Rem a b v w h k = not_allowed q at (node.Binary op.Rem a b) (wrapped op.Rem v w) refl
binary_found q at op.Shl a b v w h k = not_allowed q at (node.Binary op.Shl a b) (wrapped op.Shl v w) refl
binary_found q at op.Shr a b v w h k = not_allowed q at (node.Binary op.Shr a b) (wrapped op.Shr v w) refl

-- Conditional expressions.

left : (a b : Bool) → (a && b) ≡ true → a ≡ true
left true b e = refl
left false b e = absurd (true≢false (sym e))

right : (a b : Bool) → (a && b) ≡ true → b ≡ true
right true b e = e
right false b e = absurd (true≢false (sym e))

chosen_of_integers : (t : Bool) (j k : Kind) (v w : RunValue) → AnInteger j v → AnInteger k w
    → IsTrue (has_type (bare.Integer (common_kind j k)) (chosen t v w))
chosen_of_integers t j k v w x y =
    let kind : Kind = common_kind (kind_of x.int) (kind_of y.int) in
    let one : Int = if t then x.int else y.int in
    subst (λ u. OfKind (common_kind j k) (chosen t u w)) (sym x.is)
    (subst (λ u. OfKind (common_kind j k) (chosen t (Number x.int) u)) (sym y.is)
    (of_kind (common_kind j k) (converted one kind) (
    kind_of-number kind (reduced kind (value_of one))
    ∙ ap (λ l. common_kind l (kind_of y.int)) x.kind
    ∙ ap (common_kind j) y.kind
    )))

first_is_handle : (t : Bool) (tag : Bytes) (v w : RunValue) (object : Option ℕ) → v ≡ Reference object
    → IsTrue (has_type (bare.Handle tag) (chosen t v w))
first_is_handle t tag v w object is = subst (λ u. IsTrue (has_type (bare.Handle tag) (chosen t u w))) (sym is) refl

second_is_handle : (t : Bool) (tag : Bytes) (v w : RunValue) (object : Option ℕ) → w ≡ Reference object
    → IsTrue (has_type (bare.Handle tag) (chosen t v w))
second_is_handle t tag v w object is = subst (λ u. IsTrue (has_type (bare.Handle tag) (chosen t v u))) (sym is) (by v)
  where
    by : (u : RunValue) → IsTrue (has_type (bare.Handle tag) (chosen t u (Reference object)))
    by (Number n) = refl
    by (Reference other) = refl
    by (Started thread) = refl

-- where they meet at a type, and the value is one of it
met_at : (m : Option CType) (at : ℕ) (t : CType) (v : RunValue) → m ≡ Some t → IsTrue (has_type (bare_type t) v)
    → AsFound (where_met m at (value_of_type m)) v
met_at m at t v e h = subst {A = Option CType} (λ o. AsFound (where_met o at (value_of_type o)) v) (sym e) h

choice_value : (at : ℕ) (t : Bool) (f g : Found) (v w : RunValue) → AsFound f v → AsFound g w
    → AsFound (where_met (meeting f g) at (value_of_type (meeting f g))) (chosen t v w)
choice_value at t f g v w h k =
    by (has_value is_integer f && has_value is_integer g) (has_value is_handle f && follows (type_of f) g)
    (has_value is_handle g && follows (type_of g) f) refl refl refl
  where
    by : (a b c : Bool) → (has_value is_integer f && has_value is_integer g) ≡ a
        → (has_value is_handle f && follows (type_of f) g) ≡ b → (has_value is_handle g && follows (type_of g) f) ≡ c
        → AsFound
        (where_met
        (if a
        then Some (Integer (common_kind (kind_of_type (type_of f)) (kind_of_type (type_of g))))
        else (if b then type_of f else (if c then type_of g else None))) at
        (value_of_type
        (if a
        then Some (Integer (common_kind (kind_of_type (type_of f)) (kind_of_type (type_of g))))
        else (if b then type_of f else (if c then type_of g else None)))))
        (chosen t v w)
    by true b c ea eb ec =
        chosen_of_integers t (kind_of_type (type_of f)) (kind_of_type (type_of g)) v w
        (integer_in f v h (left (has_value is_integer f) (has_value is_integer g) ea))
        (integer_in g w k (right (has_value is_integer f) (has_value is_integer g) ea))
    by false true c ea eb ec =
        let x : AHandle (type_of f) v = handle_in f v h (left (has_value is_handle f) (follows (type_of f) g) eb) in
        met_at (type_of f) at (Handle x.tag) (chosen t v w) x.type (first_is_handle t x.tag.text v w x.object x.is)
    by false false true ea eb ec =
        let x : AHandle (type_of g) w = handle_in g w k (left (has_value is_handle g) (follows (type_of g) f) ec) in
        met_at (type_of g) at (Handle x.tag) (chosen t v w) x.type (second_is_handle t x.tag.text v w x.object x.is)
    by false false false ea eb ec = tt

choice_found : (q : List Def) (at : ℕ) (c a b : Part) (u v w : RunValue) → AsFound a.found v → AsFound b.found w
    → AsFound (part (names_in q) at (node.Choice c a b)).found (chosen (is_true u) v w)
choice_found q at c a b u v w h k =
    where_faultless
    (required (is_condition c.found) c ++ (required (is_comparable a.found) a ++ required (is_comparable b.found) b))
    (where_met (meeting a.found b.found) at (value_of_type (meeting a.found b.found))) (chosen (is_true u) v w)
    (λ none. choice_value at (is_true u) a.found b.found v w h k)

-- Expressions whole, by what `old` is.

record IsOld (old : Old) (now : OldValue) : Type 0 where
  whole : AsFound (by_itself old) now.whole
  field : (name : Bytes) → IfSome (type_in old name) (λ t. IsTrue (has_type (bare_type t) (now.field name)))

module _ (q : List Def) (old : Old) (now : OldValue) (is : IsOld old now) where
  abbrev Holds : Expr → Type 0
  Holds e = AsFound (infer_old (names_in q) old e).found (constant now (bare_expr e))

  dot_found : (a : Part) (field : Name)
      → AsFound (after (required (is_object old) a) (field_value (type_in old field.text) field.place)) (now.field field.text)
  dot_found a field =
      where_faultless (required (is_object old) a) (field_value (type_in old field.text) field.place) (now.field field.text)
      (λ none. by (type_in old field.text) (is.field field.text))
    where
      by : (o : Option CType) → IfSome o (λ t. IsTrue (has_type (bare_type t) (now.field field.text)))
          → AsFound (field_value o field.place) (now.field field.text)
      by None h = tt
      by (Some t) h = h

  at_node : (x : Expr-F Expr)
      → AsFound (part_of (names_in q) old x.place (map-Expr Expr Part (infer_old (names_in q) old) x).node).found
      (constant now (bare_node (map-Expr Expr BareExpr bare_expr x).node))
      → Holds (roll-Expr x)
  at_node x h =
      subst {A = Part} (λ p. AsFound p.found (constant now (bare_expr (roll-Expr x))))
      (sym (fold-roll-Expr Part (λ e. part_of (names_in q) old e.place e.node) x))
      (subst {A = BareExpr}
      (λ b.
      AsFound (part_of (names_in q) old x.place (map-Expr Expr Part (infer_old (names_in q) old) x).node).found (constant now b))
      (sym (fold-roll-Expr BareExpr (λ e. bare_node e.node) x)) h)

  abbrev inferred : Expr → Part
  inferred e = infer_old (names_in q) old e

  abbrev value : Expr → RunValue
  value e = constant now (bare_expr e)

  by_form : (at : ℕ) (made : ExprNode ((e : Expr) × Holds e))
      → Holds (roll-Expr (map-Expr ((e : Expr) × Holds e) Expr (λ e. e.0) (record { place = at; node = made })))
  by_form at (node.Number n) = at_node (record { place = at; node = node.Number n }) (number_found n)
  by_form at (node.Character n) = at_node (record { place = at; node = node.Character n }) (same_kind_itself (kind_of n))
  by_form at node.Null = at_node (record { place = at; node = node.Null }) refl
  by_form at (node.Variable name) = at_node (record { place = at; node = node.Variable name }) is.whole
  by_form at (node.Dot a field) =
      at_node (record { place = at; node = node.Dot a.0 field }) (dot_found (inferred a.0) field)
  by_form at (node.Unary o a) =
      at_node (record { place = at; node = node.Unary o a.0 }) (unary_found q at o (inferred a.0) (value a.0) a.1)
  by_form at (node.Cast t a) =
      at_node (record { place = at; node = node.Cast t a.0 }) (cast_found q at t (inferred a.0) (value a.0))
  by_form at (node.Binary o a b) =
      at_node (record { place = at; node = node.Binary o a.0 b.0 })
      (binary_found q at o (inferred a.0) (inferred b.0) (value a.0) (value b.0) a.1 b.1)
  by_form at (node.Choice c a b) =
      at_node (record { place = at; node = node.Choice c.0 a.0 b.0 })
      (choice_found q at (inferred c.0) (inferred a.0) (inferred b.0) (value c.0) (value a.0) (value b.0) a.1 b.1)
  by_form at made =
      let x : Expr-F Expr = map-Expr ((e : Expr) × Holds e) Expr (λ e. e.0) (record { place = at; node = made }) in
      at_node x (not_allowed q at (map-Expr Expr Part (infer_old (names_in q) old) x).node (int_of 0) refl)

  as_found : (e : Expr) → Holds e
  as_found = ind-Expr Holds (λ x y same. subst (λ z. Holds (roll-Expr z)) same (by_form y.place y.node))

-- The two kinds of transformers.

abbrev Fits : Option Binding → Option Variable → Type 0
Fits o w =
    IfSome (option_map (λ b. b.declared) o)
    (λ t. IsTrue (has_type (bare_type t) (unwrap_or (option_map (λ v. v.value) w) (int_of 0))))

-- a member of a name has the type of the value that the object has at the name
member_has_type : (layout : List Binding) (fields : List Variable) (name : Bytes) → HaveTypes (map bare_binding layout) fields
    → Fits (find (λ b. bytes_eq name b.name.text) layout) (find (λ v. bytes_eq name v.name) fields)
member_has_type [] fields name h = tt
member_has_type (b ∷ bs) [] name h = absurd h
member_has_type (b ∷ bs) (v ∷ vs) name h =
    subst
    (λ n.
    Fits (if bytes_eq name b.name.text then Some b else find (λ c. bytes_eq name c.name.text) bs)
    (if bytes_eq name n then Some v else find (λ w. bytes_eq name w.name) vs)) (sym h.0)
    (by_test (member_has_type bs vs name h.2) (bytes_eq name b.name.text))
  where
    by_test : Fits (find (λ c. bytes_eq name c.name.text) bs) (find (λ w. bytes_eq name w.name) vs) → (t : Bool)
        → Fits (if t then Some b else find (λ c. bytes_eq name c.name.text) bs) (if t then Some v else find (λ w. bytes_eq name w.name) vs)
    by_test more true = h.1
    by_test more false = more

pub objects_are_as_found : ObjectsAreAsFound
objects_are_as_found q layout fields e h =
    as_found q (AnObject layout) (old_object fields) (record { whole = tt; field = λ name. member_has_type layout fields name h }) e

pub globals_are_as_found : GlobalsAreAsFound
globals_are_as_found q t v e h = as_found q (AValue t) (old_value v) (record { whole = h; field = λ name. tt }) e

-- Conversions.

zero_is_zero : (k : Kind) → is_zero (value_of (number k (pos 0))) ≡ true
zero_is_zero I8 = refl
zero_is_zero U8 = refl
zero_is_zero I16 = refl
zero_is_zero U16 = refl
zero_is_zero I32 = refl
zero_is_zero U32 = refl
zero_is_zero I64 = refl
zero_is_zero U64 = refl

handle_takes : (tag : Name) (t : CType) (v : RunValue) → same_type (Handle tag) t ≡ true → IsTrue (has_type (bare_type t) v)
    → IsTrue (takes (bare.Handle tag.text) v)
handle_takes tag (Handle other) (Reference object) e h = refl
handle_takes tag (Handle other) (Number n) e h = absurd (true≢false (sym h))
handle_takes tag (Handle other) (Started thread) e h = absurd (true≢false (sym h))
handle_takes tag (Integer k) v e h = absurd (true≢false (sym e))
handle_takes tag Thread v e h = absurd (true≢false (sym e))

thread_takes : (t : CType) (v : RunValue) → same_type Thread t ≡ true → IsTrue (has_type (bare_type t) v)
    → IsTrue (takes bare.Thread v)
thread_takes Thread (Started thread) e h = refl
thread_takes Thread (Number n) e h = absurd (true≢false (sym h))
thread_takes Thread (Reference object) e h = absurd (true≢false (sym h))
thread_takes (Integer k) v e h = absurd (true≢false (sym e))
thread_takes (Handle tag) v e h = absurd (true≢false (sym e))

-- what is found to be converted to a type is
takes_what_converts : (t : CType) (f : Found) (v : RunValue) → converts t f ≡ true → AsFound f v → IsTrue (takes (bare_type t) v)
takes_what_converts (Integer k) f v e h =
    let x : AnInteger (kind_of_type (type_of f)) v = integer_in f v h e in
    subst (λ w. IsTrue (takes (bare.Integer k) w)) (sym x.is) refl
takes_what_converts (Handle tag) (Place t) v e h = handle_takes tag t v e h
takes_what_converts (Handle tag) (Value t) v e h = handle_takes tag t v e h
takes_what_converts (Handle tag) (Zero k) v e h =
    subst (λ w. IsTrue (takes (bare.Handle tag.text) w)) (sym h) (zero_is_zero k)
takes_what_converts (Handle tag) Null v e h = subst (λ w. IsTrue (takes (bare.Handle tag.text) w)) (sym h) refl
takes_what_converts (Handle tag) f v e h = absurd (true≢false (sym e))
takes_what_converts Thread (Place t) v e h = thread_takes t v e h
takes_what_converts Thread (Value t) v e h = thread_takes t v e h
takes_what_converts Thread f v e h = absurd (true≢false (sym e))

none_mapped : {A B : Type 0} (f : A → B) (xs : List A) → map f xs ≡ [] → xs ≡ []
none_mapped f [] e = refl
none_mapped f (x ∷ xs) e = cc

-- a value without a fault is converted
converts_faultless : (q : List Def) (old : Old) (t : CType) (e : Expr) → value_faults q old t e ≡ []
    → converts t (infer_old (names_in q) old e).found ≡ true
converts_faultless q old t e none =
    let value : Part = infer_old (names_in q) old e in
    required_holds (converts t value.found) value.place value.found
    (none_mapped of_expression (required (converts t value.found) value) none)

pub objects_convert : ObjectsConvert
objects_convert q layout fields t e h none =
    takes_what_converts t (infer_old (names_in q) (AnObject layout) e).found (constant (old_object fields) (bare_expr e))
    (converts_faultless q (AnObject layout) t e none) (objects_are_as_found q layout fields e h)

pub globals_convert : GlobalsConvert
globals_convert q t u v e h none =
    takes_what_converts t (infer_old (names_in q) (AValue u) e).found (constant (old_value v) (bare_expr e))
    (converts_faultless q (AValue u) t e none) (globals_are_as_found q u v e h)
