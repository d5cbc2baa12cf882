-- What is found of an expression says what its tree's type is.
use Rattle.std.proofs.Common.{◌≡◌, Bool, true, false, ◌&&◌, ◌||◌, List, Option, Some, None, refl, sym, ap, subst, ◌∙◌, inl, inr, if◌then◌else◌}
use Rattle.std.specs.Prelude.{◌⊎◌}
use Rattle.c_ints.specs.declared.kind.Kind.{Kind}
use Rattle.c_ints.specs.declared.kind.Kind.TheVariants.{I8, U8, I16, U16, I32, U32, I64, U64}
use Rattle.c_ints.specs.Kind.{common_kind}
use Rattle.c_tree.specs.BareExpr.{Bytes, BareType}
use Rattle.c_tree.specs.BareExpr as bare
use Rattle.c_tree.specs.Bare.{bare_type}
use Rattle.c_tree.specs.declared.name.Name.{Name}
use Rattle.c_tree.specs.declared.name.CType.{CType}
use Rattle.c_tree.specs.declared.name.CType.TheVariants.{Integer, Handle, Thread}
use Rattle.c_tree.specs.declared.def.Def.{Def}
use Rattle.c_expr_types.specs.declared.found.Found.{Found}
use Rattle.c_expr_types.specs.declared.found.Found.TheVariants.{Wrong, Place, Value, Zero, Null, Nothing, Designator}
use Rattle.c_expr_types.specs.Found.{converts, has_value, is_comparable, is_evaluated, is_handle, is_integer, is_null, is_scalar, is_value, kind_of_type, same_kind, same_type, type_of}
use Rattle.c_expr_types.specs.Expressions.{follows, meeting}
use Rattle.c_semantics.specs.Resolved.{Expression}
use Rattle.c_semantics.specs.Resolved as made
use Rattle.c_semantics.specs.Resolution.{Resolved, common_type}
use Rattle.typed_uses.proofs.Lookups.{look, same_bytes}
use Rattle.typed_uses.proofs.Agreement.{TypeFits, handle_is}
use Rattle.typed_trees.specs.ValueTypes.{Environment}
use Rattle.typed_trees.specs.ExpressionTypes.{Becomes, IsInteger, IsNull, IsNullFor, IsPlaced, IsScalar, IsTyped, place_type}
use Rattle.typed_trees.specs.ExpressionTypes as tree

pub never : false ≡ true → ⊥
never e = cc

pub both : (a b : Bool) → (a && b) ≡ true → (a ≡ true) × (b ≡ true)
both true b e = (refl, e)
both false b e = absurd (never e)

pub either : (a b : Bool) → (a || b) ≡ true → (a ≡ true) ⊎ (b ≡ true)
either true b e = inl refl
either false b e = inr e

-- ---- types that are one

pub one_kind : (a b : Kind) → same_kind a b ≡ true → a ≡ b
one_kind I8 I8 e = refl
one_kind U8 U8 e = refl
one_kind I16 I16 e = refl
one_kind U16 U16 e = refl
one_kind I32 I32 e = refl
one_kind U32 U32 e = refl
one_kind I64 I64 e = refl
one_kind U64 U64 e = refl
one_kind a b e = absurd (never e)

pub one_type : (a b : CType) → same_type a b ≡ true → bare_type a ≡ bare_type b
one_type (Integer a) (Integer b) e = ap bare.Integer (one_kind a b e)
one_type (Handle a) (Handle b) e = ap bare.Handle (same_bytes a.text b.text e)
one_type Thread Thread e = refl
one_type (Integer a) (Handle b) e = absurd (never e)
one_type (Integer a) Thread e = absurd (never e)
one_type (Handle a) (Integer b) e = absurd (never e)
one_type (Handle a) Thread e = absurd (never e)
one_type Thread (Integer b) e = absurd (never e)
one_type Thread (Handle b) e = absurd (never e)

-- ---- what is found

pub evaluated : (test : CType → Bool) (found : Found) → has_value test found ≡ true → is_evaluated found ≡ true
evaluated test (Wrong f) e = refl
evaluated test (Place t) e = refl
evaluated test (Value t) e = refl
evaluated test (Zero k) e = refl
evaluated test Null e = refl
evaluated test Nothing e = refl
evaluated test Designator e = e

pub value_evaluated : (found : Found) → is_value found ≡ true → is_evaluated found ≡ true
value_evaluated (Wrong f) e = refl
value_evaluated (Place t) e = refl
value_evaluated (Value t) e = refl
value_evaluated (Zero k) e = refl
value_evaluated Null e = refl
value_evaluated Nothing e = refl
value_evaluated Designator e = e

pub comparable_evaluated : (found : Found) → is_comparable found ≡ true → is_evaluated found ≡ true
comparable_evaluated (Wrong f) e = refl
comparable_evaluated (Place t) e = refl
comparable_evaluated (Value t) e = refl
comparable_evaluated (Zero k) e = refl
comparable_evaluated Null e = refl
comparable_evaluated Nothing e = refl
comparable_evaluated Designator e = e

-- a value with a property has a type with it
pub record Valued (test : CType → Bool) (type : BareType) : Type 0 where
  pub of : CType
  pub holds : test of ≡ true
  pub is : type ≡ bare_type of

pub valued : (text : List Def) (test : CType → Bool) (found : Found) (type : BareType) → has_value test found ≡ true
    → TypeFits text found type → Valued test type
valued text test (Wrong f) type e fits = absurd (never e)
valued text test (Place t) type e fits = record { of = t; holds = e; is = fits.is }
valued text test (Value t) type e fits = record { of = t; holds = e; is = fits.is }
valued text test (Zero k) type e fits = record { of = Integer k; holds = e; is = fits }
valued text test Null type e fits = absurd (never e)
valued text test Nothing type e fits = absurd (never e)
valued text test Designator type e fits = absurd (never e)

integer_of : (t : CType) → is_integer t ≡ true → IsInteger (bare_type t)
integer_of (Integer k) e = tt
integer_of (Handle tag) e = absurd (never e)
integer_of Thread e = absurd (never e)

scalar_of : (t : CType) → is_scalar t ≡ true → IsScalar (bare_type t)
scalar_of (Integer k) e = tt
scalar_of (Handle tag) e = tt
scalar_of Thread e = absurd (never e)

pub integer_found : (text : List Def) (found : Found) (type : BareType) → has_value is_integer found ≡ true → TypeFits text found type → IsInteger type
integer_found text found type e fits =
    let v = valued text is_integer found type e fits in subst IsInteger (sym v.is) (integer_of v.of v.holds)

pub scalar_found : (text : List Def) (found : Found) (type : BareType) → has_value is_scalar found ≡ true → TypeFits text found type → IsScalar type
scalar_found text found type e fits =
    let v = valued text is_scalar found type e fits in subst IsScalar (sym v.is) (scalar_of v.of v.holds)

pub same_found : (text : List Def) (t : CType) (found : Found) (type : BareType) → has_value (same_type t) found ≡ true → TypeFits text found type
    → type ≡ bare_type t
same_found text t found type e fits =
    let v = valued text (same_type t) found type e fits in v.is ∙ sym (one_type t v.of v.holds)

pub becomes_integer : (k : Kind) (type : BareType) → IsInteger type → Becomes (bare.Integer k) type
becomes_integer k (bare.Integer j) i = tt
becomes_integer k (bare.Handle tag) i = absurd i
becomes_integer k bare.Thread i = absurd i

-- ---- what is found, and its tree

-- an expression's tree is typed, with the type to which it is resolved; a place is one of that type; NULL and 0 are a
-- constant
pub record Fits (text : List Def) (env : Environment) (found : Found) (r : Resolved) : Type 0 where
  pub typed : is_evaluated found ≡ true → IsTyped (look text) env r.tree
  pub type : is_evaluated found ≡ true → tree.type_of (look text) env r.tree ≡ r.type
  pub placed : (t : CType) → found ≡ Place t → IsPlaced (look text) env r.place × (place_type (look text) env r.place ≡ r.type)
  pub null : is_null found ≡ true → IsNull r.tree

-- a conversion as by assignment
pub convert : (text : List Def) (env : Environment) (t : CType) (found : Found) (r : Resolved) → converts t found ≡ true
    → TypeFits text found r.type → Fits text env found r → IsTyped (look text) env (made.Convert (bare_type t) r.tree)
convert text env (Integer k) found r e fits f =
    let ev = evaluated is_integer found e in
    (f.typed ev, inl (becomes_integer k _ (subst IsInteger (sym (f.type ev)) (integer_found text found r.type e fits))))
convert text env (Handle tag) found r e fits f = by (either (is_null found) (has_value (same_type (Handle tag)) found) e)
  where
    by : ((is_null found ≡ true) ⊎ (has_value (same_type (Handle tag)) found ≡ true)) → IsTyped (look text) env (made.Convert (bare.Handle tag.text) r.tree)
    by (inl n) = (f.typed (value_evaluated found (null_value found n)), inr (f.null n))
      where
        null_value : (found : Found) → is_null found ≡ true → is_value found ≡ true
        null_value (Wrong x) n = absurd (never n)
        null_value (Place x) n = absurd (never n)
        null_value (Value x) n = absurd (never n)
        null_value (Zero k) n = refl
        null_value Null n = refl
        null_value Nothing n = absurd (never n)
        null_value Designator n = absurd (never n)
    by (inr h) =
        let ev = evaluated (same_type (Handle tag)) found h in
        (f.typed ev, inl (subst (Becomes (bare.Handle tag.text)) (sym (f.type ev ∙ same_found text (Handle tag) found r.type h fits)) refl))
convert text env Thread found r e fits f =
    let ev = evaluated (same_type Thread) found e in
    (f.typed ev, inl (subst (Becomes bare.Thread) (sym (f.type ev ∙ same_found text Thread found r.type e fits)) tt))

-- ---- where two values meet

-- integers, or handles of one struct once they are converted
pub data Meeting (text : List Def) (env : Environment) (x y : Resolved) : Type 0 where
  integers : IsInteger x.type → IsInteger y.type → Meeting text env x y
  handles : (tag : Bytes) → common_type x.type y.type ≡ bare.Handle tag → IsTyped (look text) env (made.Convert (bare.Handle tag) x.tree)
      → IsTyped (look text) env (made.Convert (bare.Handle tag) y.tree) → Meeting text env x y

first_handle : (tag : Bytes) (y : BareType) → common_type (bare.Handle tag) y ≡ bare.Handle tag
first_handle tag y = refl

-- a handle of that struct, or an int
second_handle : (tag : Bytes) (x : BareType) → (x ≡ bare.Handle tag) ⊎ IsInteger x → common_type x (bare.Handle tag) ≡ bare.Handle tag
second_handle tag x (inl e) = subst (λ u. common_type u (bare.Handle tag) ≡ bare.Handle tag) (sym e) refl
second_handle tag (bare.Integer k) (inr i) = refl
second_handle tag (bare.Handle other) (inr i) = absurd i
second_handle tag bare.Thread (inr i) = absurd i

null_integer : (text : List Def) (found : Found) (type : BareType) → is_null found ≡ true → TypeFits text found type → IsInteger type
null_integer text (Wrong x) type n fits = absurd (never n)
null_integer text (Place x) type n fits = absurd (never n)
null_integer text (Value x) type n fits = absurd (never n)
null_integer text (Zero k) type n fits = subst IsInteger (sym fits) tt
null_integer text Null type n fits = subst IsInteger (sym fits) tt
null_integer text Nothing type n fits = absurd (never n)
null_integer text Designator type n fits = absurd (never n)

follows_convert : (o : Option CType) (t : CType) (found : Found) → o ≡ Some t → follows o found ≡ true → converts t found ≡ true
follows_convert o t found is e = subst (λ u. follows u found ≡ true) is e

pub meet : (text : List Def) (env : Environment) (a b : Found) (x y : Resolved) (t : CType) → meeting a b ≡ Some t
    → TypeFits text a x.type → TypeFits text b y.type → Fits text env a x → Fits text env b y → Meeting text env x y
meet text env a b x y t e fa fb f g =
    by_integers (has_value is_integer a && has_value is_integer b) refl
    (has_value is_handle a && follows (type_of a) b) refl (has_value is_handle b && follows (type_of b) a) refl e
  where
    left : has_value is_handle a ≡ true → follows (type_of a) b ≡ true → Meeting text env x y
    left h c =
        let i = handle_is text a x.type h fa in
        let ev = evaluated is_handle a h in
        let own : IsTyped (look text) env (made.Convert (bare.Handle i.tag.text) x.tree) =
        (f.typed ev, inl (subst (Becomes (bare.Handle i.tag.text)) (sym (f.type ev ∙ i.has.is)) refl)) in
        handles i.tag.text (subst (λ u. common_type u y.type ≡ bare.Handle i.tag.text) (sym i.has.is) refl) own
        (convert text env (Handle i.tag) b y (follows_convert (type_of a) (Handle i.tag) b i.of c) fb g)

    right : has_value is_handle b ≡ true → follows (type_of b) a ≡ true → Meeting text env x y
    right h c =
        let i = handle_is text b y.type h fb in
        let ev = evaluated is_handle b h in
        let own : IsTyped (look text) env (made.Convert (bare.Handle i.tag.text) y.tree) =
        (g.typed ev, inl (subst (Becomes (bare.Handle i.tag.text)) (sym (g.type ev ∙ i.has.is)) refl)) in
        let goes = follows_convert (type_of b) (Handle i.tag) a i.of c in
        handles i.tag.text
        (subst (λ u. common_type x.type u ≡ bare.Handle i.tag.text) (sym i.has.is)
        (second_handle i.tag.text x.type (other i.tag (either (is_null a) (has_value (same_type (Handle i.tag)) a) goes))))
        (convert text env (Handle i.tag) a x goes fa f) own
      where
        other : (tag : Name) → ((is_null a ≡ true) ⊎ (has_value (same_type (Handle tag)) a ≡ true)) → (x.type ≡ bare.Handle tag.text) ⊎ IsInteger x.type
        other tag (inl n) = inr (null_integer text a x.type n fa)
        other tag (inr h) = inl (same_found text (Handle tag) a x.type h fa)

    by_integers : (i : Bool) → (has_value is_integer a && has_value is_integer b) ≡ i
        → (l : Bool) → (has_value is_handle a && follows (type_of a) b) ≡ l
        → (r : Bool) → (has_value is_handle b && follows (type_of b) a) ≡ r
        → (if i then Some (Integer (common_kind (kind_of_type (type_of a)) (kind_of_type (type_of b)))) else (if l then type_of a else (if r then type_of b else None))) ≡ Some t
        → Meeting text env x y
    by_integers true ei l el r er e =
        let p = both (has_value is_integer a) (has_value is_integer b) ei in
        integers (integer_found text a x.type p.0 fa) (integer_found text b y.type p.1 fb)
    by_integers false ei true el r er e =
        let p = both (has_value is_handle a) (follows (type_of a) b) el in left p.0 p.1
    by_integers false ei false el true er e =
        let p = both (has_value is_handle b) (follows (type_of b) a) er in right p.0 p.1
    by_integers false ei false el false er e = cc
