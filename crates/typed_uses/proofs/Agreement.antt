-- What an expression is found to be agrees with what it is resolved to.
use Rattle.std.proofs.Common.{◌≡◌, Bool, true, false, ◌&&◌, ◌||◌, List, Option, Some, None, bytes_eq, refl, sym, ap, subst, subst₂, ◌∙◌, if◌then◌else◌}
use Rattle.std.specs.Option.{option_map_or}
use Rattle.c_ints.specs.Kind.{common_kind}
use Rattle.c_tree.specs.BareExpr.{Bytes, BareType}
use Rattle.c_tree.specs.BareExpr as bare
use Rattle.c_tree.specs.Bare.{bare_type}
use Rattle.c_tree.specs.declared.name.Name.{Name}
use Rattle.c_tree.specs.declared.name.CType.{CType}
use Rattle.c_tree.specs.declared.name.CType.TheVariants.{Integer, Handle, Thread}
use Rattle.c_tree.specs.declared.def.Def.{Def}
use Rattle.c_expr_types.specs.declared.found.Found.{Found}
use Rattle.c_expr_types.specs.declared.found.Found.TheVariants.{Wrong, Place, Value, Zero, Null, Nothing, Designator}
use Rattle.c_expr_types.specs.Found.{has_value, is_comparable, is_handle, is_integer, is_null, is_value, kind_of_type, same_type, type_of}
use Rattle.c_expr_types.specs.Expressions.{follows, meeting}
use Rattle.c_semantics.specs.Texts.{int}
use Rattle.c_semantics.specs.Resolved.{Expression, Place as ResolvedPlace}
use Rattle.c_semantics.specs.Resolution.{Resolved, common_type, kind, located, value}
use Rattle.c_semantics.specs.Points.{of_expression, of_parts, reads, writes}
use Rattle.typed_uses.proofs.Points.{Each, together}
use Rattle.typed_uses.proofs.Lookups.{Named, same_bytes, itself}
use Rattle.typed_uses.proofs.Definitions.{HasType}

-- the type of a value is what it is resolved to, NULL's is int
abbrev pub TypeFits : List Def → Found → BareType → Type 0
TypeFits text (Place t) type = HasType text type t
TypeFits text (Value t) type = HasType text type t
TypeFits text (Zero k) type = type ≡ bare.Integer k
TypeFits text Null type = type ≡ int
TypeFits text _ type = Unit {0}

-- that, and the points of the tree and of its place use names that are defined
pub record Good (text : List Def) (found : Found) (r : Resolved) : Type 0 where
  pub type : TypeFits text found r.type
  pub tree : Each (Named text) (of_expression r.tree)
  pub parts : Each (Named text) (of_parts r.place)
  pub reads : Each (Named text) (reads r.place)
  pub writes : Each (Named text) (writes r.place)

pub value_good : (text : List Def) (found : Found) (tree : Expression) (type : BareType) → TypeFits text found type →
    Each (Named text) (of_expression tree) → Good text found (value tree type)
value_good text found tree type fits each = record { type = fits; tree = each; parts = tt; reads = tt; writes = tt }

pub located_good : (text : List Def) (found : Found) (place : ResolvedPlace) (type : BareType) → TypeFits text found type →
    Each (Named text) (of_parts place) → Each (Named text) (reads place) → Each (Named text) (writes place) →
    Good text found (located place type)
located_good text found place type fits parts read write =
    record { type = fits; tree = together (Named text) (of_parts place) (reads place) parts read; parts = parts; reads = read; writes = write }

-- integer kinds
kind_of_bare : (t : CType) → kind (bare_type t) ≡ kind_of_type (Some t)
kind_of_bare (Integer k) = refl
kind_of_bare (Handle tag) = refl
kind_of_bare Thread = refl

pub kinds_agree : (text : List Def) (found : Found) (type : BareType) → is_value found ≡ true → TypeFits text found type →
    kind type ≡ kind_of_type (type_of found)
kinds_agree text (Wrong f) type is fits = cc
kinds_agree text (Place t) type is fits = ap kind fits.is ∙ kind_of_bare t
kinds_agree text (Value t) type is fits = ap kind fits.is ∙ kind_of_bare t
kinds_agree text (Zero k) type is fits = ap kind fits
kinds_agree text Null type is fits = ap kind fits
kinds_agree text Nothing type is fits = cc
kinds_agree text Designator type is fits = cc

pub value_is : (test : CType → Bool) (found : Found) → has_value test found ≡ true → is_value found ≡ true
value_is test (Wrong f) e = cc
value_is test (Place t) e = refl
value_is test (Value t) e = refl
value_is test (Zero k) e = refl
value_is test Null e = cc
value_is test Nothing e = cc
value_is test Designator e = cc

pub comparable_is : (found : Found) → is_comparable found ≡ true → is_value found ≡ true
comparable_is (Wrong f) e = cc
comparable_is (Place t) e = refl
comparable_is (Value t) e = refl
comparable_is (Zero k) e = refl
comparable_is Null e = refl
comparable_is Nothing e = cc
comparable_is Designator e = cc

-- a handle
pub record IsHandle (text : List Def) (found : Found) (type : BareType) : Type 0 where
  pub tag : Name
  pub of : type_of found ≡ Some (Handle tag)
  pub has : HasType text type (Handle tag)

handle_type : (text : List Def) (found : Found) (t : CType) (type : BareType) → type_of found ≡ Some t → is_handle t ≡ true →
    HasType text type t → IsHandle text found type
handle_type text found (Integer k) type of is has = cc
handle_type text found (Handle tag) type of is has = record { tag = tag; of = of; has = has }
handle_type text found Thread type of is has = cc

pub handle_is : (text : List Def) (found : Found) (type : BareType) → has_value is_handle found ≡ true → TypeFits text found type →
    IsHandle text found type
handle_is text (Wrong f) type e fits = cc
handle_is text (Place t) type e fits = handle_type text (Place t) t type refl e fits
handle_is text (Value t) type e fits = handle_type text (Value t) t type refl e fits
handle_is text (Zero k) type e fits = cc
handle_is text Null type e fits = cc
handle_is text Nothing type e fits = cc
handle_is text Designator type e fits = cc

-- Where two values meet, by their types and whether they are NULL or 0.

abbrev holds : (CType → Bool) → Option CType → Bool
holds test t = option_map_or test t false

abbrev goes_to : CType → Bool → Option CType → Bool
goes_to (Integer k) null t = holds is_integer t
goes_to (Handle tag) null t = null || holds (same_type (Handle tag)) t
goes_to Thread null t = holds (same_type Thread) t

abbrev goes_along : Option CType → Bool → Option CType → Bool
goes_along (Some u) null t = goes_to u null t
goes_along None null t = false

abbrev met : Bool → Bool → Option CType → Option CType → Option CType
met m n a b =
    if holds is_integer a && holds is_integer b
    then Some (Integer (common_kind (kind_of_type a) (kind_of_type b)))
    else (if holds is_handle a && goes_along a n b
    then a
    else (if holds is_handle b && goes_along b m a then b else None))

-- the type is what the value is resolved to; only an integer or NULL is null
abbrev Typed : List Def → Bool → Option CType → BareType → Type 0
Typed text null None type = type ≡ int
Typed text null (Some (Integer k)) type = type ≡ bare.Integer k
Typed text null (Some (Handle tag)) type = HasType text type (Handle tag) × (null ≡ false)
Typed text null (Some Thread) type = type ≡ bare.Thread

taken : (b : Bool) (u t : CType) → (if b then Some u else None) ≡ Some t → u ≡ t
taken true u t e = cc
taken false u t e = cc

on_handle : (text : List Def) (tag : Name) (t : CType) (x : BareType) → Handle tag ≡ t → HasType text x (Handle tag) →
    HasType text (bare.Handle tag.text) t
on_handle text tag t x is has = subst (λ u. HasType text (bare.Handle tag.text) u) is (record { is = refl; known = has.known })

-- of two handles
two_handles : (a b : Name) (t : CType) (m n : Bool) → m ≡ false → n ≡ false →
    (if n || bytes_eq a.text b.text then Some (Handle a) else (if m || bytes_eq b.text a.text then Some (Handle b) else None)) ≡ Some t →
    Handle a ≡ t
two_handles a b t m n em en e = by (bytes_eq a.text b.text) (bytes_eq b.text a.text) refl refl
    (subst (λ x. (if x || bytes_eq a.text b.text then Some (Handle a) else (if false || bytes_eq b.text a.text then Some (Handle b) else None)) ≡ Some t) en
    (subst (λ x. (if n || bytes_eq a.text b.text then Some (Handle a) else (if x || bytes_eq b.text a.text then Some (Handle b) else None)) ≡ Some t) em e))
  where
    by : (x y : Bool) → bytes_eq a.text b.text ≡ x → bytes_eq b.text a.text ≡ y →
        (if x then Some (Handle a) else (if y then Some (Handle b) else None)) ≡ Some t → Handle a ≡ t
    by true y ex ey e = cc
    by false true ex ey e =
        let back : bytes_eq a.text b.text ≡ true = subst (λ z. bytes_eq a.text z ≡ true) (sym (same_bytes b.text a.text ey)) (itself a.text) in
        absurd (let clash : true ≡ false = sym back ∙ ex in cc)
    by false false ex ey e = cc

met_type : (text : List Def) (m n : Bool) (a b : Option CType) (x y : BareType) (t : CType) → Typed text m a x → Typed text n b y →
    met m n a b ≡ Some t → HasType text (common_type x y) t
met_type text m n None None x y t p q e = cc
met_type text m n None (Some (Integer k)) x y t p q e = cc
met_type text m n None (Some (Handle tag)) x y t p q e =
    subst₂ (λ u v. HasType text (common_type u v) t) (sym p) (sym q.0.is) (on_handle text tag t y (taken (m || false) (Handle tag) t e) q.0)
met_type text m n None (Some Thread) x y t p q e = cc
met_type text m n (Some (Integer k)) None x y t p q e = cc
met_type text m n (Some (Integer k)) (Some (Integer l)) x y t p q e =
    let same : Integer (common_kind k l) ≡ t = cc in
    subst₂ (λ u v. HasType text (common_type u v) t) (sym p) (sym q)
    (subst (λ u. HasType text (bare.Integer (common_kind k l)) u) same (record { is = refl; known = refl }))
met_type text m n (Some (Integer k)) (Some (Handle tag)) x y t p q e =
    subst₂ (λ u v. HasType text (common_type u v) t) (sym p) (sym q.0.is) (on_handle text tag t y (taken (m || false) (Handle tag) t e) q.0)
met_type text m n (Some (Integer k)) (Some Thread) x y t p q e = cc
met_type text m n (Some (Handle tag)) None x y t p q e =
    subst₂ (λ u v. HasType text (common_type u v) t) (sym p.0.is) (sym q) (on_handle text tag t x (taken (n || false) (Handle tag) t e) p.0)
met_type text m n (Some (Handle tag)) (Some (Integer l)) x y t p q e =
    subst₂ (λ u v. HasType text (common_type u v) t) (sym p.0.is) (sym q) (on_handle text tag t x (taken (n || false) (Handle tag) t e) p.0)
met_type text m n (Some (Handle a)) (Some (Handle b)) x y t p q e =
    subst₂ (λ u v. HasType text (common_type u v) t) (sym p.0.is) (sym q.0.is) (on_handle text a t x (two_handles a b t m n p.1 q.1 e) p.0)
met_type text m n (Some (Handle tag)) (Some Thread) x y t p q e =
    subst₂ (λ u v. HasType text (common_type u v) t) (sym p.0.is) (sym q) (on_handle text tag t x (taken (n || false) (Handle tag) t e) p.0)
met_type text m n (Some Thread) None x y t p q e = cc
met_type text m n (Some Thread) (Some (Integer l)) x y t p q e = cc
met_type text m n (Some Thread) (Some (Handle tag)) x y t p q e =
    subst₂ (λ u v. HasType text (common_type u v) t) (sym p) (sym q.0.is) (on_handle text tag t y (taken (m || false) (Handle tag) t e) q.0)
met_type text m n (Some Thread) (Some Thread) x y t p q e = cc

-- the definition in these words
value_by_type : (test : CType → Bool) (found : Found) → has_value test found ≡ holds test (type_of found)
value_by_type test (Wrong f) = refl
value_by_type test (Place t) = refl
value_by_type test (Value t) = refl
value_by_type test (Zero k) = refl
value_by_type test Null = refl
value_by_type test Nothing = refl
value_by_type test Designator = refl

follows_by_type : (o : Option CType) (found : Found) → follows o found ≡ goes_along o (is_null found) (type_of found)
follows_by_type None found = refl
follows_by_type (Some (Integer k)) found = value_by_type is_integer found
follows_by_type (Some (Handle tag)) found = ap (λ x. is_null found || x) (value_by_type (same_type (Handle tag)) found)
follows_by_type (Some Thread) found = value_by_type (same_type Thread) found

meeting_is : (a b : Found) → meeting a b ≡ met (is_null a) (is_null b) (type_of a) (type_of b)
meeting_is a b =
    rw (
      value_by_type is_integer a,
      value_by_type is_integer b,
      value_by_type is_handle a,
      value_by_type is_handle b,
      follows_by_type (type_of a) b,
      follows_by_type (type_of b) a,
    )
    refl

typed_by : (text : List Def) (t : CType) (type : BareType) → HasType text type t → Typed text false (Some t) type
typed_by text (Integer k) type has = has.is
typed_by text (Handle tag) type has = (has, refl)
typed_by text Thread type has = has.is

typed_as : (text : List Def) (found : Found) (type : BareType) → is_value found ≡ true → TypeFits text found type →
    Typed text (is_null found) (type_of found) type
typed_as text (Wrong f) type is fits = cc
typed_as text (Place t) type is fits = typed_by text t type fits
typed_as text (Value t) type is fits = typed_by text t type fits
typed_as text (Zero k) type is fits = fits
typed_as text Null type is fits = fits
typed_as text Nothing type is fits = cc
typed_as text Designator type is fits = cc

pub meeting_type : (text : List Def) (a b : Found) (x y : BareType) (t : CType) → is_comparable a ≡ true → is_comparable b ≡ true →
    TypeFits text a x → TypeFits text b y → meeting a b ≡ Some t → HasType text (common_type x y) t
meeting_type text a b x y t ca cb fa fb e =
    met_type text (is_null a) (is_null b) (type_of a) (type_of b) x y t (typed_as text a x (comparable_is a ca) fa)
    (typed_as text b y (comparable_is b cb) fb) (sym (meeting_is a b) ∙ e)
