-- An expression without faults has a typed tree, where its parts have: the forms without names.
use Rattle.std.proofs.Common.{◌≡◌, ℕ, Bool, true, false, IsTrue, List, [], Option, Some, None, pos, refl, sym, ap, subst, subst₂, ◌∙◌, inl, if◌then◌else◌}
use Rattle.c_ints.specs.declared.kind.Kind.{Kind}
use Rattle.c_ints.specs.declared.kind.Kind.TheVariants.{I32}
use Rattle.c_ints.specs.declared.int.Int.{Int}
use Rattle.c_ints.specs.declared.operator.BinOp.{BinOp}
use Rattle.c_ints.specs.declared.operator.BinOp.TheVariants as op
use Rattle.c_ints.specs.declared.operator.UnOp.{UnOp}
use Rattle.c_ints.specs.Number.{kind_of, number, value_of}
use Rattle.c_ints.specs.Arithmetic.{binary_kind, is_not, is_zero, unary_kind}
use Rattle.c_tree.specs.BareExpr.{Bytes, BareType}
use Rattle.c_tree.specs.BareExpr as bare
use Rattle.c_tree.specs.Bare.{bare_type}
use Rattle.c_tree.specs.declared.name.CType.{CType}
use Rattle.c_tree.specs.declared.name.CType.TheVariants.{Integer}
use Rattle.c_tree.specs.declared.expr.StepOp.{StepOp}
use Rattle.c_tree.specs.declared.expr.StepOp.TheVariants.{PreIncrement, PreDecrement, PostIncrement, PostDecrement}
use Rattle.c_tree.specs.declared.expr.ExprNode.{ExprNode}
use Rattle.c_tree.specs.declared.expr.ExprNode.TheVariants as node
use Rattle.c_tree.specs.declared.def.Def.{Def}
use Rattle.c_expr_types.specs.declared.found.Found.{Found}
use Rattle.c_expr_types.specs.declared.found.Found.TheVariants.{Wrong, Place, Value, Zero, Null, Nothing, Designator}
use Rattle.c_expr_types.specs.declared.found.Part.{Part}
use Rattle.c_definitions.specs.Lookup.{Names, is_known}
use Rattle.c_expr_types.specs.Found.{converts, has_value, is_comparable, is_evaluated, is_integer, is_null, is_scalar, is_value, kind_in, place_required, required, type_of, value_of_type}
use Rattle.c_expr_types.specs.Expressions.{fits, is_assigned, is_condition, is_equality, is_operand, is_unary_operand, meeting, number_type, own, part, parts, unknown_tag, where_met}
use Rattle.c_expr_types.specs.Expressions as types
use Rattle.c_semantics.specs.Texts.{int}
use Rattle.c_semantics.specs.Resolved.{Expression}
use Rattle.c_semantics.specs.Resolved as made
use Rattle.c_semantics.specs.Resolution.{Resolved, assignment, binary, choice, common_type, int_value, kind, side, step, update, value}
use Rattle.typed_uses.proofs.Faultless.{Clean, after_none, built, is_place, meets, none_after, none_before}
use Rattle.typed_uses.proofs.SoundTexts.{known}
use Rattle.typed_uses.proofs.Lookups.{look}
use Rattle.typed_uses.proofs.Agreement.{Good, TypeFits}
use Rattle.typed_trees.specs.ValueTypes.{Environment}
use Rattle.typed_trees.specs.ExpressionTypes.{AreOperands, IsInteger, IsNull, IsOperand, IsPlaced, IsScalar, IsTyped, place_type}
use Rattle.typed_trees.specs.ExpressionTypes as tree
use Rattle.typed_texts.proofs.FoundTypes.{Fits, Meeting, handles, integers, becomes_integer, comparable_evaluated, convert, evaluated, integer_found, meet, never, scalar_found}

-- an expression without faults: its type, and its tree
pub record Has (text : List Def) (env : Environment) (found : Found) (r : Resolved) : Type 0 where
  pub good : Good text found r
  pub fits : Fits text env found r

abbrev pub IfClean : List Def → Environment → Part → Resolved → Type 0
IfClean text env p r = Clean p.found → Has text env p.found r

-- what is required holds
pub record Meets (text : List Def) (env : Environment) (test : Bool) (p : Part) (r : Resolved) : Type 0 where
  pub holds : test ≡ true
  pub has : Has text env p.found r

pub part_meets : (text : List Def) (env : Environment) (test : Bool) (p : Part) (r : Resolved) → IfClean text env p r → required test p ≡ []
    → Meets text env test p r
part_meets text env test p r f e = let m = meets test p e in record { holds = m.0; has = f m.1 }

-- a place, as required
pub record Placed (text : List Def) (env : Environment) (test : Bool) (p : Part) (r : Resolved) : Type 0 where
  pub type : CType
  pub found_is : p.found ≡ Place type
  pub holds : test ≡ true
  pub is : r.type ≡ bare_type type
  pub known : IsTrue (is_known text type)
  pub placed : IsPlaced (look text) env r.place
  pub of : place_type (look text) env r.place ≡ r.type

pub part_placed : (text : List Def) (env : Environment) (test : Bool) (p : Part) (r : Resolved) → IfClean text env p r → place_required test p ≡ []
    → Placed text env test p r
part_placed text env test p r f e =
    let m = is_place test p e in
    let has = f (subst Clean (sym m.1) refl) in
    let q = has.fits.placed m.0 m.1 in
    let type = subst (λ x. TypeFits text x r.type) m.1 has.good.type in
    record { type = m.0; found_is = m.1; holds = m.2; is = type.is; known = type.known; placed = q.0; of = q.1 }

-- what an expression is by its parts
pub fits_by : (names : Names) (env : Environment) (at : ℕ) (n : ExprNode Part) (r : Resolved)
    → (parts names n ≡ [] → Clean (own names at n) → Fits names.text env (own names at n) r)
    → Clean (part names at n).found → Fits names.text env (part names at n).found r
fits_by names env at n r f clean =
    let b = built names at n clean in subst (λ x. Fits names.text env x r) (sym b.is) (f b.none b.clean)

-- no place, and no NULL
abbrev pub IsPlainValue : Found → Type 0
IsPlainValue (Place t) = ⊥
IsPlainValue (Zero k) = ⊥
IsPlainValue Null = ⊥
IsPlainValue _ = Unit {0}

no_place : (found : Found) (t : CType) → IsPlainValue found → found ≡ Place t → ⊥
no_place (Wrong f) t p e = cc
no_place (Place u) t p e = p
no_place (Value u) t p e = cc
no_place (Zero k) t p e = cc
no_place Null t p e = cc
no_place Nothing t p e = cc
no_place Designator t p e = cc

no_null : (found : Found) → IsPlainValue found → is_null found ≡ true → ⊥
no_null (Wrong f) p e = never e
no_null (Place u) p e = never e
no_null (Value u) p e = never e
no_null (Zero k) p e = p
no_null Null p e = p
no_null Nothing p e = never e
no_null Designator p e = never e

pub plain : (text : List Def) (env : Environment) (found : Found) (r : Resolved) → IsPlainValue found → IsTyped (look text) env r.tree
    → tree.type_of (look text) env r.tree ≡ r.type → Fits text env found r
plain text env found r p typed type = record {
  typed = λ e. typed;
  type = λ e. type;
  placed = λ t e. absurd (no_place found t p e);
  null = λ e. absurd (no_null found p e);
}

pub of_type_plain : (o : Option CType) → IsPlainValue (value_of_type o)
of_type_plain None = tt
of_type_plain (Some t) = tt

met_plain : (m : Option CType) (at : ℕ) (found : Found) → IsPlainValue found → IsPlainValue (where_met m at found)
met_plain None at found p = tt
met_plain (Some t) at found p = p

if_plain : (b : Bool) (x y : Found) → IsPlainValue x → IsPlainValue y → IsPlainValue (if b then x else y)
if_plain true x y p q = p
if_plain false x y p q = q

-- ---- numbers

pub number_fits : (names : Names) (env : Environment) (at : ℕ) (n : Int) → Clean (part names at (node.Number n)).found
    → Fits names.text env (part names at (node.Number n)).found (value (made.Constant n) (bare.Integer (kind_of n)))
number_fits names env at n = fits_by names env at (node.Number n) _ (λ p o. by (is_zero (value_of n)) refl)
  where
    by : (b : Bool) → is_zero (value_of n) ≡ b
        → Fits names.text env (if b then Zero (kind_of n) else Value (Integer (kind_of n))) (value (made.Constant n) (bare.Integer (kind_of n)))
    by true e = record { typed = λ _. tt; type = λ _. refl; placed = λ t e. cc; null = λ _. e }
    by false e = plain names.text env _ _ tt tt refl

pub character_fits : (names : Names) (env : Environment) (at : ℕ) (n : Int) → Clean (part names at (node.Character n)).found
    → Fits names.text env (part names at (node.Character n)).found (value (made.Constant n) (bare.Integer (kind_of n)))
character_fits names env at n = fits_by names env at (node.Character n) _ (λ p o. plain names.text env _ _ tt tt refl)

pub null_fits : (names : Names) (env : Environment) (at : ℕ) → Clean (part names at node.Null).found
    → Fits names.text env (part names at node.Null).found (value (made.Constant int_value) int)
null_fits names env at = fits_by names env at node.Null _ (λ p o. record { typed = λ _. tt; type = λ _. refl; placed = λ t e. cc; null = λ _. refl })

pub success_fits : (names : Names) (env : Environment) (at : ℕ) → Clean (part names at node.Success).found
    → Fits names.text env (part names at node.Success).found (value (made.Constant int_value) int)
success_fits names env at = fits_by names env at node.Success _ (λ p o. plain names.text env _ _ tt tt refl)

pub error_fits : (names : Names) (env : Environment) (at : ℕ) → Clean (part names at node.Error).found
    → Fits names.text env (part names at node.Error).found (value (made.Constant (number I32 (pos 1))) int)
error_fits names env at = fits_by names env at node.Error _ (λ p o. plain names.text env _ _ tt tt refl)

-- ---- operators

unary_operand : (text : List Def) (op : UnOp) (found : Found) (type : BareType) → is_unary_operand op found ≡ true → TypeFits text found type → IsOperand op type
unary_operand text op f type e fits = by (is_not op) e
  where
    by : (b : Bool) → (if b then is_condition f else has_value is_integer f) ≡ true → tree.IsScalarIf b type
    by true e = scalar_found text f type e fits
    by false e = integer_found text f type e fits

unary_evaluated : (op : UnOp) (found : Found) → is_unary_operand op found ≡ true → is_evaluated found ≡ true
unary_evaluated op f e = by (is_not op) e
  where
    by : (b : Bool) → (if b then is_condition f else has_value is_integer f) ≡ true → is_evaluated f ≡ true
    by true e = evaluated is_scalar f e
    by false e = evaluated is_integer f e

pub unary_fits : (names : Names) (env : Environment) (at : ℕ) (op : UnOp) (a : Part) (x : Resolved) → IfClean names.text env a x
    → Clean (part names at (node.Unary op a)).found
    → Fits names.text env (part names at (node.Unary op a)).found (value (made.Unary op x.tree) (bare.Integer (unary_kind op (kind x.type))))
unary_fits names env at op a x f = fits_by names env at (node.Unary op a) _ (λ p o.
    let m = part_meets names.text env (is_unary_operand op a.found) a x f p in
    let ev = unary_evaluated op a.found m.holds in
    let is = m.has.fits.type ev in
    plain names.text env _ _ tt
    (m.has.fits.typed ev, subst (IsOperand op) (sym is) (unary_operand names.text op a.found x.type m.holds m.has.good.type))
    (ap (λ t. bare.Integer (unary_kind op (kind t))) is))

pub step_fits : (names : Names) (env : Environment) (at : ℕ) (op : StepOp) (a : Part) (x : Resolved) → IfClean names.text env a x
    → Clean (part names at (node.Step op a)).found → Fits names.text env (part names at (node.Step op a)).found (step op x)
step_fits names env at op a x f = fits_by names env at (node.Step op a) _ (λ p o.
    let m = part_placed names.text env (has_value is_integer a.found) a x f p in
    let whole : IsInteger x.type = integer_found names.text (Place m.type) x.type (subst (λ y. has_value is_integer y ≡ true) m.found_is m.holds) (record { is = m.is; known = m.known }) in
    by op m.placed (sym m.of) whole)
  where
    by : (op : StepOp) → IsPlaced (look names.text) env x.place → x.type ≡ place_type (look names.text) env x.place → IsInteger x.type
        → Fits names.text env (value_of_type (type_of a.found)) (step op x)
    by PreIncrement placed is whole = plain names.text env _ _ (of_type_plain (type_of a.found)) (placed, tt, is, whole, tt) refl
    by PreDecrement placed is whole = plain names.text env _ _ (of_type_plain (type_of a.found)) (placed, tt, is, whole, tt) refl
    by PostIncrement placed is whole = plain names.text env _ _ (of_type_plain (type_of a.found)) (placed, is, whole) refl
    by PostDecrement placed is whole = plain names.text env _ _ (of_type_plain (type_of a.found)) (placed, is, whole) refl

-- of a known type, what fits it is converted to it
pub fitting : (text : List Def) (t : CType) (f : Found) → IsTrue (is_known text t) → fits text t f ≡ true → converts t f ≡ true
fitting text t f k e = by (is_known text t) k e
  where
    by : (b : Bool) → b ≡ true → (if b then converts t f else is_value f) ≡ true → converts t f ≡ true
    by true k e = e
    by false k e = absurd (never k)

pub cast_fits : (names : Names) (env : Environment) (at : ℕ) (t : CType) (a : Part) (x : Resolved) → IfClean names.text env a x
    → Clean (part names at (node.Cast t a)).found
    → Fits names.text env (part names at (node.Cast t a)).found (value (made.Convert (bare_type t) x.tree) (bare_type t))
cast_fits names env at t a x f = fits_by names env at (node.Cast t a) _ (λ p o.
    let m = part_meets names.text env (fits names.text t a.found) a x f p in
    let is = after_none (unknown_tag names.text t) (Value t) o in
    subst (λ y. Fits names.text env y (value (made.Convert (bare_type t) x.tree) (bare_type t))) (sym is.2)
    (plain names.text env (Value t) _ tt
    (convert names.text env t a.found x (fitting names.text t a.found (known names.text t is.0) m.holds) m.has.good.type m.has.fits) refl))

-- ---- two operands

int_operands : (op : BinOp) (t u : BareType) → IsInteger t → IsInteger u → AreOperands op t u
int_operands op (bare.Integer j) (bare.Integer k) a b = tt
int_operands op (bare.Integer j) (bare.Handle tag) a b = absurd b
int_operands op (bare.Integer j) bare.Thread a b = absurd b
int_operands op (bare.Handle tag) u a b = absurd a
int_operands op bare.Thread u a b = absurd a

common_integer : (t u : BareType) → IsInteger t → IsInteger u → (k : Kind) × (common_type t u ≡ bare.Integer k)
common_integer (bare.Integer j) (bare.Integer k) a b = (_, refl)
common_integer (bare.Integer j) (bare.Handle tag) a b = absurd b
common_integer (bare.Integer j) bare.Thread a b = absurd b
common_integer (bare.Handle tag) u a b = absurd a
common_integer bare.Thread u a b = absurd a

equality_kind : (op : BinOp) (a b c d : Kind) → is_equality op ≡ true → binary_kind op a b ≡ binary_kind op c d
equality_kind op.Add a b c d e = absurd (never e)
equality_kind op.Sub a b c d e = absurd (never e)
equality_kind op.Mul a b c d e = absurd (never e)
equality_kind op.Div a b c d e = absurd (never e)
equality_kind op.Rem a b c d e = absurd (never e)
equality_kind op.And a b c d e = absurd (never e)
equality_kind op.Or a b c d e = absurd (never e)
equality_kind op.Xor a b c d e = absurd (never e)
equality_kind op.Shl a b c d e = absurd (never e)
equality_kind op.Shr a b c d e = absurd (never e)
equality_kind op.Lt a b c d e = absurd (never e)
equality_kind op.Gt a b c d e = absurd (never e)
equality_kind op.Le a b c d e = absurd (never e)
equality_kind op.Ge a b c d e = absurd (never e)
equality_kind op.Eq a b c d e = refl
equality_kind op.Ne a b c d e = refl

same_equality : (op : BinOp) → is_equality op ≡ true → IsTrue (tree.is_equality op)
same_equality op.Add e = absurd (never e)
same_equality op.Sub e = absurd (never e)
same_equality op.Mul e = absurd (never e)
same_equality op.Div e = absurd (never e)
same_equality op.Rem e = absurd (never e)
same_equality op.And e = absurd (never e)
same_equality op.Or e = absurd (never e)
same_equality op.Xor e = absurd (never e)
same_equality op.Shl e = absurd (never e)
same_equality op.Shr e = absurd (never e)
same_equality op.Lt e = absurd (never e)
same_equality op.Gt e = absurd (never e)
same_equality op.Le e = absurd (never e)
same_equality op.Ge e = absurd (never e)
same_equality op.Eq e = refl
same_equality op.Ne e = refl

-- a binary tree is typed, with the type to which it is resolved
pub record BinaryTyped (text : List Def) (env : Environment) (op : BinOp) (x y : Resolved) : Type 0 where
  pub typed : IsTyped (look text) env (binary op x y).tree
  pub type : tree.type_of (look text) env (binary op x y).tree ≡ (binary op x y).type

pub side_of_integer : (type : BareType) (k : Kind) (e : Expression) → type ≡ bare.Integer k → side type e ≡ e
side_of_integer type k e is = subst (λ t. side t e ≡ e) (sym is) refl

pub side_of_handle : (type : BareType) (tag : Bytes) (e : Expression) → type ≡ bare.Handle tag → side type e ≡ made.Convert (bare.Handle tag) e
side_of_handle type tag e is = subst (λ t. side t e ≡ made.Convert (bare.Handle tag) e) (sym is) refl

of_integers : (text : List Def) (env : Environment) (op : BinOp) (x y : Resolved) → IsInteger x.type → IsInteger y.type
    → IsTyped (look text) env x.tree → IsTyped (look text) env y.tree → tree.type_of (look text) env x.tree ≡ x.type
    → tree.type_of (look text) env y.tree ≡ y.type → BinaryTyped text env op x y
of_integers text env op x y i j tx ty ex ey =
    let c = common_integer x.type y.type i j in
    let l = side_of_integer (common_type x.type y.type) c.0 x.tree c.1 in
    let r = side_of_integer (common_type x.type y.type) c.0 y.tree c.1 in
    record {
      typed =
          subst₂ (λ a b. IsTyped (look text) env (made.Binary op a b)) (sym l) (sym r)
          (tx, ty, subst₂ (AreOperands op) (sym ex) (sym ey) (int_operands op x.type y.type i j));
      type =
          subst₂ (λ a b. tree.type_of (look text) env (made.Binary op a b) ≡ bare.Integer (binary_kind op (kind x.type) (kind y.type)))
          (sym l) (sym r)
          (ap (λ t. bare.Integer (binary_kind op (kind t) (kind (tree.type_of (look text) env y.tree)))) ex
          ∙ ap (λ t. bare.Integer (binary_kind op (kind x.type) (kind t))) ey);
    }

of_handles : (text : List Def) (env : Environment) (op : BinOp) (x y : Resolved) (tag : Bytes) → is_equality op ≡ true
    → common_type x.type y.type ≡ bare.Handle tag → IsTyped (look text) env (made.Convert (bare.Handle tag) x.tree)
    → IsTyped (look text) env (made.Convert (bare.Handle tag) y.tree) → BinaryTyped text env op x y
of_handles text env op x y tag e c cx cy =
    let l = side_of_handle (common_type x.type y.type) tag x.tree c in
    let r = side_of_handle (common_type x.type y.type) tag y.tree c in
    record {
      typed =
          subst₂ (λ a b. IsTyped (look text) env (made.Binary op a b)) (sym l) (sym r) (cx, cy, (same_equality op e, refl));
      type =
          subst₂ (λ a b. tree.type_of (look text) env (made.Binary op a b) ≡ bare.Integer (binary_kind op (kind x.type) (kind y.type)))
          (sym l) (sym r) (ap bare.Integer (equality_kind op I32 I32 (kind x.type) (kind y.type) e));
    }

by_meeting : (text : List Def) (env : Environment) (op : BinOp) (x y : Resolved) → is_equality op ≡ true
    → IsTyped (look text) env x.tree → IsTyped (look text) env y.tree → tree.type_of (look text) env x.tree ≡ x.type
    → tree.type_of (look text) env y.tree ≡ y.type → Meeting text env x y → BinaryTyped text env op x y
by_meeting text env op x y e tx ty ex ey (integers i j) = of_integers text env op x y i j tx ty ex ey
by_meeting text env op x y e tx ty ex ey (handles tag c cx cy) = of_handles text env op x y tag e c cx cy

binary_plain : (op : BinOp) (at : ℕ) (a b : Part) → IsPlainValue (types.binary op at a b)
binary_plain op at a b =
    let v : Found = Value (Integer (binary_kind op (kind_in a) (kind_in b))) in
    if_plain (is_equality op) (where_met (meeting a.found b.found) at v) v (met_plain (meeting a.found b.found) at v tt) tt

pub two_fit : (names : Names) (env : Environment) (at : ℕ) (op : BinOp) (a b : Part) (x y : Resolved) → IfClean names.text env a x
    → IfClean names.text env b y → Clean (part names at (node.Binary op a b)).found
    → Fits names.text env (part names at (node.Binary op a b)).found (binary op x y)
two_fit names env at op a b x y f g = fits_by names env at (node.Binary op a b) _ (λ p o.
    let m = part_meets names.text env (is_operand op a.found) a x f (none_before (required (is_operand op a.found) a) _ p) in
    let n = part_meets names.text env (is_operand op b.found) b y g (none_after (required (is_operand op a.found) a) _ p) in
    let t = of_operands (is_equality op) refl o m.holds n.holds m.has n.has in
    plain names.text env (types.binary op at a b) (binary op x y) (binary_plain op at a b) t.typed t.type)
  where
    v : Found
    v = Value (Integer (binary_kind op (kind_in a) (kind_in b)))

    met : (o : Option CType) → meeting a.found b.found ≡ o → Clean (where_met o at v) → (t : CType) × (meeting a.found b.found ≡ Some t)
    met (Some t) is c = (t, is)
    met None is c = cc

    of_operands : (e : Bool) → is_equality op ≡ e → Clean (if e then where_met (meeting a.found b.found) at v else v)
        → (if e then is_comparable a.found else has_value is_integer a.found) ≡ true
        → (if e then is_comparable b.found else has_value is_integer b.found) ≡ true
        → Has names.text env a.found x → Has names.text env b.found y → BinaryTyped names.text env op x y
    of_operands true is c h i hx hy =
        let s = met (meeting a.found b.found) refl c in
        let ex = comparable_evaluated a.found h in
        let ey = comparable_evaluated b.found i in
        by_meeting names.text env op x y is (hx.fits.typed ex) (hy.fits.typed ey) (hx.fits.type ex) (hy.fits.type ey)
        (meet names.text env a.found b.found x y s.0 s.1 hx.good.type hy.good.type hx.fits hy.fits)
    of_operands false is c h i hx hy =
        let ex = evaluated is_integer a.found h in
        let ey = evaluated is_integer b.found i in
        of_integers names.text env op x y (integer_found names.text a.found x.type h hx.good.type) (integer_found names.text b.found y.type i hy.good.type)
        (hx.fits.typed ex) (hy.fits.typed ey) (hx.fits.type ex) (hy.fits.type ey)

-- a condition
condition : (text : List Def) (env : Environment) (found : Found) (r : Resolved) → is_condition found ≡ true → Has text env found r
    → IsTyped (look text) env r.tree × IsScalar (tree.type_of (look text) env r.tree)
condition text env f r e h =
    let ev = evaluated is_scalar f e in
    (h.fits.typed ev, subst IsScalar (sym (h.fits.type ev)) (scalar_found text f r.type e h.good.type))

pub and_fits : (names : Names) (env : Environment) (at : ℕ) (a b : Part) (x y : Resolved) → IfClean names.text env a x
    → IfClean names.text env b y → Clean (part names at (node.And a b)).found
    → Fits names.text env (part names at (node.And a b)).found (value (made.And x.tree y.tree) int)
and_fits names env at a b x y f g = fits_by names env at (node.And a b) _ (λ p o.
    let m = part_meets names.text env (is_condition a.found) a x f (none_before (required (is_condition a.found) a) _ p) in
    let n = part_meets names.text env (is_condition b.found) b y g (none_after (required (is_condition a.found) a) _ p) in
    let c = condition names.text env a.found x m.holds m.has in
    let d = condition names.text env b.found y n.holds n.has in
    plain names.text env _ _ tt (c.0, d.0, c.1, d.1) refl)

pub or_fits : (names : Names) (env : Environment) (at : ℕ) (a b : Part) (x y : Resolved) → IfClean names.text env a x
    → IfClean names.text env b y → Clean (part names at (node.Or a b)).found
    → Fits names.text env (part names at (node.Or a b)).found (value (made.Or x.tree y.tree) int)
or_fits names env at a b x y f g = fits_by names env at (node.Or a b) _ (λ p o.
    let m = part_meets names.text env (is_condition a.found) a x f (none_before (required (is_condition a.found) a) _ p) in
    let n = part_meets names.text env (is_condition b.found) b y g (none_after (required (is_condition a.found) a) _ p) in
    let c = condition names.text env a.found x m.holds m.has in
    let d = condition names.text env b.found y n.holds n.has in
    plain names.text env _ _ tt (c.0, d.0, c.1, d.1) refl)

-- one of two values, each converted to the type at which they meet
both_convert : (text : List Def) (env : Environment) (x y : Resolved) → IsTyped (look text) env x.tree → IsTyped (look text) env y.tree
    → tree.type_of (look text) env x.tree ≡ x.type → tree.type_of (look text) env y.tree ≡ y.type → Meeting text env x y
    → IsTyped (look text) env (made.Convert (common_type x.type y.type) x.tree)
    × IsTyped (look text) env (made.Convert (common_type x.type y.type) y.tree)
both_convert text env x y tx ty ex ey (integers i j) =
    let c = common_integer x.type y.type i j in
    subst (λ t. IsTyped (look text) env (made.Convert t x.tree) × IsTyped (look text) env (made.Convert t y.tree)) (sym c.1) (
      (tx, inl (becomes_integer c.0 _ (subst IsInteger (sym ex) i))),
      (ty, inl (becomes_integer c.0 _ (subst IsInteger (sym ey) j))),
    )
both_convert text env x y tx ty ex ey (handles tag c cx cy) =
    subst (λ t. IsTyped (look text) env (made.Convert t x.tree) × IsTyped (look text) env (made.Convert t y.tree)) (sym c) (cx, cy)

pub choice_fits : (names : Names) (env : Environment) (at : ℕ) (c a b : Part) (z x y : Resolved) → IfClean names.text env c z
    → IfClean names.text env a x → IfClean names.text env b y → Clean (part names at (node.Choice c a b)).found
    → Fits names.text env (part names at (node.Choice c a b)).found (choice z x y)
choice_fits names env at c a b z x y h f g = fits_by names env at (node.Choice c a b) _ (λ p o.
    let q = none_after (required (is_condition c.found) c) _ p in
    let l = part_meets names.text env (is_condition c.found) c z h (none_before (required (is_condition c.found) c) _ p) in
    let m = part_meets names.text env (is_comparable a.found) a x f (none_before (required (is_comparable a.found) a) _ q) in
    let n = part_meets names.text env (is_comparable b.found) b y g (none_after (required (is_comparable a.found) a) _ q) in
    let k = condition names.text env c.found z l.holds l.has in
    let s = met (meeting a.found b.found) refl o in
    let ex = comparable_evaluated a.found m.holds in
    let ey = comparable_evaluated b.found n.holds in
    let w = both_convert names.text env x y (m.has.fits.typed ex) (n.has.fits.typed ey) (m.has.fits.type ex) (n.has.fits.type ey)
    (meet names.text env a.found b.found x y s.0 s.1 m.has.good.type n.has.good.type m.has.fits n.has.fits) in
    plain names.text env (types.choice at a b) (choice z x y)
    (met_plain (meeting a.found b.found) at (value_of_type (meeting a.found b.found)) (of_type_plain (meeting a.found b.found)))
    (k.0, w.0, w.1, k.1, refl) refl)
  where
    met : (o : Option CType) → meeting a.found b.found ≡ o → Clean (where_met o at (value_of_type o)) → (t : CType) × (meeting a.found b.found ≡ Some t)
    met (Some t) is c = (t, is)
    met None is c = cc

-- ---- assignments

pub assign_fits : (names : Names) (env : Environment) (at : ℕ) (a b : Part) (x y : Resolved) → IfClean names.text env a x
    → IfClean names.text env b y → Clean (part names at (node.Assign a b)).found
    → Fits names.text env (part names at (node.Assign a b)).found (assignment x y)
assign_fits names env at a b x y f g = fits_by names env at (node.Assign a b) _ (λ p o.
    let m = part_placed names.text env true a x f (none_before (place_required true a) _ p) in
    let n = part_meets names.text env (is_assigned a.found b.found) b y g (none_after (place_required true a) _ p) in
    let goes : converts m.type b.found ≡ true = subst (λ u. is_assigned u b.found ≡ true) m.found_is n.holds in
    let c : IsTyped (look names.text) env (made.Convert x.type y.tree) =
    subst (λ t. IsTyped (look names.text) env (made.Convert t y.tree)) (sym m.is) (convert names.text env m.type b.found y goes n.has.good.type n.has.fits) in
    plain names.text env _ _ (of_type_plain (type_of a.found)) (m.placed, c, sym m.of) m.of)

pub update_fits : (names : Names) (env : Environment) (at : ℕ) (op : BinOp) (a b : Part) (x y : Resolved) → IfClean names.text env a x
    → IfClean names.text env b y → Clean (part names at (node.Update op a b)).found
    → Fits names.text env (part names at (node.Update op a b)).found (update op x y)
update_fits names env at op a b x y f g = fits_by names env at (node.Update op a b) _ (λ p o.
    let m = part_placed names.text env (has_value is_integer a.found) a x f (none_before (place_required (has_value is_integer a.found) a) _ p) in
    let n = part_meets names.text env (has_value is_integer b.found) b y g (none_after (place_required (has_value is_integer a.found) a) _ p) in
    let whole : IsInteger x.type = integer_found names.text (Place m.type) x.type (subst (λ u. has_value is_integer u ≡ true) m.found_is m.holds) (record { is = m.is; known = m.known }) in
    let ev = evaluated is_integer b.found n.holds in
    plain names.text env _ _ (of_type_plain (type_of a.found))
    (m.placed, n.has.fits.typed ev, sym m.of, whole, subst IsInteger (sym (n.has.fits.type ev)) (integer_found names.text b.found y.type n.holds n.has.good.type)) refl)
