-- An expression without faults is good where its parts are, form by form.
use Rattle.std.proofs.Common.{◌≡◌, ℕ, Bool, true, false, List, [], ◌++◌, Option, Some, None, refl, sym, ap, subst, ◌∙◌, if◌then◌else◌}
use Rattle.c_ints.specs.declared.int.Int.{Int}
use Rattle.c_ints.specs.declared.operator.BinOp.{BinOp}
use Rattle.c_ints.specs.declared.operator.UnOp.{UnOp}
use Rattle.c_ints.specs.Arithmetic.{is_zero, is_not, binary_kind, unary_kind}
use Rattle.c_ints.specs.Number.{kind_of, value_of}
use Rattle.c_tree.specs.declared.expr.StepOp.{StepOp}
use Rattle.c_tree.specs.declared.expr.StepOp.TheVariants.{PreIncrement, PreDecrement, PostIncrement, PostDecrement}
use Rattle.c_tree.specs.BareExpr.{Bytes, BareType, BareExpr, BareExprs}
use Rattle.c_tree.specs.BareExpr as bare
use Rattle.c_tree.specs.Bare.{bare_type}
use Rattle.c_tree.specs.declared.name.CType.{CType}
use Rattle.c_tree.specs.declared.name.CType.TheVariants.{Integer}
use Rattle.c_tree.specs.declared.expr.ExprNode.{ExprNode}
use Rattle.c_tree.specs.declared.expr.ExprNode.TheVariants as node
use Rattle.c_tree.specs.declared.def.Def.{Def}
use Rattle.c_expr_types.specs.declared.found.Found.{Found}
use Rattle.c_expr_types.specs.declared.found.Found.TheVariants.{Place, Value, Zero}
use Rattle.c_expr_types.specs.declared.found.Part.{Part}
use Rattle.c_definitions.specs.Lookup.{Names}
use Rattle.c_expr_types.specs.Found.{after, converts, has_value, is_comparable, is_evaluated, is_handle, is_integer, is_scalar, is_value, kind_in, place_required, required, type_of, value_of_type}
use Rattle.c_expr_types.specs.Found as found
use Rattle.c_expr_types.specs.Expressions.{fits, is_assigned, is_condition, is_equality, is_operand, is_unary_operand, meeting, number_type, own, part, parts, unknown_tag, where_met}
use Rattle.run_types.specs.Skeleton as kind
use Rattle.c_semantics.specs.Texts.{int}
use Rattle.c_semantics.specs.Resolved.{Expression, Expressions, NoExpressions, ExpressionThen}
use Rattle.c_semantics.specs.Resolved as made
use Rattle.c_semantics.specs.Resolution.{Resolved, assignment, binary, choice, common_type, field, handed, int_value, located, passed, resolved, resolved_all, side, step, tag_of, update, value, variable}
use Rattle.c_semantics.specs.Resolution as resolution
use Rattle.c_semantics.specs.Points.{of_expression, of_parts, reads, writes}
use Rattle.typed_uses.proofs.Points.{Each, together}
use Rattle.typed_uses.proofs.Faultless.{Clean, built, is_place, meets, none_after, none_before, after_none}
use Rattle.typed_uses.proofs.SoundTexts.{known}
use Rattle.typed_uses.proofs.Lookups.{Named}
use Rattle.typed_uses.proofs.Definitions.{HasType}
use Rattle.typed_uses.proofs.Agreement.{Good, TypeFits, comparable_is, kinds_agree, meeting_type, value_good, value_is}

-- a part without faults is good
abbrev pub Fits : List Def → Part → Resolved → Type 0
Fits text p r = Clean p.found → Good text p.found r

-- what is required holds of a part that is good
pub record Meets (text : List Def) (test : Bool) (p : Part) (r : Resolved) : Type 0 where
  pub holds : test ≡ true
  pub good : Good text p.found r

pub part_meets : (text : List Def) (holds : Bool) (p : Part) (r : Resolved) → Fits text p r → required holds p ≡ [] → Meets text holds p r
part_meets text holds p r f e = let m = meets holds p e in record { holds = m.0; good = f m.1 }

-- a part that is a place, as required
pub record Placed (text : List Def) (holds : Bool) (p : Part) (r : Resolved) : Type 0 where
  pub type : CType
  pub is : p.found ≡ Place type
  pub good : Good text (Place type) r

pub placed : (text : List Def) (holds : Bool) (p : Part) (r : Resolved) → Fits text p r → place_required holds p ≡ [] → Placed text holds p r
placed text holds p r f e =
    let m = is_place holds p e in
    record { type = m.0; is = m.1; good = subst (λ x. Good text x r) m.1 (f (subst Clean (sym m.1) refl)) }

-- what an expression is by its parts
pub good_by : (names : Names) (at : ℕ) (n : ExprNode Part) (r : Resolved) →
    (parts names n ≡ [] → Clean (own names at n) → Good names.text (own names at n) r) → Fits names.text (part names at n) r
good_by names at n r f clean =
    let b = built names at n clean in subst (λ x. Good names.text x r) (sym b.is) (f b.none b.clean)

-- one list of points and another
pub joined : (text : List Def) (ks ls : List kind.PointKind) → Each (Named text) ks → Each (Named text) ls → Each (Named text) (ks ++ ls)
joined text ks ls a b = together (Named text) ks ls a b

-- numbers
number_fits : (text : List Def) (n : Int) → TypeFits text (number_type n) (bare.Integer (kind_of n))
number_fits text n = by (is_zero (value_of n))
  where
    by : (b : Bool) → TypeFits text (if b then Zero (kind_of n) else Value (Integer (kind_of n))) (bare.Integer (kind_of n))
    by true = refl
    by false = record { is = refl; known = refl }

pub number : (names : Names) (at : ℕ) (n : Int) →
    Fits names.text (part names at (node.Number n)) (value (made.Constant n) (bare.Integer (kind_of n)))
number names at n = good_by names at (node.Number n) _ (λ p o. value_good names.text _ _ _ (number_fits names.text n) tt)

pub character : (names : Names) (at : ℕ) (n : Int) →
    Fits names.text (part names at (node.Character n)) (value (made.Constant n) (bare.Integer (kind_of n)))
character names at n =
    good_by names at (node.Character n) _ (λ p o. value_good names.text _ _ _ (record { is = refl; known = refl }) tt)

pub null : (names : Names) (at : ℕ) → Fits names.text (part names at node.Null) (value (made.Constant int_value) int)
null names at = good_by names at node.Null _ (λ p o. value_good names.text _ _ _ refl tt)

pub an_int : (text : List Def) → HasType text int found.int
an_int text = record { is = refl; known = refl }

pub constant : (names : Names) (at : ℕ) (n : ExprNode Part) (c : Int) → own names at n ≡ Value found.int →
    Fits names.text (part names at n) (value (made.Constant c) int)
constant names at n c is =
    good_by names at n _ (λ p o. subst (λ x. Good names.text x (value (made.Constant c) int)) (sym is)
    (value_good names.text (Value found.int) _ _ (an_int names.text) tt))

-- operators
pub unary : (names : Names) (at : ℕ) (op : UnOp) (a : Part) (x : Resolved) → Fits names.text a x →
    Fits names.text (part names at (node.Unary op a)) (value (made.Unary op x.tree) (bare.Integer (unary_kind op (resolution.kind x.type))))
unary names at op a x f =
    good_by names at (node.Unary op a) _ (λ p o.
    let m = part_meets names.text (is_unary_operand op a.found) a x f p in
    let is = kinds_agree names.text a.found x.type (operand (is_not op) m.holds) m.good.type in
    value_good names.text _ _ _ (record { is = ap (λ k. bare.Integer (unary_kind op k)) is; known = refl }) m.good.tree)
  where
    operand : (b : Bool) → (if b then is_condition a.found else has_value is_integer a.found) ≡ true → is_value a.found ≡ true
    operand true e = value_is is_scalar a.found e
    operand false e = value_is is_integer a.found e

step_good : (text : List Def) (op : StepOp) (t : CType) (x : Resolved) → Good text (Place t) x → Good text (Value t) (step op x)
step_good text PreIncrement t x g =
    value_good text _ _ _ g.type
    (joined text (of_parts x.place ++ reads x.place ++ []) (writes x.place)
    (joined text (of_parts x.place ++ reads x.place) [] (joined text (of_parts x.place) (reads x.place) g.parts g.reads) tt) g.writes)
step_good text PreDecrement t x g =
    value_good text _ _ _ g.type
    (joined text (of_parts x.place ++ reads x.place ++ []) (writes x.place)
    (joined text (of_parts x.place ++ reads x.place) [] (joined text (of_parts x.place) (reads x.place) g.parts g.reads) tt) g.writes)
step_good text PostIncrement t x g =
    value_good text _ _ _ g.type
    (joined text (of_parts x.place ++ reads x.place) (writes x.place) (joined text (of_parts x.place) (reads x.place) g.parts g.reads) g.writes)
step_good text PostDecrement t x g =
    value_good text _ _ _ g.type
    (joined text (of_parts x.place ++ reads x.place) (writes x.place) (joined text (of_parts x.place) (reads x.place) g.parts g.reads) g.writes)

pub stepped : (names : Names) (at : ℕ) (op : StepOp) (a : Part) (x : Resolved) → Fits names.text a x →
    Fits names.text (part names at (node.Step op a)) (step op x)
stepped names at op a x f =
    good_by names at (node.Step op a) _ (λ p o.
    let m = placed names.text (has_value is_integer a.found) a x f p in
    subst (λ y. Good names.text (value_of_type (type_of y)) (step op x)) (sym m.is) (step_good names.text op m.type x m.good))

pub cast : (names : Names) (at : ℕ) (t : CType) (a : Part) (x : Resolved) → Fits names.text a x →
    Fits names.text (part names at (node.Cast t a)) (value (made.Convert (bare_type t) x.tree) (bare_type t))
cast names at t a x f =
    good_by names at (node.Cast t a) _ (λ p o.
    let m = part_meets names.text (fits names.text t a.found) a x f p in
    let is = after_none (unknown_tag names.text t) (Value t) o in
    subst (λ y. Good names.text y (value (made.Convert (bare_type t) x.tree) (bare_type t))) (sym is.2)
    (value_good names.text (Value t) _ _ (record { is = refl; known = known names.text t is.0 }) m.good.tree))

side_each : (text : List Def) (type : BareType) (e : Expression) → Each (Named text) (of_expression e) → Each (Named text) (of_expression (side type e))
side_each text (bare.Integer k) e each = each
side_each text (bare.Handle tag) e each = each
side_each text bare.Thread e each = each

operand_is : (b : Bool) (f : Found) → (if b then is_comparable f else has_value is_integer f) ≡ true → is_value f ≡ true
operand_is true f e = comparable_is f e
operand_is false f e = value_is is_integer f e

where_good : (text : List Def) (m : Option CType) (at : ℕ) (v : Found) (r : Resolved) → Clean (where_met m at v) → Good text v r →
    Good text (where_met m at v) r
where_good text (Some t) at v r clean g = g
where_good text None at v r clean g = cc

if_good : (text : List Def) (b : Bool) (m : Option CType) (at : ℕ) (v : Found) (r : Resolved) →
    Clean (if b then where_met m at v else v) → Good text v r → Good text (if b then where_met m at v else v) r
if_good text true m at v r clean g = where_good text m at v r clean g
if_good text false m at v r clean g = g

pub two_operands : (names : Names) (at : ℕ) (op : BinOp) (a b : Part) (x y : Resolved) → Fits names.text a x → Fits names.text b y →
    Fits names.text (part names at (node.Binary op a b)) (binary op x y)
two_operands names at op a b x y f g =
    good_by names at (node.Binary op a b) _ (λ p o.
    let m = part_meets names.text (is_operand op a.found) a x f (none_before (required (is_operand op a.found) a) _ p) in
    let n = part_meets names.text (is_operand op b.found) b y g (none_after (required (is_operand op a.found) a) _ p) in
    let i = kinds_agree names.text a.found x.type (operand_is (is_equality op) a.found m.holds) m.good.type in
    let j = kinds_agree names.text b.found y.type (operand_is (is_equality op) b.found n.holds) n.good.type in
    let type = common_type x.type y.type in
    if_good names.text (is_equality op) (meeting a.found b.found) at (Value (Integer (binary_kind op (kind_in a) (kind_in b)))) (binary op x y) o
    (value_good names.text _ _ _
    (record { is = ap bare.Integer (ap (λ k. binary_kind op k (resolution.kind y.type)) i ∙ ap (binary_kind op (kind_in a)) j); known = refl })
    (joined names.text (of_expression (side type x.tree)) (of_expression (side type y.tree)) (side_each names.text type x.tree m.good.tree)
    (side_each names.text type y.tree n.good.tree))))

pub both_conditions : (names : Names) (at : ℕ) (a b : Part) (x y : Resolved) → Fits names.text a x → Fits names.text b y →
    Fits names.text (part names at (node.And a b)) (value (made.And x.tree y.tree) int)
both_conditions names at a b x y f g =
    good_by names at (node.And a b) _ (λ p o.
    let m = part_meets names.text (is_condition a.found) a x f (none_before (required (is_condition a.found) a) _ p) in
    let n = part_meets names.text (is_condition b.found) b y g (none_after (required (is_condition a.found) a) _ p) in
    value_good names.text _ _ _ (an_int names.text) (joined names.text (of_expression x.tree) (of_expression y.tree) m.good.tree n.good.tree))

pub either_condition : (names : Names) (at : ℕ) (a b : Part) (x y : Resolved) → Fits names.text a x → Fits names.text b y →
    Fits names.text (part names at (node.Or a b)) (value (made.Or x.tree y.tree) int)
either_condition names at a b x y f g =
    good_by names at (node.Or a b) _ (λ p o.
    let m = part_meets names.text (is_condition a.found) a x f (none_before (required (is_condition a.found) a) _ p) in
    let n = part_meets names.text (is_condition b.found) b y g (none_after (required (is_condition a.found) a) _ p) in
    value_good names.text _ _ _ (an_int names.text) (joined names.text (of_expression x.tree) (of_expression y.tree) m.good.tree n.good.tree))

met_good : (text : List Def) (at : ℕ) (m : Option CType) (type : BareType) (tree : Expression) → ((t : CType) → m ≡ Some t → HasType text type t) →
    Each (Named text) (of_expression tree) → Clean (where_met m at (value_of_type m)) → Good text (where_met m at (value_of_type m)) (value tree type)
met_good text at (Some t) type tree has each clean = value_good text (Value t) tree type (has t refl) each
met_good text at None type tree has each clean = cc

pub chosen : (names : Names) (at : ℕ) (c a b : Part) (z x y : Resolved) → Fits names.text c z → Fits names.text a x → Fits names.text b y →
    Fits names.text (part names at (node.Choice c a b)) (choice z x y)
chosen names at c a b z x y h f g =
    good_by names at (node.Choice c a b) _ (λ p o.
    let q = none_after (required (is_condition c.found) c) _ p in
    let l = part_meets names.text (is_condition c.found) c z h (none_before (required (is_condition c.found) c) _ p) in
    let m = part_meets names.text (is_comparable a.found) a x f (none_before (required (is_comparable a.found) a) _ q) in
    let n = part_meets names.text (is_comparable b.found) b y g (none_after (required (is_comparable a.found) a) _ q) in
    met_good names.text at (meeting a.found b.found) _ _
    (λ t e. meeting_type names.text a.found b.found x.type y.type t m.holds n.holds m.good.type n.good.type e)
    (joined names.text (of_expression z.tree ++ of_expression x.tree) (of_expression y.tree)
    (joined names.text (of_expression z.tree) (of_expression x.tree) l.good.tree m.good.tree) n.good.tree) o)

assigned_good : (text : List Def) (t : CType) (x y : Resolved) → Good text (Place t) x → Each (Named text) (of_expression y.tree) →
    Good text (Value t) (assignment x y)
assigned_good text t x y g each =
    value_good text _ _ _ g.type
    (joined text (of_parts x.place ++ of_expression y.tree) (writes x.place) (joined text (of_parts x.place) (of_expression y.tree) g.parts each) g.writes)

pub assigned : (names : Names) (at : ℕ) (a b : Part) (x y : Resolved) → Fits names.text a x → Fits names.text b y →
    Fits names.text (part names at (node.Assign a b)) (assignment x y)
assigned names at a b x y f g =
    good_by names at (node.Assign a b) _ (λ p o.
    let m = placed names.text true a x f (none_before (place_required true a) _ p) in
    let n = part_meets names.text (is_assigned a.found b.found) b y g (none_after (place_required true a) _ p) in
    subst (λ z. Good names.text (value_of_type (type_of z)) (assignment x y)) (sym m.is)
    (assigned_good names.text m.type x y m.good n.good.tree))

updated_good : (text : List Def) (op : BinOp) (t : CType) (x y : Resolved) → Good text (Place t) x → Each (Named text) (of_expression y.tree) →
    Good text (Value t) (update op x y)
updated_good text op t x y g each =
    value_good text _ _ _ g.type
    (joined text (of_parts x.place ++ reads x.place ++ of_expression y.tree) (writes x.place)
    (joined text (of_parts x.place ++ reads x.place) (of_expression y.tree) (joined text (of_parts x.place) (reads x.place) g.parts g.reads) each) g.writes)

pub updated : (names : Names) (at : ℕ) (op : BinOp) (a b : Part) (x y : Resolved) → Fits names.text a x → Fits names.text b y →
    Fits names.text (part names at (node.Update op a b)) (update op x y)
updated names at op a b x y f g =
    good_by names at (node.Update op a b) _ (λ p o.
    let m = placed names.text (has_value is_integer a.found) a x f (none_before (place_required (has_value is_integer a.found) a) _ p) in
    let n = part_meets names.text (has_value is_integer b.found) b y g (none_after (place_required (has_value is_integer a.found) a) _ p) in
    subst (λ z. Good names.text (value_of_type (type_of z)) (update op x y)) (sym m.is)
    (updated_good names.text op m.type x y m.good n.good.tree))
