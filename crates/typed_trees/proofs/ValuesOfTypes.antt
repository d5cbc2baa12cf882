-- What operators, conversions and variables give has its type.
use Rattle.std.proofs.Common.{◌≡◌, ℕ, Bool, true, false, IsTrue, cond, List, [], ◌∷◌, ◌++◌, Option, Some, None, Result, Ok, Err, IfOk, find, bytes_eq, slice_get, pos, refl, sym, ap, subst, ◌∙◌}
use Rattle.std.specs.Prelude.{not, option_map, if◌then◌else◌}
use Rattle.std.specs.Option.{is_some, option_map_or, option_or}
use Rattle.std.proofs.lemmas.Slice.Eq.{bytes_eq-Decides}
use Rattle.c_ints.specs.declared.kind.Kind.{Kind}
use Rattle.c_ints.specs.declared.kind.Kind.TheVariants.{I32}
use Rattle.c_ints.specs.declared.int.Int.{Int}
use Rattle.c_ints.specs.declared.operator.ArithTrap.{ArithTrap}
use Rattle.c_ints.specs.declared.operator.BinOp.{BinOp}
use Rattle.c_ints.specs.declared.operator.BinOp.TheVariants.{Add, Sub, Mul, Div, Rem, And, Or, Xor, Shl, Shr, Lt, Gt, Le, Ge, Eq, Ne}
use Rattle.c_ints.specs.declared.operator.UnOp.{UnOp}
use Rattle.c_ints.specs.declared.operator.UnOp.TheVariants.{Plus, Negate, Complement, Not}
use Rattle.c_ints.specs.Number.{kind_of, reduced, value_of}
use Rattle.c_ints.specs.Arithmetic.{binary_kind, binary_value, truth, unary_kind, unary_value}
use Rattle.c_ints.proofs.KindOf.{binary_kind_is, unary_kind_is}
use Rattle.c_ints.proofs.Reduction.{kind_of-number}
use Rattle.c_tree.specs.BareExpr.{Bytes, BareType, Integer, Handle, Thread}
use Rattle.c_tree.specs.BareDef.{BareBinding}
use Rattle.c_semantics.specs.Texts.{bound, bound_type, int}
use Rattle.c_semantics.specs.Values.{Value, Number, Reference, Started, as_value, binary_result, converted_to, is_true, same_object, unary_result, zero_of}
use Rattle.c_semantics.specs.Pieces.{Variable, Scopes}
use Rattle.c_semantics.specs.Evaluation as ev
use Rattle.c_semantics.specs.Evaluation.{look_up, stored, with_value}
use Rattle.c_semantics.specs.Resolution.{kind}
use Rattle.typed_trees.specs.ValueTypes.{Environment, HasType, ScopeHas, ScopesHave, in_scope}
use Rattle.typed_trees.specs.ExpressionTypes.{AreOperands, Becomes, IsOperand, is_equality}
use Rattle.typed_trees.specs.StatementTypes.{with_variable}

pub same_bytes : (a b : Bytes) → bytes_eq a b ≡ true → a ≡ b
same_bytes a b e = (bytes_eq-Decides a b).0 e

pub itself : (a : Bytes) → bytes_eq a a ≡ true
itself a = (bytes_eq-Decides a a).1 refl

pub never : false ≡ true → ⊥
never e = cc

-- ---- operators

-- an operator's value has a type, where it has one
abbrev pub ResultHas : List Bytes → BareType → Result Value ArithTrap → Type 0
ResultHas tags t (Ok v) = HasType tags t v
ResultHas tags t (Err trap) = Unit {0}

as_value_has : (tags : List Bytes) (k : Kind) (r : Result Int ArithTrap) → IfOk r (λ z. kind_of z ≡ k) → ResultHas tags (Integer k) (as_value r)
as_value_has tags k (Ok n) h = h
as_value_has tags k (Err trap) h = tt

an_int : (tags : List Bytes) (b : Bool) → HasType tags (Integer I32) (Number (truth b))
an_int tags true = refl
an_int tags false = refl

pub unary_has : (tags : List Bytes) (op : UnOp) (t : BareType) (v : Value) → IsOperand op t → HasType tags t v
    → ResultHas tags (Integer (unary_kind op (kind t))) (unary_result op v)
unary_has tags op (Integer k) (Number n) o h =
    subst (λ k. ResultHas tags (Integer (unary_kind op k)) (as_value (unary_value op n))) h
    (as_value_has tags (unary_kind op (kind_of n)) (unary_value op n) (unary_kind_is op n (unary_value op n) refl))
unary_has tags op (Integer k) (Reference r) o h = absurd h
unary_has tags op (Integer k) (Started r) o h = absurd h
unary_has tags op (Handle tag) (Number n) o h = absurd h
unary_has tags Plus (Handle tag) (Reference r) o h = absurd o
unary_has tags Negate (Handle tag) (Reference r) o h = absurd o
unary_has tags Complement (Handle tag) (Reference r) o h = absurd o
unary_has tags Not (Handle tag) (Reference r) o h = an_int tags (not (is_true (Reference r)))
unary_has tags op (Handle tag) (Started r) o h = absurd h
unary_has tags Plus Thread v o h = absurd o
unary_has tags Negate Thread v o h = absurd o
unary_has tags Complement Thread v o h = absurd o
unary_has tags Not Thread v o h = absurd o

handles_compared : (tags : List Bytes) (op : BinOp) (a b : Option ℕ) → IsTrue (is_equality op)
    → ResultHas tags (Integer (binary_kind op I32 I32)) (binary_result op (Reference a) (Reference b))
handles_compared tags Add a b e = absurd (never e)
handles_compared tags Sub a b e = absurd (never e)
handles_compared tags Mul a b e = absurd (never e)
handles_compared tags Div a b e = absurd (never e)
handles_compared tags Rem a b e = absurd (never e)
handles_compared tags And a b e = absurd (never e)
handles_compared tags Or a b e = absurd (never e)
handles_compared tags Xor a b e = absurd (never e)
handles_compared tags Shl a b e = absurd (never e)
handles_compared tags Shr a b e = absurd (never e)
handles_compared tags Lt a b e = absurd (never e)
handles_compared tags Gt a b e = absurd (never e)
handles_compared tags Le a b e = absurd (never e)
handles_compared tags Ge a b e = absurd (never e)
handles_compared tags Eq a b e = an_int tags (same_object a b)
handles_compared tags Ne a b e = an_int tags (not (same_object a b))

pub binary_has : (tags : List Bytes) (op : BinOp) (t u : BareType) (a b : Value) → AreOperands op t u → HasType tags t a → HasType tags u b
    → ResultHas tags (Integer (binary_kind op (kind t) (kind u))) (binary_result op a b)
binary_has tags op (Integer j) (Integer k) (Number m) (Number n) o g h =
    subst (λ j. ResultHas tags (Integer (binary_kind op j k)) (as_value (binary_value op m n))) g
    (subst (λ k. ResultHas tags (Integer (binary_kind op (kind_of m) k)) (as_value (binary_value op m n))) h
    (as_value_has tags (binary_kind op (kind_of m) (kind_of n)) (binary_value op m n) (binary_kind_is op m n (binary_value op m n) refl)))
binary_has tags op (Integer j) (Integer k) (Number m) (Reference r) o g h = absurd h
binary_has tags op (Integer j) (Integer k) (Number m) (Started r) o g h = absurd h
binary_has tags op (Integer j) (Integer k) (Reference r) b o g h = absurd g
binary_has tags op (Integer j) (Integer k) (Started r) b o g h = absurd g
binary_has tags op (Handle s) (Handle t) (Reference a) (Reference b) o g h = handles_compared tags op a b o.0
binary_has tags op (Handle s) (Handle t) (Reference a) (Number n) o g h = absurd h
binary_has tags op (Handle s) (Handle t) (Reference a) (Started r) o g h = absurd h
binary_has tags op (Handle s) (Handle t) (Number n) b o g h = absurd g
binary_has tags op (Handle s) (Handle t) (Started r) b o g h = absurd g
binary_has tags op (Integer j) (Handle t) a b o g h = absurd o
binary_has tags op (Integer j) Thread a b o g h = absurd o
binary_has tags op (Handle s) (Integer k) a b o g h = absurd o
binary_has tags op (Handle s) Thread a b o g h = absurd o
binary_has tags op Thread u a b o g h = absurd o

-- ---- conversions and zeros

pub zero_has : (tags : List Bytes) (t : BareType) → HasType tags t (zero_of t)
zero_has tags (Integer k) = kind_of-number k (pos 0)
zero_has tags (Handle tag) = tt
zero_has tags Thread = tt

pub converted_has : (tags : List Bytes) (to t : BareType) (v : Value) → Becomes to t → HasType tags t v → HasType tags to (converted_to to v)
converted_has tags (Integer k) (Integer j) (Number n) o h = kind_of-number k (reduced k (value_of n))
converted_has tags (Integer k) (Integer j) (Reference r) o h = absurd h
converted_has tags (Integer k) (Integer j) (Started r) o h = absurd h
converted_has tags (Integer k) (Handle t) v o h = absurd o
converted_has tags (Integer k) Thread v o h = absurd o
converted_has tags (Handle a) (Integer j) v o h = absurd o
converted_has tags (Handle a) (Handle b) (Number n) o h = absurd h
converted_has tags (Handle a) (Handle b) (Reference None) o h = tt
converted_has tags (Handle a) (Handle b) (Reference (Some n)) o h = subst (λ t. slice_get tags n ≡ Some t) o h
converted_has tags (Handle a) (Handle b) (Started r) o h = absurd h
converted_has tags (Handle a) Thread v o h = absurd o
converted_has tags Thread (Integer j) v o h = absurd o
converted_has tags Thread (Handle b) v o h = absurd o
converted_has tags Thread Thread (Number n) o h = absurd h
converted_has tags Thread Thread (Reference r) o h = absurd h
converted_has tags Thread Thread (Started r) o h = tt

-- what needs no object is there whatever the objects are
pub without_objects : (tags : List Bytes) (t : BareType) (v : Value) → HasType [] t v → HasType tags t v
without_objects tags (Integer k) (Number n) h = h
without_objects tags (Integer k) (Reference r) h = absurd h
without_objects tags (Integer k) (Started r) h = absurd h
without_objects tags (Handle a) (Number n) h = absurd h
without_objects tags (Handle a) (Reference None) h = tt
without_objects tags (Handle a) (Reference (Some n)) h = absurd (none n h)
  where
    none : (n : ℕ) → HasType [] (Handle a) (Reference (Some n)) → ⊥
    none n e = cc
without_objects tags (Handle a) (Started r) h = absurd h
without_objects tags Thread (Number n) h = absurd h
without_objects tags Thread (Reference r) h = absurd h
without_objects tags Thread (Started r) h = tt

-- ---- variables

-- a name in a scope: a variable of its declared type, or it is in neither
abbrev Meets : List Bytes → List BareBinding → List BareBinding → Bytes → Option Value → Type 0
Meets tags bs rest name (Some v) = (b : BareBinding) × (bound (bs ++ rest) name ≡ Some b) × HasType tags b.declared v
Meets tags bs rest name None = bound (bs ++ rest) name ≡ bound rest name

scope_meets : (tags : List Bytes) (bs rest : List BareBinding) (vs : List Variable) (name : Bytes) → ScopeHas tags bs vs
    → Meets tags bs rest name (ev.in_scope vs name)
scope_meets tags [] rest [] name h = refl
scope_meets tags [] rest (v ∷ vs) name h = absurd h
scope_meets tags (b ∷ bs) rest [] name h = absurd h
scope_meets tags (b ∷ bs) rest (v ∷ vs) name h =
    subst (λ n. Meets tags (b ∷ bs) rest name (option_map (λ w. w.value) (cond (bytes_eq name n) (Some v) (find (λ w. bytes_eq name w.name) vs))))
    (sym h.0) (by (bytes_eq name b.name) refl (ev.in_scope vs name) refl (scope_meets tags bs rest vs name h.2))
  where
    later : (o : Option Value) → bytes_eq name b.name ≡ false → Meets tags bs rest name o → Meets tags (b ∷ bs) rest name o
    later None e m = ap (λ x. cond x (Some b) (bound (bs ++ rest) name)) e ∙ m
    later (Some w) e m = (m.0, ap (λ x. cond x (Some b) (bound (bs ++ rest) name)) e ∙ m.1, m.2)

    by : (x : Bool) → bytes_eq name b.name ≡ x → (o : Option Value) → ev.in_scope vs name ≡ o → Meets tags bs rest name (ev.in_scope vs name)
        → Meets tags (b ∷ bs) rest name (option_map (λ w. w.value) (cond x (Some v) (find (λ w. bytes_eq name w.name) vs)))
    by true e o is m = (b, ap (λ x. cond x (Some b) (bound (bs ++ rest) name)) e, h.1)
    by false e o is m = later (ev.in_scope vs name) e m

-- a variable that is declared is there, with a value of its type
pub record Holds (tags : List Bytes) (env : Environment) (scopes : Scopes) (name : Bytes) : Type 0 where
  pub value : Value
  pub there : look_up scopes name ≡ Some value
  pub has : HasType tags (bound_type (in_scope env) name) value

pub variable_holds : (tags : List Bytes) (env : Environment) (scopes : Scopes) (name : Bytes) → ScopesHave tags env scopes
    → IsTrue (is_some (bound (in_scope env) name)) → Holds tags env scopes name
variable_holds tags [] scopes name h e = absurd (never e)
variable_holds tags (bs ∷ env) [] name h e = absurd h
variable_holds tags (bs ∷ env) (vs ∷ scopes) name h e =
    by (ev.in_scope vs name) refl (scope_meets tags bs (in_scope env) vs name h.0) (variable_holds tags env scopes name h.1)
  where
    by : (o : Option Value) → ev.in_scope vs name ≡ o → Meets tags bs (in_scope env) name o
        → (IsTrue (is_some (bound (in_scope env) name)) → Holds tags env scopes name) → Holds tags (bs ∷ env) (vs ∷ scopes) name
    by (Some v) is m outer = record {
      value = v;
      there = ap (λ o. option_or o (look_up scopes name)) is;
      has = subst (λ o. HasType tags (option_map_or (λ b. b.declared) o int) v) (sym m.1) m.2;
    }
    by None is m outer =
        let w = outer (subst (λ o. IsTrue (is_some o)) m e) in
        record {
          value = w.value;
          there = ap (λ o. option_or o (look_up scopes name)) is ∙ w.there;
          has = subst (λ o. HasType tags (option_map_or (λ b. b.declared) o int) w.value) (sym m) w.has;
        }

with_value_has : (tags : List Bytes) (bs rest : List BareBinding) (vs : List Variable) (name : Bytes) (value : Value)
    → ((b : BareBinding) → bound (bs ++ rest) name ≡ Some b → HasType tags b.declared value)
    → ScopeHas tags bs vs → ScopeHas tags bs (with_value name value vs)
with_value_has tags [] rest [] name value t h = tt
with_value_has tags [] rest (v ∷ vs) name value t h = absurd h
with_value_has tags (b ∷ bs) rest [] name value t h = absurd h
with_value_has tags (b ∷ bs) rest (v ∷ vs) name value t h =
    by (bytes_eq name v.name) (ap (bytes_eq name) h.0) (with_value_has tags bs rest vs name value)
  where
    by : (x : Bool) → bytes_eq name v.name ≡ bytes_eq name b.name
        → (((c : BareBinding) → bound (bs ++ rest) name ≡ Some c → HasType tags c.declared value) → ScopeHas tags bs vs → ScopeHas tags bs (with_value name value vs))
        → ScopeHas tags (b ∷ bs) (if bytes_eq name v.name then record v { value = value } ∷ vs else v ∷ with_value name value vs)
    by x same more = test (bytes_eq name v.name) same
      where
        test : (y : Bool) → y ≡ bytes_eq name b.name
            → ScopeHas tags (b ∷ bs) (if y then record v { value = value } ∷ vs else v ∷ with_value name value vs)
        test true e = (h.0, t b (ap (λ x. cond x (Some b) (bound (bs ++ rest) name)) (sym e)), h.2)
        test false e = (h.0, h.1, more (λ c is. t c (ap (λ x. cond x (Some b) (bound (bs ++ rest) name)) (sym e) ∙ is)) h.2)

-- a variable that is written
pub stored_has : (tags : List Bytes) (env : Environment) (scopes : Scopes) (name : Bytes) (value : Value)
    → ((b : BareBinding) → bound (in_scope env) name ≡ Some b → HasType tags b.declared value)
    → ScopesHave tags env scopes → ScopesHave tags env (stored name value scopes)
stored_has tags [] [] name value t h = tt
stored_has tags [] (vs ∷ scopes) name value t h = absurd h
stored_has tags (bs ∷ env) [] name value t h = absurd h
stored_has tags (bs ∷ env) (vs ∷ scopes) name value t h =
    by (ev.in_scope vs name) (scope_meets tags bs (in_scope env) vs name h.0) (stored_has tags env scopes name value)
  where
    by : (o : Option Value) → Meets tags bs (in_scope env) name o
        → (((b : BareBinding) → bound (in_scope env) name ≡ Some b → HasType tags b.declared value) → ScopesHave tags env scopes
        → ScopesHave tags env (stored name value scopes))
        → ScopesHave tags (bs ∷ env) (if is_some o then with_value name value vs ∷ scopes else vs ∷ stored name value scopes)
    by (Some w) m more = (with_value_has tags bs (in_scope env) vs name value t h.0, h.1)
    by None m more = (h.0, more (λ b is. t b (m ∙ is)) h.1)

-- a variable that is declared
pub declared_has : (tags : List Bytes) (env : Environment) (scopes : Scopes) (type : BareType) (name : Bytes) (value : Value)
    → HasType tags type value → ScopesHave tags env scopes
    → ScopesHave tags (with_variable type name env) (ev.declared name value scopes)
declared_has tags [] [] type name value t h = ((refl, t, tt), tt)
declared_has tags [] (vs ∷ scopes) type name value t h = absurd h
declared_has tags (bs ∷ env) [] type name value t h = absurd h
declared_has tags (bs ∷ env) (vs ∷ scopes) type name value t h = ((refl, t, h.0), h.1)

-- and its type
pub newest : (env : Environment) (type : BareType) (name : Bytes)
    → bound (in_scope (with_variable type name env)) name ≡ Some (record { declared = type; name = name })
newest [] type name = ap (λ x. cond x (Some (record { declared = type; name = name })) None) (itself name)
newest (bs ∷ env) type name =
    ap (λ x. cond x (Some (record { declared = type; name = name })) (bound (bs ++ in_scope env) name)) (itself name)
