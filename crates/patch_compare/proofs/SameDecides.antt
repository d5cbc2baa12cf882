-- The tests of two definitions say equality, where both are of functions of one name.
use Rattle.std.proofs.Common.{◌≡◌, Bool, true, false, true≢false, ◌&&◌, List, [], ◌∷◌, Option, Some, None, refl, ap, subst, ◌↔◌, IsTrue, bytes_eq}
use Rattle.std.specs.Bool.{Decides, one_answer}
use Rattle.std.proofs.lemmas.Bool.Decides.{Decides-and}
use Rattle.std.proofs.lemmas.Slice.Eq.{bytes_eq-Decides}
use Rattle.c_ints.specs.declared.kind.Kind.{Kind}
use Rattle.c_ints.specs.declared.kind.Kind.TheVariants.{I8, U8, I16, U16, I32, U32, I64, U64}
use Rattle.c_tree.specs.BareExpr.{Bytes, BareType, Integer, Handle, Thread}
use Rattle.c_tree.specs.BareStmt.{BareStmts}
use Rattle.c_tree.specs.BareDef.{BareBinding, BareDef, Struct, Forward, Mutex, Function, Prototype, Global, Array, TransformStruct, TransformGlobal}
use Rattle.c_tree.specs.Bare.{bare_kind}
use Rattle.c_tree.specs.declared.def.Function.{Function as FunctionTree}
use Rattle.c_tree.specs.declared.def.DefKind.{DefKind}
use Rattle.c_tree.specs.declared.def.DefKind.TheVariants as kind
use Rattle.c_semantics.specs.Changes.{same_definition, same_interface}
use Rattle.c_semantics.specs.Texts.{defined}
use Rattle.c_semantics.specs.Same.{same_kind, same_type, same_binding, same_list, same_option, same_stmts}
use Rattle.source_model.specs.ChangeLaws.{SameDecides}

no : false ≡ true → ⊥
no e = cc

-- a test that says equality, from its two halves
deciding : {A : Type 0} (same : A → A → Bool) → ((a b : A) → same a b ≡ true → a ≡ b) → ((a : A) → same a a ≡ true)
    → (a b : A) → Decides (same a b) (a ≡ b)
deciding same sound alike a b = (sound a b, λ e. subst (λ c. same a c ≡ true) e (alike a))

kinds : (k l : Kind) → same_kind k l ≡ true → k ≡ l
kinds I8 I8 h = refl
kinds U8 U8 h = refl
kinds I16 I16 h = refl
kinds U16 U16 h = refl
kinds I32 I32 h = refl
kinds U32 U32 h = refl
kinds I64 I64 h = refl
kinds U64 U64 h = refl
kinds _ _ h = absurd (no h)

kind_alike : (k : Kind) → same_kind k k ≡ true
kind_alike I8 = refl
kind_alike U8 = refl
kind_alike I16 = refl
kind_alike U16 = refl
kind_alike I32 = refl
kind_alike U32 = refl
kind_alike I64 = refl
kind_alike U64 = refl

types : (t u : BareType) → same_type t u ≡ true → t ≡ u
types (Integer k) (Integer l) h = ap Integer (kinds k l h)
types (Handle a) (Handle b) h = ap Handle ((bytes_eq-Decides a b).0 h)
types Thread Thread h = refl
types _ _ h = absurd (no h)

type_alike : (t : BareType) → same_type t t ≡ true
type_alike (Integer k) = kind_alike k
type_alike (Handle a) = (bytes_eq-Decides a a).1 refl
type_alike Thread = refl

pub types_decide : (t u : BareType) → Decides (same_type t u) (t ≡ u)
types_decide = deciding same_type types type_alike

-- what a test that says equality answers
pub type_answer : (r : Bool) (t u : BareType) → (IsTrue r ↔ (t ≡ u)) → r ≡ same_type t u
type_answer r t u h = one_answer r (same_type t u) h (types_decide t u)

abbrev binding_of : BareType → Bytes → BareBinding
binding_of declared name = record { declared = declared; name = name }

two : {A B C : Type 0} (f : A → B → C) {a b : A} {x y : B} → a ≡ b → x ≡ y → f a x ≡ f b y
two f p q = cc

pub bindings_decide : (b c : BareBinding) → Decides (same_binding b c) (b ≡ c)
bindings_decide b c =
    let both = Decides-and (same_type b.declared c.declared) (bytes_eq b.name c.name) (types_decide b.declared c.declared) (bytes_eq-Decides b.name c.name) in (
      λ h. two binding_of (both.0 h).0 (both.0 h).1,
      λ e. both.1 (ap (λ x. x.declared) e, ap (λ x. x.name) e),
    )

module _ {A : Type 0} (same : A → A → Bool) (each : (a b : A) → Decides (same a b) (a ≡ b)) where
  left_of : (b c : Bool) → (b && c) ≡ true → b ≡ true
  left_of true c h = refl
  left_of false c h = absurd (no h)

  right_of : (b c : Bool) → (b && c) ≡ true → c ≡ true
  right_of true c h = h
  right_of false c h = absurd (no h)

  both_hold : (b c : Bool) → b ≡ true → c ≡ true → (b && c) ≡ true
  both_hold true c h k = k
  both_hold false c h k = absurd (no h)

  lists_sound : (xs ys : List A) → same_list same xs ys ≡ true → xs ≡ ys
  lists_sound [] [] h = refl
  lists_sound [] (y ∷ ys) h = absurd (no h)
  lists_sound (x ∷ xs) [] h = absurd (no h)
  lists_sound (x ∷ xs) (y ∷ ys) h = two (λ x xs. x ∷ xs) ((each x y).0 (left_of _ _ h)) (lists_sound xs ys (right_of (same x y) _ h))

  list_alike : (xs : List A) → same_list same xs xs ≡ true
  list_alike [] = refl
  list_alike (x ∷ xs) = both_hold _ _ ((each x x).1 refl) (list_alike xs)

  pub lists_decide : (xs ys : List A) → Decides (same_list same xs ys) (xs ≡ ys)
  lists_decide = deciding (same_list same) lists_sound list_alike

  options_sound : (x y : Option A) → same_option same x y ≡ true → x ≡ y
  options_sound None None h = refl
  options_sound None (Some y) h = absurd (no h)
  options_sound (Some x) None h = absurd (no h)
  options_sound (Some x) (Some y) h = ap Some ((each x y).0 h)

  option_alike : (x : Option A) → same_option same x x ≡ true
  option_alike None = refl
  option_alike (Some x) = (each x x).1 refl

  pub options_decide : (x y : Option A) → Decides (same_option same x y) (x ≡ y)
  options_decide = deciding (same_option same) options_sound option_alike

abbrev result_of : BareDef → Option BareType
result_of (Function r name ps body) = r
result_of _ = None

abbrev parameters_of : BareDef → List BareBinding
parameters_of (Function r name ps body) = ps
parameters_of _ = []

abbrev body_of : BareStmts → BareDef → BareStmts
body_of other (Function r name ps body) = body
body_of other _ = other

three : {A B C D : Type 0} (f : A → B → C → D) {a b : A} {x y : B} {v w : C} → a ≡ b → x ≡ y → v ≡ w → f a x v ≡ f b y w
three f p q r = cc

-- two functions of one name are the same exactly if they are equal
pub functions_decide : SameDecides → (name : Bytes) (r q : Option BareType) (ps qs : List BareBinding) (body code : BareStmts)
    → Decides (same_definition (Function r name ps body) (Function q name qs code)) (Function r name ps body ≡ Function q name qs code)
functions_decide bodies name r q ps qs body code =
    let results = options_decide same_type types_decide r q in
    let lists = lists_decide same_binding bindings_decide ps qs in
    let heads = Decides-and (same_option same_type r q) (same_list same_binding ps qs) results lists in
    let all = Decides-and (same_option same_type r q && same_list same_binding ps qs) (same_stmts body code) heads (bodies body code) in (
      λ h. three (λ r ps body. Function r name ps body) (all.0 h).0.0 (all.0 h).0.1 (all.0 h).1,
      λ e. all.1 ((ap result_of e, ap parameters_of e), ap (body_of body) e),
    )

abbrev is_function : BareDef → Bool
is_function (Function r name ps body) = true
is_function _ = false

-- a function and another definition of its name
pub named_alike_decide : SameDecides → (name own : Bytes) (r : Option BareType) (ps : List BareBinding) (body : BareStmts) (b : BareDef)
    → Some own ≡ Some name → defined b ≡ Some name → Decides (same_definition (Function r own ps body) b) (Function r own ps body ≡ b)
named_alike_decide bodies name own r ps body (Function q other qs code) e f =
    subst (λ n. Decides (same_definition (Function r own ps body) (Function q n qs code)) (Function r own ps body ≡ Function q n qs code))
    (one e f) (functions_decide bodies own r q ps qs body code)
  where
    one : Some own ≡ Some name → Some other ≡ Some name → own ≡ other
    one e f = cc
named_alike_decide bodies name own r ps body (Struct tag ms) e f = (λ h. absurd (no h), λ h. absurd (true≢false (ap is_function h)))
named_alike_decide bodies name own r ps body (Forward tag) e f = (λ h. absurd (no h), λ h. absurd (true≢false (ap is_function h)))
named_alike_decide bodies name own r ps body (Mutex m) e f = (λ h. absurd (no h), λ h. absurd (true≢false (ap is_function h)))
named_alike_decide bodies name own r ps body (Prototype q other qs) e f = (λ h. absurd (no h), λ h. absurd (true≢false (ap is_function h)))
named_alike_decide bodies name own r ps body (Global d) e f = (λ h. absurd (no h), λ h. absurd (true≢false (ap is_function h)))
named_alike_decide bodies name own r ps body (Array t a n v) e f = (λ h. absurd (no h), λ h. absurd (true≢false (ap is_function h)))
named_alike_decide bodies name own r ps body (TransformStruct t v) e f = (λ h. absurd (no h), λ h. absurd (true≢false (ap is_function h)))
named_alike_decide bodies name own r ps body (TransformGlobal g x) e f = (λ h. absurd (no h), λ h. absurd (true≢false (ap is_function h)))

-- of a definition that is no function's the interface is compared
pub interface_alone : (k : DefKind) (b : BareDef) → ((f : FunctionTree) → k ≡ kind.Function f → ⊥)
    → same_interface (bare_kind k) b ≡ same_definition (bare_kind k) b
interface_alone (kind.Function f) b other = absurd (other f refl)
interface_alone (kind.Struct tag ms) b other = refl
interface_alone (kind.Forward tag) b other = refl
interface_alone (kind.Mutex m) b other = refl
interface_alone (kind.Prototype p) b other = refl
interface_alone (kind.Global d) b other = refl
interface_alone (kind.Array a) b other = refl
interface_alone (kind.TransformStruct t) b other = refl
interface_alone (kind.TransformGlobal g e) b other = refl
