-- Expressions without faults assign to places alone, and call and spawn functions.
use Rattle.std.proofs.Common.{◌≡◌, ℕ, Bool, true, false, List, [], ◌∷◌, map, length, Option, Some, None, is_some, option_map, option_and_then, refl, sym, ap, subst, subst₂, ◌∙◌, if◌then◌else◌}
use Rattle.std.specs.Prelude.{◌==◌}
use Rattle.c_ints.specs.Number.{value_of, kind_of}
use Rattle.c_ints.specs.Arithmetic.{is_zero, binary_kind}
use Rattle.c_ints.specs.declared.int.Int.{Int}
use Rattle.c_ints.specs.declared.operator.BinOp.{BinOp}
use Rattle.c_tree.specs.BareExpr.{Bytes, BareExpr}
use Rattle.c_tree.specs.BareExpr as bare
use Rattle.c_tree.specs.Bare.{bare_arguments, bare_def, bare_expr, bare_kind, bare_node, bare_type}
use Rattle.c_tree.specs.declared.name.CType.{CType}
use Rattle.c_tree.specs.declared.name.CType.TheVariants.{Integer, Handle}
use Rattle.c_tree.specs.declared.expr.Expr.{Expr, Expr-F}
use Rattle.c_tree.specs.declared.expr.Expr.TheFolds.{fold-roll-Expr, ind-Expr, map-Expr}
use Rattle.c_tree.specs.declared.expr.ExprNode.{ExprNode}
use Rattle.c_tree.specs.declared.expr.ExprNode.TheVariants.{Number, Character, Null, Success, Error, Variable, Unary, Step, Cast, Binary, And, Or, Choice, Assign, Update, Call, Element, Arrow, Dot, Print, Calloc, Free, Create, Join, JoinInto, InitMutex, Lock, Unlock}
use Rattle.c_tree.specs.declared.def.Def.{Def}
use Rattle.c_tree.specs.declared.def.DefKind.{DefKind}
use Rattle.c_tree.specs.declared.def.DefKind.TheVariants as kind
use Rattle.c_expr_types.specs.declared.fault.Fault.{Fault}
use Rattle.c_expr_types.specs.declared.fault.TypeKind.TheVariants.{WrongType, WrongCount, UnknownName, BadFormat}
use Rattle.c_expr_types.specs.declared.found.Found.{Found}
use Rattle.c_expr_types.specs.declared.found.Found.TheVariants.{Place, Value, Zero, Nothing}
use Rattle.c_expr_types.specs.declared.found.Part.{Part}
use Rattle.c_expr_types.specs.Faults.{first}
use Rattle.c_expr_types.specs.Found.{faults_of, has_value, is_handle, is_integer, kind_in, wrong, int, is_comparable, type_of, is_evaluated, place_required, required, unless_wrong, value_of_type}
use Rattle.c_expr_types.specs.Formats.{fits_format}
use Rattle.c_definitions.specs.Lookup.{Meaning, Names, defined, definition_of, hidden_by, is_tag, meaning_in, meaning_of}
use Rattle.c_definitions.specs.Lookup.Meaning.{AVariable, AnArray, AFunction, AMutex}
use Rattle.c_scope.specs.Tables.{innermost}
use Rattle.c_expr_types.specs.Expressions.{binary, call_type, is_condition, is_operand, is_unary_operand, is_assigned, is_thread, is_int, is_thread_argument, fits, infer, is_equality, meeting, mutex_call_type, number_type, own, part, parts, print_faults, spawn_type, thread_parameter, unknown_tag, where_met}
use Rattle.typed_uses.proofs.Faultless.{Clean, built, is_place, meets, none_after, none_before}
use Rattle.typed_uses.proofs.SoundTexts.{Facts}
use Rattle.typed_uses.proofs.Lookups.{found_as, look}
use Rattle.typed_uses.proofs.NamedNodes.{Cleans, arguments_clean}
use Rattle.frame_bodies.specs.AcceptedTexts.{is_function}
use Rattle.frame_bodies.proofs.Sound.{IsPlace, Sound, AllSound}

-- the text defines the name as a function
abbrev pub Called : List Def → Bytes → Type 0
Called text name = is_function (look text name) ≡ true

-- ---- names of functions

pub function_of : (text : List Def) (name : Bytes) (r : Option CType) (ts : List CType) → Facts text
    → defined text name ≡ Some (AFunction r ts) → Called text name
function_of text name r ts facts e =
    subst (λ o. is_function o ≡ true) (sym (found_as text name (AFunction r ts) facts e)) (by (definition_of text name) e)
  where
    of_kind : (k : DefKind) → meaning_in k ≡ Some (AFunction r ts) → is_function (Some (bare_kind k)) ≡ true
    of_kind (kind.Struct tag members) e = cc
    of_kind (kind.Forward tag) e = cc
    of_kind (kind.Mutex name) e = cc
    of_kind (kind.Function f) e = refl
    of_kind (kind.Prototype p) e = cc
    of_kind (kind.Global d) e = cc
    of_kind (kind.Array a) e = cc
    of_kind (kind.TransformStruct t) e = cc
    of_kind (kind.TransformGlobal name v) e = cc

    by : (o : Option Def) → option_and_then (λ d. meaning_in d.kind) o ≡ Some (AFunction r ts) → is_function (option_map bare_def o) ≡ true
    by None e = cc
    by (Some d) e = of_kind d.kind e

-- a meaning that is a function's
record OfFunction (m : Option Meaning) : Type 0 where
  result : Option CType
  types : List CType
  is : m ≡ Some (AFunction result types)

called_is : (m : Option Meaning) (at count : ℕ) → Clean (call_type m at count) → OfFunction m
called_is None at count clean = cc
called_is (Some (AVariable t)) at count clean = cc
called_is (Some (AnArray t)) at count clean = cc
called_is (Some (AFunction r ts)) at count clean = record { result = r; types = ts; is = refl }
called_is (Some AMutex) at count clean = cc

spawned_is : (m : Option Meaning) (name at : ℕ) → Clean (spawn_type m name at) → OfFunction m
spawned_is None name at clean = cc
spawned_is (Some (AVariable t)) name at clean = cc
spawned_is (Some (AnArray t)) name at clean = cc
spawned_is (Some (AFunction r ts)) name at clean = record { result = r; types = ts; is = refl }
spawned_is (Some AMutex) name at clean = cc

outer : (i : Option CType) (m : Option Meaning) (r : Option CType) (ts : List CType) → hidden_by i m ≡ Some (AFunction r ts)
    → m ≡ Some (AFunction r ts)
outer None m r ts e = e
outer (Some t) m r ts e = cc

function_named : (names : Names) (name : Bytes) → Facts names.text → OfFunction (meaning_of names name) → Called names.text name
function_named names name facts f =
    function_of names.text name f.result f.types facts (outer (innermost names.scopes name) (defined names.text name) f.result f.types f.is)

-- ---- what is found to be a place

abbrev placed : Found → Bool
placed (Place t) = true
placed _ = false

no : false ≡ true → ⊥
no e = cc

number_unplaced : (n : Int) → placed (number_type n) ≡ false
number_unplaced n = by (is_zero (value_of n))
  where
    by : (b : Bool) → placed (if b then Zero (kind_of n) else Value (Integer (kind_of n))) ≡ false
    by true = refl
    by false = refl

of_type_unplaced : (o : Option CType) → placed (value_of_type o) ≡ false
of_type_unplaced None = refl
of_type_unplaced (Some t) = refl

after_unplaced : (o : Option Fault) (t : CType) → placed (unless_wrong o (Value t)) ≡ false
after_unplaced None t = refl
after_unplaced (Some f) t = refl

met_unplaced : (m : Option CType) (at : ℕ) (found : Found) → placed found ≡ false → placed (where_met m at found) ≡ false
met_unplaced None at found e = refl
met_unplaced (Some t) at found e = e

either_unplaced : (b : Bool) (x y : Found) → placed x ≡ false → placed y ≡ false → placed (if b then x else y) ≡ false
either_unplaced true x y h i = h
either_unplaced false x y h i = i

binary_unplaced : (op : BinOp) (at : ℕ) (a b : Part) → placed (binary op at a b) ≡ false
binary_unplaced op at a b =
    let v : Found = Value (Integer (binary_kind op (kind_in a) (kind_in b))) in
    either_unplaced (is_equality op) (where_met (meeting a.found b.found) at v) v (met_unplaced (meeting a.found b.found) at v refl) refl

call_unplaced : (m : Option Meaning) (at count : ℕ) → placed (call_type m at count) ≡ false
call_unplaced None at count = refl
call_unplaced (Some (AVariable t)) at count = refl
call_unplaced (Some (AnArray t)) at count = refl
call_unplaced (Some AMutex) at count = refl
call_unplaced (Some (AFunction r ts)) at count = by (length ts == count)
  where
    by : (b : Bool) → placed (if b then value_of_type r else wrong WrongCount at) ≡ false
    by true = of_type_unplaced r
    by false = refl

spawn_unplaced : (m : Option Meaning) (name at : ℕ) → placed (spawn_type m name at) ≡ false
spawn_unplaced None name at = refl
spawn_unplaced (Some m) name at = either_unplaced (is_some (thread_parameter (Some m))) (Value int) (wrong WrongType at) refl refl

mutex_unplaced : (m : Option Meaning) (name at : ℕ) → placed (mutex_call_type m name at) ≡ false
mutex_unplaced None name at = refl
mutex_unplaced (Some (AVariable t)) name at = refl
mutex_unplaced (Some (AnArray t)) name at = refl
mutex_unplaced (Some (AFunction r ts)) name at = refl
mutex_unplaced (Some AMutex) name at = refl

-- ---- expressions

-- an expression of its parts is sound, and where it is found to be a place, it is one
record Fair (text : List Def) (found : Found) (b : BareExpr) : Type 0 where
  sound : Sound (Called text) b
  place : placed found ≡ true → IsPlace b

abbrev IfClean : List Def → Part → BareExpr → Type 0
IfClean text p b = Clean p.found → Fair text p.found b

by_own : (names : Names) (at : ℕ) (n : ExprNode Part) (b : BareExpr) → (placed (own names at n) ≡ true → IsPlace b)
    → (parts names n ≡ [] → Clean (own names at n) → Sound (Called names.text) b) → IfClean names.text (part names at n) b
by_own names at n b place sound clean =
    let x = built names at n clean in
    record { sound = sound x.none x.clean; place = λ e. place (sym (ap placed x.is) ∙ e) }

unplaced : (names : Names) (at : ℕ) (n : ExprNode Part) (b : BareExpr) → placed (own names at n) ≡ false
    → (parts names n ≡ [] → Clean (own names at n) → Sound (Called names.text) b) → IfClean names.text (part names at n) b
unplaced names at n b none sound = by_own names at n b (λ e. absurd (no (sym none ∙ e))) sound

meets_sound : (text : List Def) (holds : Bool) (p : Part) (b : BareExpr) → IfClean text p b → required holds p ≡ [] → Sound (Called text) b
meets_sound text holds p b f e = (f (meets holds p e).1).sound

record PlaceSound (text : List Def) (b : BareExpr) : Type 0 where
  is : IsPlace b
  sound : Sound (Called text) b

place_sound : (text : List Def) (holds : Bool) (p : Part) (b : BareExpr) → IfClean text p b → place_required holds p ≡ [] → PlaceSound text b
place_sound text holds p b f e =
    let i = is_place holds p e in
    let fair = f (ap faults_of i.1) in
    record { is = fair.place (ap placed i.1); sound = fair.sound }

printed_clean : (ps : List Part) → print_faults ps ≡ [] → Cleans ps
printed_clean [] e = tt
printed_clean (p ∷ ps) e =
    let own : List Fault = required (is_evaluated p.found) p in
    ((meets (is_evaluated p.found) p (none_before own _ e)).1, printed_clean ps (none_after own _ e))

module _ (names : Names) (facts : Facts names.text) where
  abbrev FairExpr : Expr → Type 0
  FairExpr e = IfClean names.text (infer names e) (bare_expr e)

  abbrev FairExprs : List Expr → Type 0
  FairExprs [] = Unit {0}
  FairExprs (e ∷ es) = FairExpr e × FairExprs es

  all_sound : (es : List Expr) → FairExprs es → Cleans (map (infer names) es) → AllSound (Called names.text) (bare_arguments (map bare_expr es))
  all_sound [] fair clean = tt
  all_sound (e ∷ es) fair clean = ((fair.0 clean.0).sound, all_sound es fair.1 clean.1)

  abbrev Proved : Type 0
  Proved = (e : Expr) × FairExpr e

  abbrev found : Proved → Part
  found e = infer names e.0

  abbrev tree : Proved → BareExpr
  tree e = bare_expr e.0

  each : (es : List Proved) → FairExprs (map (λ e. e.0) es)
  each [] = tt
  each (e ∷ es) = (e.1, each es)

  abbrev Layer : Expr-F Expr → Type 0
  Layer x =
      IfClean names.text (part names x.place (map-Expr Expr Part (infer names) x).node) (bare_node (map-Expr Expr BareExpr bare_expr x).node)

  of_node : (place : ℕ) (n : ExprNode Proved) → Layer (map-Expr Proved Expr (λ e. e.0) (record { place = place; node = n }))
  of_node place (Number n) = unplaced names place (Number n) (bare.Number n) (number_unplaced n) (λ p o. tt)
  of_node place (Character n) = unplaced names place (Character n) (bare.Character n) refl (λ p o. tt)
  of_node place Null = unplaced names place Null bare.Null refl (λ p o. tt)
  of_node place Success = unplaced names place Success bare.Success refl (λ p o. tt)
  of_node place Error = unplaced names place Error bare.Error refl (λ p o. tt)
  of_node place (Variable name) = by_own names place (Variable name) (bare.Variable name) (λ e. tt) (λ p o. tt)
  of_node place (Unary op a) =
      unplaced names place (Unary op (found a)) (bare.Unary op (tree a)) refl
      (λ p o. meets_sound names.text (is_unary_operand op (found a).found) (found a) (tree a) a.1 p)
  of_node place (Step op a) =
      unplaced names place (Step op (found a)) (bare.Step op (tree a)) (of_type_unplaced (type_of (found a).found)) (λ p o.
      let s = place_sound names.text (has_value is_integer (found a).found) (found a) (tree a) a.1 p in (s.is, s.sound))
  of_node place (Cast t a) =
      unplaced names place (Cast t (found a)) (bare.Cast (bare_type t) (tree a)) (after_unplaced (first (unknown_tag names.text t)) t)
      (λ p o. meets_sound names.text (fits names.text t (found a).found) (found a) (tree a) a.1 p)
  of_node place (Binary op a b) =
      let left : List Fault = required (is_operand op (found a).found) (found a) in
      unplaced names place (Binary op (found a) (found b)) (bare.Binary op (tree a) (tree b)) (binary_unplaced op place (found a) (found b)) (λ p o. (
        meets_sound names.text (is_operand op (found a).found) (found a) (tree a) a.1 (none_before left _ p),
        meets_sound names.text (is_operand op (found b).found) (found b) (tree b) b.1 (none_after left _ p),
      ))
  of_node place (And a b) =
      let left : List Fault = required (is_condition (found a).found) (found a) in
      unplaced names place (And (found a) (found b)) (bare.And (tree a) (tree b)) refl (λ p o. (
        meets_sound names.text (is_condition (found a).found) (found a) (tree a) a.1 (none_before left _ p),
        meets_sound names.text (is_condition (found b).found) (found b) (tree b) b.1 (none_after left _ p),
      ))
  of_node place (Or a b) =
      let left : List Fault = required (is_condition (found a).found) (found a) in
      unplaced names place (Or (found a) (found b)) (bare.Or (tree a) (tree b)) refl (λ p o. (
        meets_sound names.text (is_condition (found a).found) (found a) (tree a) a.1 (none_before left _ p),
        meets_sound names.text (is_condition (found b).found) (found b) (tree b) b.1 (none_after left _ p),
      ))
  of_node place (Choice c a b) =
      let test : List Fault = required (is_condition (found c).found) (found c) in
      let left : List Fault = required (is_comparable (found a).found) (found a) in
      unplaced names place (Choice (found c) (found a) (found b)) (bare.Choice (tree c) (tree a) (tree b))
      (met_unplaced (meeting (found a).found (found b).found) place _ (of_type_unplaced (meeting (found a).found (found b).found))) (λ p o. (
        meets_sound names.text (is_condition (found c).found) (found c) (tree c) c.1 (none_before test _ p),
        meets_sound names.text (is_comparable (found a).found) (found a) (tree a) a.1 (none_before left _ (none_after test _ p)),
        meets_sound names.text (is_comparable (found b).found) (found b) (tree b) b.1 (none_after left _ (none_after test _ p)),
      ))
  of_node place (Assign a b) =
      let left : List Fault = place_required true (found a) in
      unplaced names place (Assign (found a) (found b)) (bare.Assign (tree a) (tree b)) (of_type_unplaced (type_of (found a).found)) (λ p o.
      let s = place_sound names.text true (found a) (tree a) a.1 (none_before left _ p) in
      (s.is, s.sound, meets_sound names.text (is_assigned (found a).found (found b).found) (found b) (tree b) b.1 (none_after left _ p)))
  of_node place (Update op a b) =
      let left : List Fault = place_required (has_value is_integer (found a).found) (found a) in
      unplaced names place (Update op (found a) (found b)) (bare.Update op (tree a) (tree b)) (of_type_unplaced (type_of (found a).found)) (λ p o.
      let s = place_sound names.text (has_value is_integer (found a).found) (found a) (tree a) a.1 (none_before left _ p) in
      (s.is, s.sound, meets_sound names.text (has_value is_integer (found b).found) (found b) (tree b) b.1 (none_after left _ p)))
  of_node place (Call name es) =
      let given = map (infer names) (map (λ e. e.0) es) in
      unplaced names place (Call name given) (bare.Call name (bare_arguments (map bare_expr (map (λ e. e.0) es))))
      (call_unplaced (meaning_of names name) place (length given)) (λ p o. (
        function_named names name facts (called_is (meaning_of names name) place (length given) o),
        all_sound (map (λ e. e.0) es) (each es) (arguments_clean (meaning_of names name) given p),
      ))
  of_node place (Element name a) =
      by_own names place (Element name (found a)) (bare.Element name (tree a)) (λ e. tt)
      (λ p o. meets_sound names.text (has_value is_integer (found a).found) (found a) (tree a) a.1 p)
  of_node place (Arrow a name) =
      by_own names place (Arrow (found a) name) (bare.Arrow (tree a) name.text) (λ e. tt)
      (λ p o. meets_sound names.text (has_value is_handle (found a).found) (found a) (tree a) a.1 p)
  of_node place (Dot a name) = unplaced names place (Dot (found a) name) (bare.Dot (tree a) name.text) refl (λ p o. tt)
  of_node place (Print at format es) =
      let given = map (infer names) (map (λ e. e.0) es) in
      unplaced names place (Print at format given) (bare.Print format (bare_arguments (map bare_expr (map (λ e. e.0) es))))
      (either_unplaced (fits_format format given) Nothing (wrong BadFormat at) refl refl)
      (λ p o. all_sound (map (λ e. e.0) es) (each es) (printed_clean given p))
  of_node place (Calloc tag) =
      unplaced names place (Calloc tag) (bare.Calloc tag.text)
      (either_unplaced (is_tag names.text tag.text) (Value (Handle tag)) (wrong UnknownName tag.place) refl refl) (λ p o. tt)
  of_node place (Free a) =
      unplaced names place (Free (found a)) (bare.Free (tree a)) refl
      (λ p o. meets_sound names.text (has_value is_handle (found a).found) (found a) (tree a) a.1 p)
  of_node place (Create a name b) =
      let left : List Fault = place_required (has_value is_thread (found a).found) (found a) in
      unplaced names place (Create (found a) name (found b)) (bare.Create (tree a) name.text (tree b))
      (spawn_unplaced (meaning_of names name.text) name.place place) (λ p o.
      let s = place_sound names.text (has_value is_thread (found a).found) (found a) (tree a) a.1 (none_before left _ p) in (
        function_named names name.text facts (spawned_is (meaning_of names name.text) name.place place o),
        s.is,
        s.sound,
        meets_sound names.text (is_thread_argument (thread_parameter (meaning_of names name.text)) (found b).found) (found b) (tree b) b.1
            (none_after left _ p),
      ))
  of_node place (Join a) =
      unplaced names place (Join (found a)) (bare.Join (tree a)) refl
      (λ p o. meets_sound names.text (has_value is_thread (found a).found) (found a) (tree a) a.1 p)
  of_node place (JoinInto a b) =
      let left : List Fault = required (has_value is_thread (found a).found) (found a) in
      unplaced names place (JoinInto (found a) (found b)) (bare.JoinInto (tree a) (tree b)) refl (λ p o.
      let s = place_sound names.text (has_value is_int (found b).found) (found b) (tree b) b.1 (none_after left _ p) in
      (s.is, meets_sound names.text (has_value is_thread (found a).found) (found a) (tree a) a.1 (none_before left _ p), s.sound))
  of_node place (InitMutex name) =
      unplaced names place (InitMutex name) (bare.InitMutex name.text) (mutex_unplaced (meaning_of names name.text) name.place place) (λ p o. tt)
  of_node place (Lock name) =
      unplaced names place (Lock name) (bare.Lock name.text) (mutex_unplaced (meaning_of names name.text) name.place place) (λ p o. tt)
  of_node place (Unlock name) =
      unplaced names place (Unlock name) (bare.Unlock name.text) (mutex_unplaced (meaning_of names name.text) name.place place) (λ p o. tt)

  fair : (e : Expr) → FairExpr e
  fair = ind-Expr FairExpr (λ x y is.
      let layer : Layer x = subst Layer is (of_node y.place y.node) in
      subst₂ (IfClean names.text) (sym (fold-roll-Expr Part (λ e. part names e.place e.node) x))
      (sym (fold-roll-Expr BareExpr (λ e. bare_node e.node) x)) layer)

  -- an expression without faults is sound
  pub expression_sound : (e : Expr) → Clean (infer names e).found → Sound (Called names.text) (bare_expr e)
  expression_sound e clean = (fair e clean).sound
