-- What names mean in a text that types is what its definitions are: variables, arrays, functions and mutexes.
use Rattle.std.proofs.Common.{◌≡◌, ℕ, Bool, true, false, List, [], ◌∷◌, Option, Some, None, is_some, option_map, option_and_then, refl, sym, subst, ◌∙◌, ◌&&◌, if◌then◌else◌}
use Rattle.c_ints.specs.declared.kind.Kind.TheVariants.{I8, U8, I16, U16, I32, U32, I64, U64}
use Rattle.c_tree.specs.BareExpr.{Bytes}
use Rattle.c_tree.specs.BareExpr as bare
use Rattle.c_tree.specs.BareDef.{BareDef}
use Rattle.c_tree.specs.Bare.{bare_def, bare_kind, bare_type}
use Rattle.c_tree.specs.declared.name.CType.{CType}
use Rattle.c_tree.specs.declared.name.CType.TheVariants.{Integer, Handle, Thread}
use Rattle.c_tree.specs.declared.def.Def.{Def}
use Rattle.c_tree.specs.declared.def.DefKind.{DefKind}
use Rattle.c_tree.specs.declared.def.DefKind.TheVariants as kind
use Rattle.c_definitions.specs.Lookup.{Meaning, defined, definition_of, hidden_by, meaning_in}
use Rattle.c_definitions.specs.Lookup.Meaning.{AVariable, AnArray, AFunction, AMutex}
use Rattle.c_expr_types.specs.declared.found.Found.TheVariants.{Value}
use Rattle.c_expr_types.specs.Found.{int as int_type, is_scalar, wrong}
use Rattle.c_expr_types.specs.Expressions.{is_int, is_thread, mutex_call_type, spawn_type, thread_parameter}
use Rattle.c_expr_types.specs.declared.fault.TypeKind.TheVariants.{WrongType}
use Rattle.c_semantics.specs.Texts.{int, result_type}
use Rattle.source_model.specs.Installs.{is_mutex}
use Rattle.typed_uses.proofs.Faultless.{Clean}
use Rattle.typed_uses.proofs.SoundTexts.{Facts}
use Rattle.typed_uses.proofs.Lookups.{found_as, look}
use Rattle.typed_uses.proofs.Definitions.{function_type}
use Rattle.world_laws.proofs.Storing.{is_variable, is_array}

-- what a name is found as, of which a test holds where the text defines it so
found_by : (text : List Def) (name : Bytes) (m : Meaning) (test : Option BareDef → Bool) → Facts text → defined text name ≡ Some m
    → ((k : DefKind) → meaning_in k ≡ Some m → test (Some (bare_kind k)) ≡ true) → test (look text name) ≡ true
found_by text name m test facts e of_kind =
    subst (λ o. test o ≡ true) (sym (found_as text name m facts e)) (by (definition_of text name) e)
  where
    by : (o : Option Def) → option_and_then (λ d. meaning_in d.kind) o ≡ Some m → test (option_map bare_def o) ≡ true
    by None e = cc
    by (Some d) e = of_kind d.kind e

pub variable_found : (text : List Def) (name : Bytes) (t : CType) → Facts text → defined text name ≡ Some (AVariable t)
    → is_variable (look text name) ≡ true
variable_found text name t facts e = found_by text name (AVariable t) is_variable facts e of_kind
  where
    of_kind : (k : DefKind) → meaning_in k ≡ Some (AVariable t) → is_variable (Some (bare_kind k)) ≡ true
    of_kind (kind.Global d) e = refl
    of_kind (kind.Struct tag members) e = cc
    of_kind (kind.Forward tag) e = cc
    of_kind (kind.Mutex name) e = cc
    of_kind (kind.Function f) e = cc
    of_kind (kind.Prototype p) e = cc
    of_kind (kind.Array a) e = cc
    of_kind (kind.TransformStruct x) e = cc
    of_kind (kind.TransformGlobal name v) e = cc

pub array_found : (text : List Def) (name : Bytes) (t : CType) → Facts text → defined text name ≡ Some (AnArray t)
    → is_array (look text name) ≡ true
array_found text name t facts e = found_by text name (AnArray t) is_array facts e of_kind
  where
    of_kind : (k : DefKind) → meaning_in k ≡ Some (AnArray t) → is_array (Some (bare_kind k)) ≡ true
    of_kind (kind.Array a) e = refl
    of_kind (kind.Struct tag members) e = cc
    of_kind (kind.Forward tag) e = cc
    of_kind (kind.Mutex name) e = cc
    of_kind (kind.Function f) e = cc
    of_kind (kind.Prototype p) e = cc
    of_kind (kind.Global d) e = cc
    of_kind (kind.TransformStruct x) e = cc
    of_kind (kind.TransformGlobal name v) e = cc

mutex_found : (text : List Def) (name : Bytes) → Facts text → defined text name ≡ Some AMutex → is_mutex (look text name) ≡ true
mutex_found text name facts e = found_by text name AMutex is_mutex facts e of_kind
  where
    of_kind : (k : DefKind) → meaning_in k ≡ Some AMutex → is_mutex (Some (bare_kind k)) ≡ true
    of_kind (kind.Mutex name) e = refl
    of_kind (kind.Struct tag members) e = cc
    of_kind (kind.Forward tag) e = cc
    of_kind (kind.Function f) e = cc
    of_kind (kind.Prototype p) e = cc
    of_kind (kind.Global d) e = cc
    of_kind (kind.Array a) e = cc
    of_kind (kind.TransformStruct x) e = cc
    of_kind (kind.TransformGlobal name v) e = cc

-- ---- types

pub thread_is : (t : CType) → is_thread t ≡ true → bare_type t ≡ bare.Thread
thread_is Thread e = refl
thread_is (Integer k) e = cc
thread_is (Handle tag) e = cc

pub int_is : (t : CType) → is_int t ≡ true → bare_type t ≡ int
int_is (Integer I32) e = refl
int_is (Integer I8) e = cc
int_is (Integer U8) e = cc
int_is (Integer I16) e = cc
int_is (Integer U16) e = cc
int_is (Integer U32) e = cc
int_is (Integer I64) e = cc
int_is (Integer U64) e = cc
int_is (Handle tag) e = cc
int_is Thread e = cc

-- ---- what is locked is a mutex, and what is spawned returns an int

pub locked_is_mutex : (text : List Def) (name : Bytes) (i : Option CType) (place at : ℕ) → Facts text
    → Clean (mutex_call_type (hidden_by i (defined text name)) place at) → is_mutex (look text name) ≡ true
locked_is_mutex text name i place at facts clean = by i (defined text name) refl clean
  where
    by : (i : Option CType) (m : Option Meaning) → defined text name ≡ m → Clean (mutex_call_type (hidden_by i m) place at)
        → is_mutex (look text name) ≡ true
    by (Some t) m e c = cc
    by None None e c = cc
    by None (Some (AVariable t)) e c = cc
    by None (Some (AnArray t)) e c = cc
    by None (Some (AFunction r ts)) e c = cc
    by None (Some AMutex) e c = mutex_found text name facts e

spawned_by : (text : List Def) (name : Bytes) → Facts text → (m : Option Meaning) → defined text name ≡ m
    → is_some (thread_parameter m) ≡ true → result_type (look text name) ≡ int
spawned_by text name facts None e h = cc
spawned_by text name facts (Some (AVariable t)) e h = cc
spawned_by text name facts (Some (AnArray t)) e h = cc
spawned_by text name facts (Some AMutex) e h = cc
spawned_by text name facts (Some (AFunction None ts)) e h = cc
spawned_by text name facts (Some (AFunction (Some r) [])) e h = cc
spawned_by text name facts (Some (AFunction (Some r) (t ∷ u ∷ ts))) e h = cc
spawned_by text name facts (Some (AFunction (Some r) (t ∷ []))) e h =
    (function_type text name r (t ∷ []) facts e).is ∙ int_is r (first (is_int r) (is_scalar t) h)
  where
    first : (a b : Bool) → is_some (if a && b then Some t else None) ≡ true → a ≡ true
    first true b h = refl
    first false b h = cc

pub spawned_returns_int : (text : List Def) (name : Bytes) (i : Option CType) (place at : ℕ) → Facts text
    → Clean (spawn_type (hidden_by i (defined text name)) place at) → result_type (look text name) ≡ int
spawned_returns_int text name i place at facts clean = by i (defined text name) refl clean
  where
    holds : (b : Bool) → Clean (if b then Value int_type else wrong WrongType at) → b ≡ true
    holds true c = refl
    holds false c = cc

    by : (i : Option CType) (m : Option Meaning) → defined text name ≡ m → Clean (spawn_type (hidden_by i m) place at)
        → result_type (look text name) ≡ int
    by (Some t) m e c = cc
    by None None e c = cc
    by None (Some m) e c = spawned_by text name facts (Some m) e (holds (is_some (thread_parameter (Some m))) c)
