-- The tests of definitions and of interfaces say that their parts are equal.
use Rattle.std.proofs.Common.{◌≡◌, Bool, true, List, [], ◌∷◌, Option, Some, None, refl, ap₂, subst}
use Rattle.std.proofs.lemmas.Bool.Decides.{Decides-int_eq}
use Rattle.std.proofs.lemmas.Slice.Eq.{bytes_eq-Decides}
use Rattle.c_ints.specs.Number.{value_of}
use Rattle.c_tree.specs.BareExpr.{Bytes, BareType}
use Rattle.c_tree.specs.BareStmt.{BareStmts}
use Rattle.c_tree.specs.BareDef.{BareBinding, BareDef, Struct, Mutex, Function, Global, Array}
use Rattle.c_semantics.specs.Same.{same_list, same_option, same_type, same_binding, same_stmts}
use Rattle.c_semantics.specs.Changes.{same_definition, same_interface}
use Rattle.definition_laws.specs.EqualParts.{types_of, HaveEqualParts, HaveEqualInterfaces}
use Rattle.definition_laws.specs.DefinitionLaws.{DefinitionsAreEqual, InterfacesAreEqual}
use Rattle.definition_laws.proofs.Tests.{no, left_of, right_of, both_hold}
use Rattle.definition_laws.proofs.SameTrees.{types, type_alike, same_options, blocks_same, block_alike}

-- ---- parts: from a test, and to it

binding_of : BareType → Bytes → BareBinding
binding_of declared name = record { declared = declared; name = name }

bindings_same : (a b : BareBinding) → same_binding a b ≡ true → a ≡ b
unfolding binding_of
bindings_same a b h =
    ap₂ binding_of (types a.declared b.declared (left_of _ _ h)) ((bytes_eq-Decides a.name b.name).0 (right_of _ _ h))

binding_alike : (b : BareBinding) → same_binding b b ≡ true
binding_alike b = both_hold _ _ (type_alike b.declared) ((bytes_eq-Decides b.name b.name).1 refl)

lists_same : {A : Type 0} (same : A → A → Bool) (xs ys : List A) → ((x y : A) → same x y ≡ true → x ≡ y)
    → same_list same xs ys ≡ true → xs ≡ ys
lists_same same [] [] sound h = refl
lists_same same [] (y ∷ ys) sound h = absurd (no h)
lists_same same (x ∷ xs) [] sound h = absurd (no h)
lists_same same (x ∷ xs) (y ∷ ys) sound h =
    ap₂ (◌∷◌) (sound x y (left_of _ _ h)) (lists_same same xs ys sound (right_of _ _ h))

list_alike : {A : Type 0} (same : A → A → Bool) (xs : List A) → ((x : A) → same x x ≡ true) → same_list same xs xs ≡ true
list_alike same [] alike = refl
list_alike same (x ∷ xs) alike = both_hold _ _ (alike x) (list_alike same xs alike)

option_alike : {A : Type 0} (same : A → A → Bool) (o : Option A) → ((x : A) → same x x ≡ true) → same_option same o o ≡ true
option_alike same None alike = refl
option_alike same (Some x) alike = alike x

-- a test holds of equal values where it holds of each and itself
at_equal : {A : Type 0} (same : A → A → Bool) (x y : A) → same x x ≡ true → x ≡ y → same x y ≡ true
at_equal same x y alike e = subst (λ z. same x z ≡ true) e alike

from_type : (t u : BareType) → t ≡ u → same_type t u ≡ true
from_type t u e = at_equal same_type t u (type_alike t) e

from_result : (r q : Option BareType) → r ≡ q → same_option same_type r q ≡ true
from_result r q e = at_equal (same_option same_type) r q (option_alike same_type r type_alike) e

from_bindings : (ps qs : List BareBinding) → ps ≡ qs → same_list same_binding ps qs ≡ true
from_bindings ps qs e = at_equal (same_list same_binding) ps qs (list_alike same_binding ps binding_alike) e

from_types : (ts us : List BareType) → ts ≡ us → same_list same_type ts us ≡ true
from_types ts us e = at_equal (same_list same_type) ts us (list_alike same_type ts type_alike) e

from_body : (body code : BareStmts) → body ≡ code → same_stmts body code ≡ true
from_body body code e = at_equal same_stmts body code (block_alike body) e

-- ---- definitions

pub equal_if_same : (a b : BareDef) → same_definition a b ≡ true → HaveEqualParts a b
equal_if_same (Struct tag ms) (Struct other ns) h = lists_same same_binding ms ns bindings_same h
equal_if_same (Mutex name) (Mutex other) h = tt
equal_if_same (Function r name ps body) (Function q other qs code) h = (
  same_options same_type r q types (left_of _ _ (left_of _ _ h)),
  lists_same same_binding ps qs bindings_same (right_of _ _ (left_of _ _ h)),
  blocks_same body code (right_of _ _ h),
)
equal_if_same (Global d) (Global e) h = types d.declared e.declared h
equal_if_same (Array t name n initial) (Array u other m values) h =
    (types t u (left_of _ _ h), (Decides-int_eq (value_of n) (value_of m)).0 (right_of (same_type t u) _ h))
equal_if_same _ _ h = absurd (no h)

pub same_if_equal : (a b : BareDef) → HaveEqualParts a b → same_definition a b ≡ true
same_if_equal (Struct tag ms) (Struct other ns) h = from_bindings ms ns h
same_if_equal (Mutex name) (Mutex other) h = refl
same_if_equal (Function r name ps body) (Function q other qs code) h =
    both_hold _ _ (both_hold _ _ (from_result r q h.0) (from_bindings ps qs h.1)) (from_body body code h.2)
same_if_equal (Global d) (Global e) h = from_type d.declared e.declared h
same_if_equal (Array t name n initial) (Array u other m values) h =
    both_hold _ _ (from_type t u h.0) ((Decides-int_eq (value_of n) (value_of m)).1 h.1)
same_if_equal _ _ h = absurd h

-- ---- interfaces

pub interface_equal_if_same : (a b : BareDef) → same_interface a b ≡ true → HaveEqualInterfaces a b
interface_equal_if_same (Struct tag ms) (Struct other ns) h = lists_same same_binding ms ns bindings_same h
interface_equal_if_same (Mutex name) (Mutex other) h = tt
interface_equal_if_same (Function r name ps body) (Function q other qs code) h =
    (same_options same_type r q types (left_of _ _ h), lists_same same_type (types_of ps) (types_of qs) types (right_of _ _ h))
interface_equal_if_same (Global d) (Global e) h = types d.declared e.declared h
interface_equal_if_same (Array t name n initial) (Array u other m values) h =
    (types t u (left_of _ _ h), (Decides-int_eq (value_of n) (value_of m)).0 (right_of (same_type t u) _ h))
interface_equal_if_same _ _ h = absurd (no h)

pub interface_same_if_equal : (a b : BareDef) → HaveEqualInterfaces a b → same_interface a b ≡ true
interface_same_if_equal (Struct tag ms) (Struct other ns) h = from_bindings ms ns h
interface_same_if_equal (Mutex name) (Mutex other) h = refl
interface_same_if_equal (Function r name ps body) (Function q other qs code) h =
    both_hold _ _ (from_result r q h.0) (from_types (types_of ps) (types_of qs) h.1)
interface_same_if_equal (Global d) (Global e) h = from_type d.declared e.declared h
interface_same_if_equal (Array t name n initial) (Array u other m values) h =
    both_hold _ _ (from_type t u h.0) ((Decides-int_eq (value_of n) (value_of m)).1 h.1)
interface_same_if_equal _ _ h = absurd h

-- ---- the laws

pub definitions_are_equal : DefinitionsAreEqual
definitions_are_equal a b = (equal_if_same a b, same_if_equal a b)

pub interfaces_are_equal : InterfacesAreEqual
interfaces_are_equal a b = (interface_equal_if_same a b, interface_same_if_equal a b)
