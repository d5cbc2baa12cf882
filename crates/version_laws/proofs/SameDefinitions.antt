-- Definitions that are alike are those of which the same is said: a struct's fields, a function whole, a global's or an
-- array's type. All that is asked of a definition by its name depends on that alone.
use Rattle.std.proofs.Common.{◌≡◌, Bool, true, false, ℤ, List, [], ◌∷◌, map, ◌&&◌, option_map, is_some, Option, Some, None, refl, sym, ap, ap₂, ◌∙◌}
use Rattle.std.specs.Ordering.{int_eq}
use Rattle.std.proofs.lemmas.Bool.Decides.{Decides-int_eq}
use Rattle.std.proofs.lemmas.Slice.Eq.{bytes_eq-Decides}
use Rattle.c_ints.specs.Number.{value_of}
use Rattle.c_tree.specs.BareExpr.{Bytes, BareType}
use Rattle.c_tree.specs.BareStmt.{BareStmts}
use Rattle.c_tree.specs.BareDef.{BareBinding, BareDef, Struct, Forward, Mutex, Function, Prototype, Global, Array, TransformStruct, TransformGlobal}
use Rattle.c_semantics.specs.Texts.{defined, int, global_type, result_type, parameters_of, members_of}
use Rattle.c_semantics.specs.Same.{same_list, same_option, same_type, same_binding, same_stmts}
use Rattle.c_semantics.specs.Changes.{same_layout, same_signature, same_interface, same_definition, agree}
use Rattle.version_laws.specs.Histories.{Alike}
use Rattle.version_laws.proofs.Parts.{three}
use Rattle.definition_laws.proofs.Tests.{no, left_of, right_of, both_hold}
use Rattle.definition_laws.proofs.SameTrees.{types as types_same, type_alike, same_options, blocks_same as bodies_same, block_alike as body_alike}

-- what a definition says of its name
pub data Said : Type 0 where
  SaysStruct : List BareBinding → Said
  SaysMutex : Said
  SaysFunction : Option BareType → List BareBinding → BareStmts → Said
  SaysGlobal : BareType → Said
  SaysArray : BareType → ℤ → Said
  SaysNothing : Said

abbrev pub said : BareDef → Said
said (Struct tag ms) = SaysStruct ms
said (Forward tag) = SaysNothing
said (Mutex name) = SaysMutex
said (Function r name ps body) = SaysFunction r ps body
said (Prototype r name ps) = SaysNothing
said (Global d) = SaysGlobal d.declared
said (Array t name n initial) = SaysArray t (value_of n)
said (TransformStruct tag values) = SaysNothing
said (TransformGlobal name value) = SaysNothing

abbrev same_said : Said → Said → Bool
same_said (SaysStruct ms) (SaysStruct ns) = same_layout ms ns
same_said SaysMutex SaysMutex = true
same_said (SaysFunction r ps body) (SaysFunction q qs code) =
    same_option same_type r q && same_list same_binding ps qs && same_stmts body code
same_said (SaysGlobal t) (SaysGlobal u) = same_type t u
same_said (SaysArray t n) (SaysArray u m) = same_type t u && int_eq n m
same_said _ _ = false

abbrev same_interface_said : Said → Said → Bool
same_interface_said (SaysFunction r ps body) (SaysFunction q qs code) = same_signature r ps q qs
same_interface_said a b = same_said a b

-- the tests are of what is said
definition_by_said : (a b : BareDef) → same_definition a b ≡ same_said (said a) (said b)
definition_by_said (Struct tag ms) (Struct other ns) = refl
definition_by_said (Mutex name) (Mutex other) = refl
definition_by_said (Function r name ps body) (Function q other qs code) = refl
definition_by_said (Global a) (Global b) = refl
definition_by_said (Array t name n initial) (Array u other m values) = refl
definition_by_said _ _ = refl

interface_by_said : (a b : BareDef) → same_interface a b ≡ same_interface_said (said a) (said b)
interface_by_said (Struct tag ms) (Struct other ns) = refl
interface_by_said (Mutex name) (Mutex other) = refl
interface_by_said (Function r name ps body) (Function q other qs code) = refl
interface_by_said (Global a) (Global b) = refl
interface_by_said (Array t name n initial) (Array u other m values) = refl
interface_by_said _ _ = refl

-- ---- the test of what is said

binding_of : BareType → Bytes → BareBinding
binding_of declared name = record { declared = declared; name = name }

bindings_same : (a b : BareBinding) → same_binding a b ≡ true → a ≡ b
unfolding binding_of
bindings_same a b h =
    ap₂ binding_of (types_same a.declared b.declared (left_of _ _ h)) ((bytes_eq-Decides a.name b.name).0 (right_of _ _ h))

binding_alike : (b : BareBinding) → same_binding b b ≡ true
binding_alike b = both_hold _ _ (type_alike b.declared) ((bytes_eq-Decides b.name b.name).1 refl)

lists_same : {A : Type 0} (same : A → A → Bool) (xs ys : List A) → ((x y : A) → same x y ≡ true → x ≡ y)
    → same_list same xs ys ≡ true → xs ≡ ys
lists_same same [] [] sound h = refl
lists_same same [] (y ∷ ys) sound h = absurd (no h)
lists_same same (x ∷ xs) [] sound h = absurd (no h)
lists_same same (x ∷ xs) (y ∷ ys) sound h =
    ap₂ (◌∷◌) (sound x y (left_of _ _ h)) (lists_same same xs ys sound (right_of _ _ h))

list_alike : {A : Type 0} (same : A → A → Bool) (xs : List A) → ((x : A) → same x x ≡ true) → same_list same xs xs ≡ true
list_alike same [] alike = refl
list_alike same (x ∷ xs) alike = both_hold _ _ (alike x) (list_alike same xs alike)

option_alike : {A : Type 0} (same : A → A → Bool) (o : Option A) → ((x : A) → same x x ≡ true) → same_option same o o ≡ true
option_alike same None alike = refl
option_alike same (Some x) alike = alike x

-- fields that are alike are the same
pub layouts_same : (ms ns : List BareBinding) → same_layout ms ns ≡ true → ms ≡ ns
layouts_same ms ns h = lists_same same_binding ms ns bindings_same h

said_same : (a b : Said) → same_said a b ≡ true → a ≡ b
said_same (SaysStruct ms) (SaysStruct ns) h = ap SaysStruct (layouts_same ms ns h)
said_same SaysMutex SaysMutex h = refl
said_same (SaysFunction r ps body) (SaysFunction q qs code) h =
    three SaysFunction (same_options same_type r q types_same (left_of _ _ (left_of _ _ h)))
    (lists_same same_binding ps qs bindings_same (right_of _ _ (left_of _ _ h))) (bodies_same body code (right_of _ _ h))
said_same (SaysGlobal t) (SaysGlobal u) h = ap SaysGlobal (types_same t u h)
said_same (SaysArray t n) (SaysArray u m) h =
    ap₂ SaysArray (types_same t u (left_of _ _ h)) ((Decides-int_eq n m).0 (right_of _ _ h))
said_same _ _ h = absurd (no h)

-- what defines a name says something of it
said_alike : (d : BareDef) → is_some (defined d) ≡ true → same_said (said d) (said d) ≡ true
said_alike (Struct tag ms) h = list_alike same_binding ms binding_alike
said_alike (Forward tag) h = absurd (no h)
said_alike (Mutex name) h = refl
said_alike (Function r name ps body) h =
    both_hold _ _ (both_hold _ _ (option_alike same_type r type_alike) (list_alike same_binding ps binding_alike)) (body_alike body)
said_alike (Prototype r name ps) h = absurd (no h)
said_alike (Global d) h = type_alike d.declared
said_alike (Array t name n initial) h =
    both_hold _ _ (type_alike t) ((Decides-int_eq (value_of n) (value_of n)).1 refl)
said_alike (TransformStruct tag values) h = absurd (no h)
said_alike (TransformGlobal name value) h = absurd (no h)

-- ---- definitions that are alike

same_definitions_say_the_same : (a b : BareDef) → same_definition a b ≡ true → said a ≡ said b
same_definitions_say_the_same a b h = said_same (said a) (said b) (sym (definition_by_said a b) ∙ h)

-- what defines a name is the same as itself
pub definition_is_itself : (d : BareDef) → is_some (defined d) ≡ true → same_definition d d ≡ true
definition_is_itself d h = definition_by_said d d ∙ said_alike d h

-- so is its interface
pub interface_is_itself : (d : BareDef) → is_some (defined d) ≡ true → same_interface d d ≡ true
interface_is_itself d h = interface_by_said d d ∙ by (said d) (said_alike d h)
  where
    by : (a : Said) → same_said a a ≡ true → same_interface_said a a ≡ true
    by (SaysStruct ms) g = g
    by SaysMutex g = g
    by (SaysFunction r ps body) g =
        both_hold _ _ (left_of _ _ (left_of _ _ g)) (list_alike same_type (map (λ b. b.declared) ps) type_alike)
    by (SaysGlobal t) g = g
    by (SaysArray t n) g = g
    by SaysNothing g = g

-- alike definitions say the same
pub alike_say_the_same : (o u : Option BareDef) → Alike o u → option_map said o ≡ option_map said u
alike_say_the_same None None h = refl
alike_say_the_same (Some a) (Some b) h = ap Some (same_definitions_say_the_same a b h)
alike_say_the_same None (Some b) h = absurd h
alike_say_the_same (Some a) None h = absurd h

pub alike_turned : (o u : Option BareDef) → Alike o u → Alike u o
alike_turned None None h = tt
alike_turned (Some a) (Some b) h =
    let e = same_definitions_say_the_same a b h in
    definition_by_said b a ∙ ap₂ same_said (sym e) e ∙ sym (definition_by_said a b) ∙ h
alike_turned None (Some b) h = absurd h
alike_turned (Some a) None h = absurd h

pub alike_through : (o u v : Option BareDef) → Alike o u → Alike u v → Alike o v
alike_through None None v h i = i
alike_through (Some a) (Some b) (Some c) h i =
    definition_by_said a c ∙ ap (λ x. same_said x (said c)) (same_definitions_say_the_same a b h) ∙ sym (definition_by_said b c) ∙ i
alike_through (Some a) (Some b) None h i = absurd i
alike_through (Some a) None v h i = absurd h
alike_through None (Some b) v h i = absurd h

pub alike_where_agreed : (o u : Option BareDef) → agree same_definition o u ≡ true → Alike o u
alike_where_agreed (Some a) (Some b) h = h
alike_where_agreed (Some a) None h = absurd (no h)
alike_where_agreed None (Some b) h = absurd (no h)
alike_where_agreed None None h = absurd (no h)

-- ---- what is asked of a definition

abbrev type_said : Option Said → BareType
type_said (Some (SaysGlobal t)) = t
type_said (Some (SaysArray t n)) = t
type_said _ = int

global_type_by_said : (o : Option BareDef) → global_type o ≡ type_said (option_map said o)
global_type_by_said None = refl
global_type_by_said (Some (Global d)) = refl
global_type_by_said (Some (Array t name n initial)) = refl
global_type_by_said (Some _) = refl

abbrev result_said : Option Said → BareType
result_said (Some (SaysFunction (Some type) ps body)) = type
result_said _ = int

result_type_by_said : (o : Option BareDef) → result_type o ≡ result_said (option_map said o)
result_type_by_said None = refl
result_type_by_said (Some (Function None name ps body)) = refl
result_type_by_said (Some (Function (Some type) name ps body)) = refl
result_type_by_said (Some _) = refl

abbrev parameters_said : Option Said → List BareBinding
parameters_said (Some (SaysFunction r ps body)) = ps
parameters_said _ = []

parameters_by_said : (o : Option BareDef) → parameters_of o ≡ parameters_said (option_map said o)
parameters_by_said None = refl
parameters_by_said (Some (Function r name ps body)) = refl
parameters_by_said (Some _) = refl

abbrev members_said : Option Said → List BareBinding
members_said (Some (SaysStruct ms)) = ms
members_said _ = []

members_by_said : (o : Option BareDef) → members_of o ≡ members_said (option_map said o)
members_by_said None = refl
members_by_said (Some (Struct tag ms)) = refl
members_by_said (Some _) = refl

abbrev interfaces_said : Option Said → Option Said → Bool
interfaces_said (Some a) (Some b) = same_interface_said a b
interfaces_said _ _ = false

agree_by_said : (o u : Option BareDef) → agree same_interface o u ≡ interfaces_said (option_map said o) (option_map said u)
agree_by_said None None = refl
agree_by_said None (Some b) = refl
agree_by_said (Some a) None = refl
agree_by_said (Some a) (Some b) = interface_by_said a b

pub global_types_alike : (o u : Option BareDef) → Alike o u → global_type o ≡ global_type u
global_types_alike o u h = global_type_by_said o ∙ ap type_said (alike_say_the_same o u h) ∙ sym (global_type_by_said u)

pub result_types_alike : (o u : Option BareDef) → Alike o u → result_type o ≡ result_type u
result_types_alike o u h = result_type_by_said o ∙ ap result_said (alike_say_the_same o u h) ∙ sym (result_type_by_said u)

pub parameters_alike : (o u : Option BareDef) → Alike o u → parameters_of o ≡ parameters_of u
parameters_alike o u h = parameters_by_said o ∙ ap parameters_said (alike_say_the_same o u h) ∙ sym (parameters_by_said u)

pub members_alike : (o u : Option BareDef) → Alike o u → members_of o ≡ members_of u
members_alike o u h = members_by_said o ∙ ap members_said (alike_say_the_same o u h) ∙ sym (members_by_said u)

-- definitions of one interface have the same fields
pub interface_members : (a b : BareDef) → same_interface a b ≡ true → members_of (Some a) ≡ members_of (Some b)
interface_members a b h =
    members_by_said (Some a) ∙ by (said a) (said b) (sym (interface_by_said a b) ∙ h) ∙ sym (members_by_said (Some b))
  where
    by : (x y : Said) → same_interface_said x y ≡ true → members_said (Some x) ≡ members_said (Some y)
    by (SaysStruct ms) (SaysStruct ns) g = layouts_same ms ns g
    by SaysMutex SaysMutex g = refl
    by (SaysFunction r ps body) (SaysFunction q qs code) g = refl
    by (SaysGlobal t) (SaysGlobal u) g = refl
    by (SaysArray t n) (SaysArray u m) g = refl
    by _ _ g = absurd (no g)

-- interfaces are compared alike
pub interfaces_alike : (o u v w : Option BareDef) → Alike o u → Alike v w → agree same_interface o v ≡ agree same_interface u w
interfaces_alike o u v w h i =
    agree_by_said o v ∙ ap₂ interfaces_said (alike_say_the_same o u h) (alike_say_the_same v w i) ∙ sym (agree_by_said u w)
