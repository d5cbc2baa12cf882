-- The interface set lies in the changed set.
use Rattle.std.proofs.Common.{◌≡◌, Bool, true, false, List, [], ◌∷◌, Option, Some, None, refl}
use Rattle.std.specs.Prelude.{◌||◌, not, cond, filter, map, bytes_eq}
use Rattle.c_tree.specs.BareExpr.{Bytes}
use Rattle.c_tree.specs.BareDef.{BareBinding, BareDef, Struct, Forward, Mutex, Function, Prototype, Global, Array, TransformStruct, TransformGlobal}
use Rattle.name_sets.specs.NameLists.{is_among, name_set}
use Rattle.c_semantics.specs.Texts.{definition, names}
use Rattle.c_semantics.specs.Same.{same_type, same_binding, same_list}
use Rattle.c_semantics.specs.Changes.{agree, same_definition, same_interface}
use Rattle.source_model.specs.ChangeLaws.{DefinitionsHaveInterfaces, InterfaceInChanged}
use Rattle.definition_laws.proofs.Tests.{no, left_of, right_of, both_hold}

-- parameters with equal names and types have equal types
same_types : (ps qs : List BareBinding) → same_list same_binding ps qs ≡ true
    → same_list same_type (map (λ b. b.declared) ps) (map (λ b. b.declared) qs) ≡ true
same_types [] [] h = refl
same_types [] (q ∷ qs) h = h
same_types (p ∷ ps) [] h = h
same_types (p ∷ ps) (q ∷ qs) h =
    both_hold _ _ (left_of _ _ (left_of (same_binding p q) (same_list same_binding ps qs) h))
    (same_types ps qs (right_of (same_binding p q) (same_list same_binding ps qs) h))

pub definitions_have_interfaces : DefinitionsHaveInterfaces
definitions_have_interfaces (Function r name ps body) (Function q other qs code) h =
    both_hold _ _ (left_of _ _ (left_of _ _ h)) (same_types ps qs (right_of _ _ (left_of _ _ h)))
definitions_have_interfaces (Function r name ps body) (Struct tag ms) h = h
definitions_have_interfaces (Function r name ps body) (Forward tag) h = h
definitions_have_interfaces (Function r name ps body) (Mutex m) h = h
definitions_have_interfaces (Function r name ps body) (Prototype q other qs) h = h
definitions_have_interfaces (Function r name ps body) (Global d) h = h
definitions_have_interfaces (Function r name ps body) (Array t a n v) h = h
definitions_have_interfaces (Function r name ps body) (TransformStruct t v) h = h
definitions_have_interfaces (Function r name ps body) (TransformGlobal g e) h = h
definitions_have_interfaces (Struct tag ms) b h = h
definitions_have_interfaces (Forward tag) b h = h
definitions_have_interfaces (Mutex m) b h = h
definitions_have_interfaces (Prototype q other qs) b h = h
definitions_have_interfaces (Global d) b h = h
definitions_have_interfaces (Array t a n v) b h = h
definitions_have_interfaces (TransformStruct t v) b h = h
definitions_have_interfaces (TransformGlobal g e) b h = h

-- so where two texts agree on a name's definition they agree on its interface
agree_on : (a b : Option BareDef) → agree same_definition a b ≡ true → agree same_interface a b ≡ true
agree_on (Some a) (Some b) h = definitions_have_interfaces a b h
agree_on (Some a) None h = h
agree_on None b h = h

-- a smaller test leaves a smaller list
in_filtered : (f g : Bytes → Bool) (ns : List Bytes) (name : Bytes) → ((z : Bytes) → f z ≡ true → g z ≡ true)
    → is_among (filter f ns) name ≡ true → is_among (filter g ns) name ≡ true
in_filtered f g [] name le h = h
in_filtered f g (n ∷ ns) name le h = by (f n) (g n) (le n) h (in_filtered f g ns name le)
  where
    by : (b c : Bool) → (b ≡ true → c ≡ true) → is_among (cond b (n ∷ filter f ns) (filter f ns)) name ≡ true
        → (is_among (filter f ns) name ≡ true → is_among (filter g ns) name ≡ true)
        → is_among (cond c (n ∷ filter g ns) (filter g ns)) name ≡ true
    by true true to h rest = either_of (bytes_eq name n) h rest
      where
        either_of : (b : Bool) → (b || is_among (filter f ns) name) ≡ true
            → (is_among (filter f ns) name ≡ true → is_among (filter g ns) name ≡ true) → (b || is_among (filter g ns) name) ≡ true
        either_of true h rest = refl
        either_of false h rest = rest h
    by true false to h rest = absurd (no (to refl))
    by false true to h rest = later (bytes_eq name n) (rest h)
      where
        later : (b : Bool) → is_among (filter g ns) name ≡ true → (b || is_among (filter g ns) name) ≡ true
        later true e = refl
        later false e = e
    by false false to h rest = rest h

-- not agreeing on the interface is not agreeing on the definition
turned : (a b : Bool) → (a ≡ true → b ≡ true) → not b ≡ true → not a ≡ true
turned true true to h = h
turned true false to h = absurd (no (to refl))
turned false b to h = refl

pub interface_in_changed : InterfaceInChanged
interface_in_changed p q name h =
    in_filtered (λ z. not (agree same_interface (definition p z) (definition q z)))
    (λ z. not (agree same_definition (definition p z) (definition q z))) (name_set (names p)) name
    (λ z. turned _ _ (agree_on (definition p z) (definition q z))) h
