-- What a name of the first level stands for by its types, and by its definition.
use Rattle.std.proofs.Common.{◌≡◌, ℕ, Bool, true, false, cond, IsTrue, List, [], ◌∷◌, map, Option, Some, None, is_some, option_map, option_and_then, Contains, bytes_eq, refl, sym, ap, subst, ◌∙◌}
use Rattle.std.proofs.lemmas.Slice.Eq.{bytes_eq-Decides}
use Rattle.c_tree.specs.BareExpr.{Bytes}
use Rattle.c_tree.specs.BareDef.{BareDef}
use Rattle.c_tree.specs.Bare.{bare_kind, bare_def}
use Rattle.c_tree.specs.declared.name.Name.{Name}
use Rattle.c_tree.specs.declared.def.Binding.{Binding}
use Rattle.c_tree.specs.declared.def.Def.{Def}
use Rattle.c_tree.specs.declared.def.DefKind.{DefKind}
use Rattle.c_tree.specs.declared.def.DefKind.TheVariants.{Struct, Forward, Mutex, Function, Prototype, Global, Array, TransformStruct, TransformGlobal}
use Rattle.c_definitions.specs.Lookup.{Meaning, defined, definition_of, defines_tag, is_named, meaning_in, members_in, members_of, name_of, struct_of}
use Rattle.c_semantics.specs.Names.{struct_name}
use Rattle.c_semantics.specs.Texts.{Definitions, definition, defines, names}
use Rattle.typed_uses.specs.UseLaws.{NamesApart}
use Rattle.typed_uses.proofs.SoundTexts.{Facts}

-- the definitions of a text by name, and that a name is defined in it
abbrev pub look : List Def → Definitions
look text = definition (map bare_def text)

abbrev pub Named : List Def → Bytes → Type 0
Named text name = Contains (names (map bare_def text)) name

pub same_bytes : (a b : Bytes) → bytes_eq a b ≡ true → a ≡ b
same_bytes a b e = (bytes_eq-Decides a b).0 e

pub itself : (a : Bytes) → bytes_eq a a ≡ true
itself a = (bytes_eq-Decides a a).1 refl

-- the same first is found by two tests that agree on it
one_found : (a b : Bool) (d : Def) (rest : Option BareDef) (rest' : Option Def) → a ≡ b → rest ≡ option_map bare_def rest' →
    cond a (Some (bare_def d)) rest ≡ option_map bare_def (cond b (Some d) rest')
one_found a b d rest rest' same more =
    ap (λ x. cond x (Some (bare_def d)) rest) same ∙ ap (cond b (Some (bare_def d))) more ∙ by b
  where
    by : (b : Bool) → cond b (Some (bare_def d)) (option_map bare_def rest') ≡ option_map bare_def (cond b (Some d) rest')
    by true = refl
    by false = refl

-- the name isn't that of a struct
abbrev NoStruct : Bytes → DefKind → Type 0
NoStruct name (Struct tag members) = bytes_eq name (struct_name tag.text) ≡ false
NoStruct name _ = Unit {0}

abbrev NoStructs : Bytes → List Def → Type 0
NoStructs name [] = Unit {0}
NoStructs name (d ∷ ds) = NoStruct name d.kind × NoStructs name ds

defines_named : (name : Bytes) (k : DefKind) → NoStruct name k → defines name (bare_kind k) ≡ is_named name (name_of k)
defines_named name (Struct tag members) apart = apart
defines_named name (Forward tag) apart = refl
defines_named name (Mutex n) apart = refl
defines_named name (Function f) apart = refl
defines_named name (Prototype p) apart = refl
defines_named name (Global d) apart = refl
defines_named name (Array a) apart = refl
defines_named name (TransformStruct t) apart = refl
defines_named name (TransformGlobal n e) apart = refl

find_named : (ds : List Def) (name : Bytes) → NoStructs name ds → look ds name ≡ option_map bare_def (definition_of ds name)
find_named [] name apart = refl
find_named (d ∷ ds) name apart =
    one_found (defines name (bare_def d)) (is_named name (name_of d.kind)) d (look ds name) (definition_of ds name)
    (defines_named name d.kind apart.0) (find_named ds name apart.1)

-- a struct that is defined in a part of a text is defined in all of it
pub own_members : (place : ℕ) (tag : Name) (members : List Binding) (ds : List Def) (name : Bytes) → bytes_eq name tag.text ≡ true →
    IsTrue (is_some (members_of (record { place = place; kind = Struct tag members } ∷ ds) name))
own_members place tag members ds name same = rw same refl

pub more_members : (d : Def) (ds : List Def) (tag : Bytes) → IsTrue (is_some (members_of ds tag)) → IsTrue (is_some (members_of (d ∷ ds) tag))
more_members d ds tag h = by d.place d.kind
  where
    struct : (place : ℕ) (t : Name) (members : List Binding) (b : Bool) →
        IsTrue (is_some (option_and_then (λ d'. members_in d'.kind) (cond b (Some (record { place = place; kind = Struct t members })) (struct_of ds tag))))
    struct place t members true = refl
    struct place t members false = h

    by : (place : ℕ) (k : DefKind) → IsTrue (is_some (members_of (record { place = place; kind = k } ∷ ds) tag))
    by place (Struct t members) = struct place t members (bytes_eq tag t.text)
    by place (Forward t) = h
    by place (Mutex n) = h
    by place (Function f) = h
    by place (Prototype p) = h
    by place (Global g) = h
    by place (Array a) = h
    by place (TransformStruct t) = h
    by place (TransformGlobal n e) = h

no_structs : (ds : List Def) (name : Bytes) →
    ((tag : Bytes) → IsTrue (is_some (members_of ds tag)) → bytes_eq name (struct_name tag) ≡ false) → NoStructs name ds
no_structs [] name apart = tt
no_structs (d ∷ ds) name apart =
    (by d.place d.kind apart, no_structs ds name (λ tag h. apart tag (more_members d ds tag h)))
  where
    by : (place : ℕ) (k : DefKind) →
        ((tag : Bytes) → IsTrue (is_some (members_of (record { place = place; kind = k } ∷ ds) tag)) → bytes_eq name (struct_name tag) ≡ false)
        → NoStruct name k
    by place (Struct t members) h = h t.text (own_members place t members ds t.text (itself t.text))
    by place (Forward t) h = tt
    by place (Mutex n) h = tt
    by place (Function f) h = tt
    by place (Prototype p) h = tt
    by place (Global g) h = tt
    by place (Array a) h = tt
    by place (TransformStruct t) h = tt
    by place (TransformGlobal n e) h = tt

-- a name that is defined is no struct's
apart_from : (text : List Def) (name : Bytes) (m : Meaning) → NamesApart text → defined text name ≡ Some m →
    (tag : Bytes) → IsTrue (is_some (members_of text tag)) → bytes_eq name (struct_name tag) ≡ false
apart_from text name m apart is tag there = by (bytes_eq name (struct_name tag)) refl
  where
    by : (b : Bool) → bytes_eq name (struct_name tag) ≡ b → b ≡ false
    by false e = refl
    by true e =
        let none : defined text name ≡ None = subst (λ n. defined text n ≡ None) (sym (same_bytes name (struct_name tag) e)) (apart tag there) in
        absurd (let clash : Some m ≡ None = sym is ∙ none in cc)

pub found_as : (text : List Def) (name : Bytes) (m : Meaning) → Facts text → defined text name ≡ Some m →
    look text name ≡ option_map bare_def (definition_of text name)
found_as text name m facts is = find_named text name (no_structs text name (apart_from text name m facts.apart is))

-- the name of a struct is no other's
undefined_first : (place : ℕ) (k : DefKind) (ds : List Def) (n : Bytes) → defined (record { place = place; kind = k } ∷ ds) n ≡ None →
    (is_named n (name_of k) ≡ false) × (defined ds n ≡ None)
undefined_first place k ds n = by k
  where
    named : (m : Meaning) (d : Def) (b : Bool) → meaning_in d.kind ≡ Some m →
        option_and_then (λ d'. meaning_in d'.kind) (cond b (Some d) (definition_of ds n)) ≡ None → (b ≡ false) × (defined ds n ≡ None)
    named m d true is e = absurd (let clash : Some m ≡ None = sym is ∙ e in cc)
    named m d false is e = (refl, e)

    by : (k : DefKind) → defined (record { place = place; kind = k } ∷ ds) n ≡ None → (is_named n (name_of k) ≡ false) × (defined ds n ≡ None)
    by (Struct t members) e = (refl, e)
    by (Forward t) e = (refl, e)
    by (Mutex m) e = named _ (record { place = place; kind = Mutex m }) (bytes_eq n m.text) refl e
    by (Function f) e = named _ (record { place = place; kind = Function f }) (bytes_eq n f.name.text) refl e
    by (Prototype p) e = (refl, e)
    by (Global g) e = named _ (record { place = place; kind = Global g }) (bytes_eq n g.name.text) refl e
    by (Array a) e = named _ (record { place = place; kind = Array a }) (bytes_eq n a.name.text) refl e
    by (TransformStruct t) e = (refl, e)
    by (TransformGlobal m v) e = (refl, e)

defines_struct : (tag : Bytes) (k : DefKind) → is_named (struct_name tag) (name_of k) ≡ false →
    defines (struct_name tag) (bare_kind k) ≡ defines_tag tag k
defines_struct tag (Struct t members) e = refl
defines_struct tag (Forward t) e = refl
defines_struct tag (Mutex n) e = e
defines_struct tag (Function f) e = e
defines_struct tag (Prototype p) e = refl
defines_struct tag (Global d) e = e
defines_struct tag (Array a) e = e
defines_struct tag (TransformStruct t) e = refl
defines_struct tag (TransformGlobal n v) e = refl

pub find_struct : (ds : List Def) (tag : Bytes) → defined ds (struct_name tag) ≡ None →
    look ds (struct_name tag) ≡ option_map bare_def (struct_of ds tag)
find_struct [] tag apart = refl
find_struct (d ∷ ds) tag apart =
    let others = undefined_first d.place d.kind ds (struct_name tag) apart in
    one_found (defines (struct_name tag) (bare_def d)) (defines_tag tag d.kind) d (look ds (struct_name tag)) (struct_of ds tag)
    (defines_struct tag d.kind others.0) (find_struct ds tag others.1)
