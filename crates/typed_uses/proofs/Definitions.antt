-- What is defined in a text without faults: its types have declared tags, and each tag that is declared is a struct's.
use Rattle.std.proofs.Common.{◌≡◌, ℕ, Bool, true, false, cond, ◌||◌, ◌⊎◌, inl, inr, IsTrue, List, [], ◌∷◌, map, Option, Some, None, is_some, option_map, option_and_then, Contains, bytes_eq, refl, sym, ap, subst}
use Rattle.c_tree.specs.BareExpr.{Bytes, BareType}
use Rattle.c_tree.specs.BareStmt.{BareStmts}
use Rattle.c_tree.specs.BareDef.{BareDef, BareBinding}
use Rattle.c_tree.specs.BareDef as bare_d
use Rattle.c_tree.specs.Bare.{bare_type, bare_binding, bare_block, bare_stmt, bare_kind, bare_def}
use Rattle.c_tree.specs.declared.name.CType.{CType}
use Rattle.c_tree.specs.declared.def.Binding.{Binding}
use Rattle.c_tree.specs.declared.def.Def.{Def}
use Rattle.c_tree.specs.declared.def.DefKind.{DefKind}
use Rattle.c_tree.specs.declared.def.DefKind.TheVariants.{Struct, Forward, Mutex, Function, Prototype, Global, Array, TransformStruct, TransformGlobal}
use Rattle.c_definitions.specs.Lookup.{Meaning, defined, definition_of, defines_tag, is_known, is_named, is_tag, meaning_in, members_in, members_of, name_of, struct_of}
use Rattle.c_definitions.specs.Lookup.Meaning.{AVariable, AnArray, AFunction}
use Rattle.c_types.specs.Definitions.{bindings, result_faults}
use Rattle.c_semantics.specs.Names.{struct_name}
use Rattle.c_semantics.specs.Texts.{global_type, names, result_type}
use Rattle.c_semantics.specs.Texts as bare
use Rattle.typed_uses.proofs.Points.{first_of, later_of}
use Rattle.typed_uses.proofs.SoundTexts.{Sound, AllSound, IfSound, Facts, found_sound, known}
use Rattle.typed_uses.proofs.Lookups.{look, Named, same_bytes, more_members, own_members, found_as, find_struct}

-- a bare type is that of a type whose tag is declared
pub record HasType (text : List Def) (type : BareType) (t : CType) : Type 0 where
  pub is : type ≡ bare_type t
  pub known : IsTrue (is_known text t)

has_type : (text : List Def) (a t : CType) → a ≡ t → IsTrue (is_known text a) → HasType text (bare_type a) t
has_type text a t same k = record { is = ap bare_type same; known = subst (λ x. IsTrue (is_known text x)) same k }

-- of a variable
variable_kind : (text : List Def) (k : DefKind) (t : CType) → Sound text k → meaning_in k ≡ Some (AVariable t) →
    HasType text (global_type (Some (bare_kind k))) t
variable_kind text (Struct tag members) t s e = cc
variable_kind text (Forward tag) t s e = cc
variable_kind text (Mutex name) t s e = cc
variable_kind text (Function f) t s e = cc
variable_kind text (Prototype p) t s e = cc
variable_kind text (Global d) t s e = has_type text d.declared t (cc) (known text d.declared s)
variable_kind text (Array a) t s e = cc
variable_kind text (TransformStruct x) t s e = cc
variable_kind text (TransformGlobal name v) t s e = cc

-- of the elements of an array
array_kind : (text : List Def) (k : DefKind) (t : CType) → Sound text k → meaning_in k ≡ Some (AnArray t) →
    HasType text (global_type (Some (bare_kind k))) t
array_kind text (Struct tag members) t s e = cc
array_kind text (Forward tag) t s e = cc
array_kind text (Mutex name) t s e = cc
array_kind text (Function f) t s e = cc
array_kind text (Prototype p) t s e = cc
array_kind text (Global d) t s e = cc
array_kind text (Array a) t s e = has_type text a.element t (cc) (known text a.element s)
array_kind text (TransformStruct x) t s e = cc
array_kind text (TransformGlobal name v) t s e = cc

-- of the result of a function
result_of : (text : List Def) (r : Option CType) (t : CType) (name : Bytes) (parameters : List BareBinding) (body : BareStmts) →
    r ≡ Some t → result_faults text r ≡ [] → HasType text (result_type (Some (bare_d.Function (option_map bare_type r) name parameters body))) t
result_of text r t name parameters body is =
    subst (λ x. result_faults text x ≡ [] → HasType text (result_type (Some (bare_d.Function (option_map bare_type x) name parameters body))) t)
    (sym is) (λ e. record { is = refl; known = known text t e })

function_kind : (text : List Def) (k : DefKind) (t : CType) (types : List CType) → Sound text k →
    meaning_in k ≡ Some (AFunction (Some t) types) → HasType text (result_type (Some (bare_kind k))) t
function_kind text (Struct tag members) t types s e = cc
function_kind text (Forward tag) t types s e = cc
function_kind text (Mutex name) t types s e = cc
function_kind text (Function f) t types s e =
    result_of text f.result t f.name.text (map bare_binding f.parameters) (bare_block (map bare_stmt f.body)) (cc) s.result
function_kind text (Prototype p) t types s e = cc
function_kind text (Global d) t types s e = cc
function_kind text (Array a) t types s e = cc
function_kind text (TransformStruct x) t types s e = cc
function_kind text (TransformGlobal name v) t types s e = cc

-- what holds of a definition that is found, where it is one of a meaning
of_found : (text : List Def) (m : Meaning) (Q : Option BareDef → Type 0) →
    ((k : DefKind) → Sound text k → meaning_in k ≡ Some m → Q (Some (bare_kind k))) →
    (o : Option Def) → IfSound text o → option_and_then (λ d. meaning_in d.kind) o ≡ Some m → Q (option_map bare_def o)
of_found text m Q each None s e = cc
of_found text m Q each (Some d) s e = each d.kind s e

of_defined : (text : List Def) (name : Bytes) (m : Meaning) (Q : Option BareDef → Type 0) → Facts text → defined text name ≡ Some m →
    ((k : DefKind) → Sound text k → meaning_in k ≡ Some m → Q (Some (bare_kind k))) → Q (look text name)
of_defined text name m Q facts is each =
    subst Q (sym (found_as text name m facts is))
    (of_found text m Q each (definition_of text name) (found_sound text text (λ d. is_named name (name_of d.kind)) facts.sound) is)

pub variable_type : (text : List Def) (name : Bytes) (t : CType) → Facts text → defined text name ≡ Some (AVariable t) →
    HasType text (global_type (look text name)) t
variable_type text name t facts is =
    of_defined text name (AVariable t) (λ d. HasType text (global_type d) t) facts is (λ k s e. variable_kind text k t s e)

pub array_type : (text : List Def) (name : Bytes) (t : CType) → Facts text → defined text name ≡ Some (AnArray t) →
    HasType text (global_type (look text name)) t
array_type text name t facts is =
    of_defined text name (AnArray t) (λ d. HasType text (global_type d) t) facts is (λ k s e. array_kind text k t s e)

pub function_type : (text : List Def) (name : Bytes) (t : CType) (types : List CType) → Facts text →
    defined text name ≡ Some (AFunction (Some t) types) → HasType text (result_type (look text name)) t
function_type text name t types facts is =
    of_defined text name (AFunction (Some t) types) (λ d. HasType text (result_type d) t) facts is (λ k s e. function_kind text k t types s e)

-- the members of a struct
members_kind : (text : List Def) (k : DefKind) (members : List Binding) → Sound text k → members_in k ≡ Some members →
    (bare.members_of (Some (bare_kind k)) ≡ map bare_binding members) × (bindings text [] members ≡ [])
members_kind text (Struct tag own) members s e =
    let same : own ≡ members = cc in (ap (map bare_binding) same, subst (λ ms. bindings text [] ms ≡ []) same s)
members_kind text (Forward tag) members s e = cc
members_kind text (Mutex name) members s e = cc
members_kind text (Function f) members s e = cc
members_kind text (Prototype p) members s e = cc
members_kind text (Global d) members s e = cc
members_kind text (Array a) members s e = cc
members_kind text (TransformStruct x) members s e = cc
members_kind text (TransformGlobal name v) members s e = cc

pub struct_members : (text : List Def) (tag : Bytes) (members : List Binding) → Facts text → members_of text tag ≡ Some members →
    (bare.members_of (look text (struct_name tag)) ≡ map bare_binding members) × (bindings text [] members ≡ [])
struct_members text tag members facts is =
    subst Q (sym (find_struct text tag (facts.apart tag (ap is_some is))))
    (by (struct_of text tag) (found_sound text text (λ d. defines_tag tag d.kind) facts.sound) is)
  where
    Q : Option BareDef → Type 0
    Q d = (bare.members_of d ≡ map bare_binding members) × (bindings text [] members ≡ [])

    by : (o : Option Def) → IfSound text o → option_and_then (λ d. members_in d.kind) o ≡ Some members → Q (option_map bare_def o)
    by None s e = cc
    by (Some d) s e = members_kind text d.kind members s e

-- a name that is defined is among the names
pub named_in : (ds : List Def) (name : Bytes) (m : Meaning) → defined ds name ≡ Some m → Named ds name
named_in [] name m e = cc
named_in (d ∷ ds) name m e = by d.place d.kind e (named_in ds name m)
  where
    listed : (own : Bytes) (x : Def) (b : Bool) → bytes_eq name own ≡ b →
        option_and_then (λ y. meaning_in y.kind) (cond b (Some x) (definition_of ds name)) ≡ Some m →
        (defined ds name ≡ Some m → Named ds name) → Contains (own ∷ names (map bare_def ds)) name
    listed own x true same e rest =
        subst (Contains (own ∷ names (map bare_def ds))) (sym (same_bytes name own same)) (first_of own (names (map bare_def ds)))
    listed own x false same e rest = later_of own name (names (map bare_def ds)) (rest e)

    by : (place : ℕ) (k : DefKind) → defined (record { place = place; kind = k } ∷ ds) name ≡ Some m →
        (defined ds name ≡ Some m → Named ds name) → Named (record { place = place; kind = k } ∷ ds) name
    by place (Struct tag members) e rest = later_of (struct_name tag.text) name (names (map bare_def ds)) (rest e)
    by place (Forward tag) e rest = rest e
    by place (Mutex n) e rest = listed n.text (record { place = place; kind = Mutex n }) (bytes_eq name n.text) refl e rest
    by place (Function f) e rest = listed f.name.text (record { place = place; kind = Function f }) (bytes_eq name f.name.text) refl e rest
    by place (Prototype p) e rest = rest e
    by place (Global g) e rest = listed g.name.text (record { place = place; kind = Global g }) (bytes_eq name g.name.text) refl e rest
    by place (Array a) e rest = listed a.name.text (record { place = place; kind = Array a }) (bytes_eq name a.name.text) refl e rest
    by place (TransformStruct t) e rest = rest e
    by place (TransformGlobal n v) e rest = rest e

-- and so is the name of a struct that is defined
pub struct_in : (ds : List Def) (tag : Bytes) → IsTrue (is_some (members_of ds tag)) → Named ds (struct_name tag)
struct_in [] tag h = cc
struct_in (d ∷ ds) tag h = by d.place d.kind h (struct_in ds tag)
  where
    listed : (own : Bytes) (x : Def) (b : Bool) → bytes_eq tag own ≡ b →
        IsTrue (is_some (option_and_then (λ y. members_in y.kind) (cond b (Some x) (struct_of ds tag)))) →
        (IsTrue (is_some (members_of ds tag)) → Named ds (struct_name tag)) →
        Contains (struct_name own ∷ names (map bare_def ds)) (struct_name tag)
    listed own x true same h rest =
        subst (λ n. Contains (struct_name own ∷ names (map bare_def ds)) (struct_name n)) (sym (same_bytes tag own same))
        (first_of (struct_name own) (names (map bare_def ds)))
    listed own x false same h rest = later_of (struct_name own) (struct_name tag) (names (map bare_def ds)) (rest h)

    later : (own : Bytes) → Named ds (struct_name tag) → Contains (own ∷ names (map bare_def ds)) (struct_name tag)
    later own = later_of own (struct_name tag) (names (map bare_def ds))

    by : (place : ℕ) (k : DefKind) → IsTrue (is_some (members_of (record { place = place; kind = k } ∷ ds) tag)) →
        (IsTrue (is_some (members_of ds tag)) → Named ds (struct_name tag)) → Named (record { place = place; kind = k } ∷ ds) (struct_name tag)
    by place (Struct t members) h rest =
        listed t.text (record { place = place; kind = Struct t members }) (bytes_eq tag t.text) refl h rest
    by place (Forward t) h rest = rest h
    by place (Mutex n) h rest = later n.text (rest h)
    by place (Function f) h rest = later f.name.text (rest h)
    by place (Prototype p) h rest = rest h
    by place (Global g) h rest = later g.name.text (rest h)
    by place (Array a) h rest = later a.name.text (rest h)
    by place (TransformStruct t) h rest = rest h
    by place (TransformGlobal n v) h rest = rest h

-- a tag that is declared is one of a struct that is defined
tag_in : (text ds : List Def) (tag : Bytes) → AllSound text ds →
    ((t : Bytes) → IsTrue (is_some (members_of ds t)) → IsTrue (is_some (members_of text t))) →
    is_tag ds tag ≡ true → IsTrue (is_some (members_of text tag))
tag_in text [] tag s grows e = cc
tag_in text (d ∷ ds) tag s grows e =
    by d.place d.kind s.0 grows e (tag_in text ds tag s.1 (λ t h. grows t (more_members d ds t h)))
  where
    either : (a b : Bool) → (a || b) ≡ true → (a ≡ true) ⊎ (b ≡ true)
    either true b e = inl refl
    either false b e = inr e

    by : (place : ℕ) (k : DefKind) → Sound text k →
        ((t : Bytes) → IsTrue (is_some (members_of (record { place = place; kind = k } ∷ ds) t)) → IsTrue (is_some (members_of text t))) →
        is_tag (record { place = place; kind = k } ∷ ds) tag ≡ true →
        (is_tag ds tag ≡ true → IsTrue (is_some (members_of text tag))) → IsTrue (is_some (members_of text tag))
    by place (Struct t members) own all e rest =
        elim (either (bytes_eq tag t.text) (is_tag ds tag) e) [ inl same ↦ all tag (own_members place t members ds tag same) | inr h ↦ rest h ]
    by place (Forward t) own all e rest =
        elim (either (bytes_eq tag t.text) (is_tag ds tag) e) [
          | inl same ↦ subst (λ n. IsTrue (is_some (members_of text n))) (sym (same_bytes tag t.text same)) own
          | inr h ↦ rest h
        ]
    by place (Mutex n) own all e rest = rest e
    by place (Function f) own all e rest = rest e
    by place (Prototype p) own all e rest = rest e
    by place (Global g) own all e rest = rest e
    by place (Array a) own all e rest = rest e
    by place (TransformStruct t) own all e rest = rest e
    by place (TransformGlobal n v) own all e rest = rest e

pub tag_named : (text : List Def) (tag : Bytes) → Facts text → is_tag text tag ≡ true → Named text (struct_name tag)
tag_named text tag facts e = struct_in text tag (tag_in text text tag facts.sound (λ t h. h) e)
