-- What a name of a text stands for says what its definition is.
use Rattle.std.proofs.Common.{◌≡◌, ℕ, Bool, true, false, IsTrue, cond, ◌⊎◌, ◌||◌, inl, inr, List, [], ◌∷◌, map, Option, Some, None, is_some, find, option_map, option_and_then, bytes_eq, refl, sym, ap, subst, ◌∙◌}
use Rattle.c_tree.specs.BareExpr.{Bytes}
use Rattle.c_tree.specs.BareDef.{BareBinding, BareDef}
use Rattle.c_tree.specs.BareDef as bare_d
use Rattle.c_tree.specs.Bare.{bare_binding, bare_block, bare_def, bare_kind, bare_stmt, bare_type}
use Rattle.c_tree.specs.declared.name.CType.{CType}
use Rattle.c_tree.specs.declared.def.Binding.{Binding}
use Rattle.c_tree.specs.declared.def.Def.{Def}
use Rattle.c_tree.specs.declared.def.DefKind.{DefKind}
use Rattle.c_tree.specs.declared.def.DefKind.TheVariants.{Struct, Forward, Mutex, Function, Prototype, Global, Array, TransformStruct, TransformGlobal}
use Rattle.c_tree.specs.declared.def.Function.{Function as FunctionTree}
use Rattle.c_scope.specs.Tables.{innermost}
use Rattle.c_definitions.specs.Lookup.{Meaning, Names, defined, definition_of, hidden_by, is_tag, meaning_in, meaning_of, members_in, members_of, struct_of, types_of}
use Rattle.c_definitions.specs.Lookup.Meaning.{AVariable, AnArray, AFunction, AMutex}
use Rattle.c_definitions.specs.Lookup.{member}
use Rattle.c_semantics.specs.Names.{struct_name}
use Rattle.c_semantics.specs.Texts.{bound, parameters_of, result_type}
use Rattle.typed_uses.proofs.SoundTexts.{AllSound, Facts, Sound}
use Rattle.typed_uses.proofs.Lookups.{find_struct, found_as, look, more_members, own_members, same_bytes}
use Rattle.typed_trees.specs.ExpressionTypes.{IsArray, IsFunction, IsMutex, IsStruct, IsVariable}

-- what holds of each definition of a meaning holds of the one that is found
of_meaning : (text : List Def) (name : Bytes) (m : Meaning) (P : Option BareDef → Type 0) → Facts text → defined text name ≡ Some m
    → ((k : DefKind) → meaning_in k ≡ Some m → P (Some (bare_kind k))) → P (look text name)
of_meaning text name m P facts is each =
    subst P (sym (found_as text name m facts is)) (by (definition_of text name) is)
  where
    by : (o : Option Def) → option_and_then (λ d. meaning_in d.kind) o ≡ Some m → P (option_map bare_def o)
    by None e = cc
    by (Some d) e = each d.kind e

-- a name that is no variable's of a block is one of the text's
pub outer_named : (names : Names) (name : Bytes) (m : Meaning) → ((t : CType) → m ≡ AVariable t → ⊥) → meaning_of names name ≡ Some m
    → defined names.text name ≡ Some m
outer_named names name m other e = by (innermost names.scopes name) e
  where
    by : (i : Option CType) → hidden_by i (defined names.text name) ≡ Some m → defined names.text name ≡ Some m
    by None e = e
    by (Some t) e = absurd (other t (inside e))
      where
        inside : Some (AVariable t) ≡ Some m → m ≡ AVariable t
        inside e = cc

pub variable_named : (text : List Def) (name : Bytes) (t : CType) → Facts text → defined text name ≡ Some (AVariable t) → IsVariable (look text name)
variable_named text name t facts is = of_meaning text name (AVariable t) IsVariable facts is by
  where
    by : (k : DefKind) → meaning_in k ≡ Some (AVariable t) → IsVariable (Some (bare_kind k))
    by (Struct tag members) e = cc
    by (Forward tag) e = cc
    by (Mutex n) e = cc
    by (Function f) e = cc
    by (Prototype p) e = cc
    by (Global d) e = tt
    by (Array a) e = cc
    by (TransformStruct x) e = cc
    by (TransformGlobal n v) e = cc

pub array_named : (text : List Def) (name : Bytes) (t : CType) → Facts text → defined text name ≡ Some (AnArray t) → IsArray (look text name)
array_named text name t facts is = of_meaning text name (AnArray t) IsArray facts is by
  where
    by : (k : DefKind) → meaning_in k ≡ Some (AnArray t) → IsArray (Some (bare_kind k))
    by (Struct tag members) e = cc
    by (Forward tag) e = cc
    by (Mutex n) e = cc
    by (Function f) e = cc
    by (Prototype p) e = cc
    by (Global d) e = cc
    by (Array a) e = tt
    by (TransformStruct x) e = cc
    by (TransformGlobal n v) e = cc

pub mutex_named : (text : List Def) (name : Bytes) → Facts text → defined text name ≡ Some AMutex → IsMutex (look text name)
mutex_named text name facts is = of_meaning text name AMutex IsMutex facts is by
  where
    by : (k : DefKind) → meaning_in k ≡ Some AMutex → IsMutex (Some (bare_kind k))
    by (Struct tag members) e = cc
    by (Forward tag) e = cc
    by (Mutex n) e = tt
    by (Function f) e = cc
    by (Prototype p) e = cc
    by (Global d) e = cc
    by (Array a) e = cc
    by (TransformStruct x) e = cc
    by (TransformGlobal n v) e = cc

-- a function, with the types of its parameters and its result
pub record FunctionNamed (r : Option CType) (ts : List CType) (d : Option BareDef) : Type 0 where
  pub function : IsFunction d
  pub bindings : List Binding
  pub parameters : parameters_of d ≡ map bare_binding bindings
  pub types : ts ≡ types_of bindings
  pub result : (t : CType) → r ≡ Some t → result_type d ≡ bare_type t

pub function_named : (text : List Def) (name : Bytes) (r : Option CType) (ts : List CType) → Facts text
    → defined text name ≡ Some (AFunction r ts) → FunctionNamed r ts (look text name)
function_named text name r ts facts is = of_meaning text name (AFunction r ts) (FunctionNamed r ts) facts is by
  where
    gives : (f : FunctionTree) (t : CType) → f.result ≡ Some t → result_type (Some (bare_kind (Function f))) ≡ bare_type t
    gives f t e = own f.result e
      where
        own : (o : Option CType) → o ≡ Some t → result_type (Some (bare_d.Function (option_map bare_type o) f.name.text (map bare_binding f.parameters) (bare_block (map bare_stmt f.body)))) ≡ bare_type t
        own None e = cc
        own (Some u) e = ap bare_type (inside e)
          where
            inside : Some u ≡ Some t → u ≡ t
            inside e = cc

    by : (k : DefKind) → meaning_in k ≡ Some (AFunction r ts) → FunctionNamed r ts (Some (bare_kind k))
    by (Struct tag members) e = cc
    by (Forward tag) e = cc
    by (Mutex n) e = cc
    by (Function f) e =
        let result_is : f.result ≡ r = cc in
        let types_are : types_of f.parameters ≡ ts = cc in
        record {
          function = tt;
          bindings = f.parameters;
          parameters = refl;
          types = sym types_are;
          result = λ t is. gives f t (result_is ∙ is);
        }
    by (Prototype p) e = cc
    by (Global d) e = cc
    by (Array a) e = cc
    by (TransformStruct x) e = cc
    by (TransformGlobal n v) e = cc

-- ---- structs

-- a tag that is declared is that of a struct that is defined
tag_defined : (text ds : List Def) (tag : Bytes) → AllSound text ds
    → ((t : Bytes) → IsTrue (is_some (members_of ds t)) → IsTrue (is_some (members_of text t)))
    → is_tag ds tag ≡ true → IsTrue (is_some (members_of text tag))
tag_defined text [] tag s grows e = cc
tag_defined text (d ∷ ds) tag s grows e =
    by d.place d.kind s.0 grows e (tag_defined text ds tag s.1 (λ t h. grows t (more_members d ds t h)))
  where
    either : (a b : Bool) → (a || b) ≡ true → (a ≡ true) ⊎ (b ≡ true)
    either true b e = inl refl
    either false b e = inr e

    by : (place : ℕ) (k : DefKind) → Sound text k
        → ((t : Bytes) → IsTrue (is_some (members_of (record { place = place; kind = k } ∷ ds) t)) → IsTrue (is_some (members_of text t)))
        → is_tag (record { place = place; kind = k } ∷ ds) tag ≡ true
        → (is_tag ds tag ≡ true → IsTrue (is_some (members_of text tag))) → IsTrue (is_some (members_of text tag))
    by place (Struct t members) own all e rest =
        elim (either (bytes_eq tag t.text) (is_tag ds tag) e) [ inl same ↦ all tag (own_members place t members ds tag same) | inr h ↦ rest h ]
    by place (Forward t) own all e rest =
        elim (either (bytes_eq tag t.text) (is_tag ds tag) e) [
          | inl same ↦ subst (λ n. IsTrue (is_some (members_of text n))) (sym (same_bytes tag t.text same)) own
          | inr h ↦ rest h
        ]
    by place (Mutex n) own all e rest = rest e
    by place (Function f) own all e rest = rest e
    by place (Prototype p) own all e rest = rest e
    by place (Global g) own all e rest = rest e
    by place (Array a) own all e rest = rest e
    by place (TransformStruct t) own all e rest = rest e
    by place (TransformGlobal n v) own all e rest = rest e

pub struct_named : (text : List Def) (tag : Bytes) → Facts text → is_tag text tag ≡ true → IsStruct (look text (struct_name tag))
struct_named text tag facts e =
    let there = tag_defined text text tag facts.sound (λ t h. h) e in
    subst IsStruct (sym (find_struct text tag (facts.apart tag there))) (by (struct_of text tag) there)
  where
    of_kind : (k : DefKind) → IsTrue (is_some (members_in k)) → IsStruct (Some (bare_kind k))
    of_kind (Struct t members) h = tt
    of_kind (Forward t) h = cc
    of_kind (Mutex n) h = cc
    of_kind (Function f) h = cc
    of_kind (Prototype p) h = cc
    of_kind (Global d) h = cc
    of_kind (Array a) h = cc
    of_kind (TransformStruct x) h = cc
    of_kind (TransformGlobal n v) h = cc

    by : (o : Option Def) → IsTrue (is_some (option_and_then (λ d. members_in d.kind) o)) → IsStruct (option_map bare_def o)
    by None h = cc
    by (Some d) h = of_kind d.kind h

-- a member that is found is bound
pub member_bound : (members : List Binding) (name : Bytes) (t : CType) → member members name ≡ Some t
    → IsTrue (is_some (bound (map bare_binding members) name))
member_bound [] name t e = cc
member_bound (b ∷ bs) name t e = by (bytes_eq name b.name.text) e (member_bound bs name t)
  where
    by : (x : Bool) → option_map (λ c. c.declared) (cond x (Some b) (find (λ c. bytes_eq name c.name.text) bs)) ≡ Some t
        → (member bs name ≡ Some t → IsTrue (is_some (bound (map bare_binding bs) name)))
        → IsTrue (is_some (cond x (Some (bare_binding b)) (bound (map bare_binding bs) name)))
    by true e rest = refl
    by false e rest = rest e
