-- What an object or a global of one accepted text becomes in the next one has the types of that one, where its transformers have
-- no fault.
use Rattle.std.proofs.Common.{◌≡◌, ℕ, ◌-◌, ◌⊎◌, inl, inr, Bool, true, false, ◌||◌, List, [], ◌∷◌, ◌++◌, length, take, replicate, refl, sym, ap, subst, ◌∙◌, is_some, option_and_then}
use Rattle.std.specs.Prelude.{All, Option, Some, None, IsTrue, not, find, map, flat_map, bytes_eq, option_map, unwrap_or, if◌then◌else◌}
use Rattle.std.specs.List.{list_any}
use Rattle.std.specs.Option.{option_map_or, option_or}
use Rattle.std.proofs.lemmas.List.Elements.{All-append, All-cons, All-head, All-nil, All-replicate, All-take}
use Rattle.std.proofs.lemmas.Option.{none-some, same_Some}
use Rattle.c_tree.specs.BareExpr.{Bytes, BareType, BareExpr}
use Rattle.c_tree.specs.BareStmt.{BareDeclaration}
use Rattle.c_tree.specs.BareDef.{BareBinding, BareFieldValue, BareDef, Struct, Global, Array}
use Rattle.c_tree.specs.Bare.{bare_binding, bare_def, bare_expr, bare_field_value, bare_kind, bare_type}
use Rattle.c_tree.specs.declared.name.Name.{Name}
use Rattle.c_tree.specs.declared.name.CType.{CType}
use Rattle.c_tree.specs.declared.expr.Expr.{Expr}
use Rattle.c_tree.specs.declared.def.Binding.{Binding}
use Rattle.c_tree.specs.declared.def.FieldValue.{FieldValue}
use Rattle.c_tree.specs.declared.def.Def.{Def}
use Rattle.c_tree.specs.declared.def.DefKind.{DefKind}
use Rattle.c_tree.specs.declared.def.DefKind.TheVariants as kind
use Rattle.c_definitions.specs.Lookup.{Meaning, defined, members_in, members_of as tree_members_of, struct_of}
use Rattle.c_definitions.specs.Lookup.Meaning.{AVariable, AnArray, AFunction, AMutex}
use Rattle.c_expr_types.specs.declared.fault.Fault.{Fault}
use Rattle.c_expr_types.specs.declared.fault.TypeKind.TheVariants.{DeclaredTwice}
use Rattle.c_expr_types.specs.Faults.{unless}
use Rattle.c_definitions.specs.Lookup.{member}
use Rattle.c_expr_types.specs.Expressions.{unknown_tag}
use Rattle.c_types.specs.Definitions.{bindings}
use Rattle.c_semantics.specs.Names.{struct_name}
use Rattle.c_semantics.specs.Texts.{global_type, members_of, bound}
use Rattle.c_semantics.specs.Values.{Value, zero_of, converted_to}
use Rattle.c_semantics.specs.Pieces.{Variable}
use Rattle.c_semantics.specs.Evaluation.{in_scope}
use Rattle.c_semantics.specs.Same.{same_type}
use Rattle.c_semantics.specs.Changes.{same_layout}
use Rattle.c_semantics.specs.Constants.{constant, elements, filled}
use Rattle.c_semantics.specs.Transformers.{default_field, first_cell, given_by, given_fields, given_value, new_cells, new_field, old_object, old_value, transformed, transformed_global, value_by}
use Rattle.definition_laws.proofs.SameTrees.{types}
use Rattle.patch_faults.specs.TransformTypes.{AnObject, AValue}
use Rattle.patch_faults.specs.TransformFaults.{faults_at, field_faults, global_faults, struct_faults, transform_faults, value_faults}
use Rattle.patch_faults.specs.TransformLaws.{ObjectsAreAsFound, GlobalsAreAsFound}
use Rattle.patch_faults.specs.declared.fault.TransformFault.TheVariants.{NotChanged}
use Rattle.typed_uses.proofs.SoundTexts.{Facts}
use Rattle.typed_uses.proofs.Lookups.{find_struct, itself, look, more_members, own_members, same_bytes}
use Rattle.typed_uses.proofs.Definitions.{struct_members, variable_type}
use Rattle.typed_uses.proofs.Faultless.{none_after, none_before, passes}
use Rattle.typed_trees.specs.ValueTypes.{HasType, ScopeHas}
use Rattle.typed_trees.specs.ExpressionTypes.{IsStruct}
use Rattle.typed_trees.proofs.ValuesOfTypes.{zero_has}
use Rattle.typed_transformers.specs.TransformerTypes.{CellsTyped, HasCells}
use Rattle.typed_transformers.proofs.TransformedHandles.{field_converted, global_converted}

no : false ≡ true → ⊥
no e = cc

neither : {A : Type 0} (xs ys : List A) → xs ++ ys ≡ [] → (xs ≡ []) × (ys ≡ [])
neither [] ys e = (refl, e)
neither (x ∷ xs) ys e = cc

-- ---- the fields of a struct have different names

-- the first member of a member's name is that one
abbrev Own : List Binding → Binding → Type 0
Own all b = find (λ c. bytes_eq b.name.text c.name.text) all ≡ Some b

abbrev AllOwn : List Binding → List Binding → Type 0
AllOwn all [] = Unit {0}
AllOwn all (b ∷ bs) = Own all b × AllOwn all bs

abbrev In : Bytes → List Bytes → Type 0
In n [] = ⊥
In n (m ∷ ms) = (m ≡ n) ⊎ In n ms

abbrev AllNew : Bytes → List Binding → Type 0
AllNew n [] = Unit {0}
AllNew n (b ∷ bs) = (bytes_eq b.name.text n ≡ false) × AllNew n bs

neither_test : (a b : Bool) → (a || b) ≡ false → (a ≡ false) × (b ≡ false)
neither_test false b e = (refl, e)
neither_test true b e = absurd (no (sym e))

not_among : (c n : Bytes) (before : List Bytes) → In n before → list_any (bytes_eq c) before ≡ false → bytes_eq c n ≡ false
not_among c n [] i e = absurd i
not_among c n (m ∷ ms) (inl is) e = subst (λ x. bytes_eq c x ≡ false) is (neither_test (bytes_eq c m) (list_any (bytes_eq c) ms) e).0
not_among c n (m ∷ ms) (inr i) e = not_among c n ms i (neither_test (bytes_eq c m) (list_any (bytes_eq c) ms) e).1

denied : (b : Bool) → not b ≡ true → b ≡ false
denied true e = absurd (no e)
denied false e = refl

module _ (text : List Def) where
  -- a member without faults has another name than those before it
  first_new : (before : List Bytes) (b : Binding) (bs : List Binding) → bindings text before (b ∷ bs) ≡ []
      → (list_any (bytes_eq b.name.text) before ≡ false) × (bindings text (b.name.text ∷ before) bs ≡ [])
  first_new before b bs e =
      let rest = none_after (unknown_tag text b.declared) _ e in
      let own : List Fault = unless (not (list_any (bytes_eq b.name.text) before)) DeclaredTwice b.name.place in
      (denied _ (passes (not (list_any (bytes_eq b.name.text) before)) DeclaredTwice b.name.place (none_before own _ rest)), none_after own _ rest)

  all_new : (n : Bytes) (before : List Bytes) (bs : List Binding) → In n before → bindings text before bs ≡ [] → AllNew n bs
  all_new n before [] i e = tt
  all_new n before (b ∷ bs) i e =
      let f = first_new before b bs e in
      (not_among b.name.text n before i f.0, all_new n (b.name.text ∷ before) bs (inr i) f.1)

  own_more : (b : Binding) (all bs : List Binding) → AllNew b.name.text bs → AllOwn all bs → AllOwn (b ∷ all) bs
  own_more b all [] new own = tt
  own_more b all (c ∷ cs) new own = (
    ap (λ x. if x then Some b else find (λ d. bytes_eq c.name.text d.name.text) all) new.0 ∙ own.0,
    own_more b all cs new.1 own.1,
  )

  all_own : (before : List Bytes) (bs : List Binding) → bindings text before bs ≡ [] → AllOwn bs bs
  all_own before [] e = tt
  all_own before (b ∷ bs) e =
      let f = first_new before b bs e in (
        ap (λ x. if x then Some b else find (λ d. bytes_eq b.name.text d.name.text) bs) (itself b.name.text),
        own_more b bs bs (all_new b.name.text (b.name.text ∷ before) bs (inl refl) f.1) (all_own (b.name.text ∷ before) bs f.1),
      )

-- ---- the values that a transformer gives

-- a value for a field, without faults
record GivenFits (q : List Def) (old new : List Binding) (v : BareFieldValue) : Type 0 where
  tree : FieldValue
  is : v ≡ bare_field_value tree
  faultless : field_faults q old new tree ≡ []

abbrev AllFit : List Def → List Binding → List Binding → List BareFieldValue → Type 0
AllFit q old new [] = Unit {0}
AllFit q old new (v ∷ vs) = GivenFits q old new v × AllFit q old new vs

all_fit : (q : List Def) (old new : List Binding) (vs : List FieldValue) → flat_map (field_faults q old new) vs ≡ []
    → AllFit q old new (map bare_field_value vs)
all_fit q old new [] e = tt
all_fit q old new (v ∷ vs) e =
    let both = neither (field_faults q old new v) (flat_map (field_faults q old new) vs) e in
    (record { tree = v; is = refl; faultless = both.0 }, all_fit q old new vs both.1)

found_fits : (q : List Def) (old new : List Binding) (test : BareFieldValue → Bool) (vs : List BareFieldValue) (v : BareFieldValue)
    → AllFit q old new vs → find test vs ≡ Some v → GivenFits q old new v × (test v ≡ true)
found_fits q old new test [] v fit e = absurd (none-some v e)
found_fits q old new test (x ∷ xs) v fit e = by (test x) refl (found_fits q old new test xs v fit.1) e
  where
    by : (b : Bool) → test x ≡ b → (find test xs ≡ Some v → GivenFits q old new v × (test v ≡ true))
        → (if b then Some x else find test xs) ≡ Some v → GivenFits q old new v × (test v ≡ true)
    by true is rest e =
        let same = same_Some x v e in (subst (GivenFits q old new) same fit.0, subst (λ y. test y ≡ true) same is)
    by false is rest e = rest e

-- the transformer of a struct that both texts have, whose values have no faults
record Given (p q : List Def) (tag : Bytes) (vs : List BareFieldValue) : Type 0 where
  old : List Binding
  new : List Binding
  in_old : tree_members_of p tag ≡ Some old
  in_new : tree_members_of q tag ≡ Some new
  fit : AllFit q old new vs

module _ (p q : List Def) (tag : Bytes) where
  abbrev Gives : List BareFieldValue → Type 0
  Gives vs = (vs ≡ []) ⊎ Given p q tag vs

  struct_given : (place : ℕ) (vs : List FieldValue) (o u : Option (List Binding)) → tree_members_of p tag ≡ o → tree_members_of q tag ≡ u
      → struct_faults q place o u vs ≡ [] → Given p q tag (map bare_field_value vs)
  struct_given place vs (Some old) (Some new) is are e = by (same_layout (map bare_binding old) (map bare_binding new)) e
    where
      by : (b : Bool) → (if b then NotChanged place ∷ [] else flat_map (field_faults q old new) vs) ≡ [] → Given p q tag (map bare_field_value vs)
      by true e = cc
      by false e = record { old = old; new = new; in_old = is; in_new = are; fit = all_fit q old new vs e }
  struct_given place vs (Some old) None is are e = cc
  struct_given place vs None u is are e = cc

  gives : (ds : List Def) → flat_map (λ d. faults_at p q d.place d.kind) ds ≡ [] → Gives (given_fields (map bare_def ds) tag)
  gives [] e = inl refl
  gives (d ∷ ds) e =
      let both = neither (faults_at p q d.place d.kind) (flat_map (λ d. faults_at p q d.place d.kind) ds) e in
      by d.place d.kind (gives ds both.1) both.0
    where
      named : (place : ℕ) (name : Bytes) (vs : List FieldValue) (b : Bool) → bytes_eq tag name ≡ b → Gives (given_fields (map bare_def ds) tag)
          → struct_faults q place (tree_members_of p name) (tree_members_of q name) vs ≡ []
          → Gives (unwrap_or (if b then Some (map bare_field_value vs) else None) (given_fields (map bare_def ds) tag))
      named place name vs true is rest e =
          inr (struct_given place vs (tree_members_of p tag) (tree_members_of q tag) refl refl
          (subst (λ n. struct_faults q place (tree_members_of p n) (tree_members_of q n) vs ≡ []) (sym (same_bytes tag name is)) e))
      named place name vs false is rest e = rest

      by : (place : ℕ) (k : DefKind) → Gives (given_fields (map bare_def ds) tag) → faults_at p q place k ≡ []
          → Gives (unwrap_or (given_by tag (bare_kind k)) (given_fields (map bare_def ds) tag))
      by place (kind.TransformStruct t) rest e = named place t.name.text t.values (bytes_eq tag t.name.text) refl rest e
      by place (kind.Struct name members) rest e = rest
      by place (kind.Forward name) rest e = rest
      by place (kind.Mutex name) rest e = rest
      by place (kind.Function f) rest e = rest
      by place (kind.Prototype f) rest e = rest
      by place (kind.Global g) rest e = rest
      by place (kind.Array a) rest e = rest
      by place (kind.TransformGlobal name v) rest e = rest

-- a struct of a text by its members, and the other way round
abbrev There : List Def → Bytes → ℕ → DefKind → Type 0
There ds tag place k = IsTrue (is_some (tree_members_of (record { place = place; kind = k } ∷ ds) tag))

struct_there : (ds : List Def) (tag : Bytes) → IsStruct (look ds (struct_name tag)) → IsTrue (is_some (tree_members_of ds tag))
struct_there [] tag h = absurd h
struct_there (d ∷ ds) tag h = by d.place d.kind (λ g. more_members d ds tag (struct_there ds tag g)) h
  where
    struct : (place : ℕ) (t : Name) (members : List Binding) (b : Bool) → bytes_eq tag t.text ≡ b
        → (IsStruct (look ds (struct_name tag)) → There ds tag place (kind.Struct t members))
        → IsStruct (if b then Some (bare_kind (kind.Struct t members)) else look ds (struct_name tag)) → There ds tag place (kind.Struct t members)
    struct place t members true is rest h = own_members place t members ds tag is
    struct place t members false is rest h = rest h

    other : (place : ℕ) (k : DefKind) (b : Bool) → (IsStruct (Some (bare_kind k)) → ⊥) → (IsStruct (look ds (struct_name tag)) → There ds tag place k)
        → IsStruct (if b then Some (bare_kind k) else look ds (struct_name tag)) → There ds tag place k
    other place k true none rest h = absurd (none h)
    other place k false none rest h = rest h

    by : (place : ℕ) (k : DefKind) → (IsStruct (look ds (struct_name tag)) → There ds tag place k)
        → IsStruct (look (record { place = place; kind = k } ∷ ds) (struct_name tag)) → There ds tag place k
    by place (kind.Struct t members) rest h = struct place t members (bytes_eq tag t.text) refl rest h
    by place (kind.Forward t) rest h = rest h
    by place (kind.Mutex n) rest h = other place (kind.Mutex n) (bytes_eq (struct_name tag) n.text) (λ x. x) rest h
    by place (kind.Function f) rest h = other place (kind.Function f) (bytes_eq (struct_name tag) f.name.text) (λ x. x) rest h
    by place (kind.Prototype f) rest h = rest h
    by place (kind.Global g) rest h = other place (kind.Global g) (bytes_eq (struct_name tag) g.name.text) (λ x. x) rest h
    by place (kind.Array a) rest h = other place (kind.Array a) (bytes_eq (struct_name tag) a.name.text) (λ x. x) rest h
    by place (kind.TransformStruct t) rest h = rest h
    by place (kind.TransformGlobal n v) rest h = rest h

struct_is : (ds : List Def) (tag : Bytes) (members : List Binding) → Facts ds → tree_members_of ds tag ≡ Some members
    → IsStruct (look ds (struct_name tag))
struct_is ds tag members facts is =
    subst IsStruct (sym (find_struct ds tag (facts.apart tag (ap is_some is)))) (by (struct_of ds tag) is)
  where
    of_kind : (k : DefKind) → members_in k ≡ Some members → IsStruct (Some (bare_kind k))
    of_kind (kind.Struct t ms) e = tt
    of_kind (kind.Forward t) e = cc
    of_kind (kind.Mutex n) e = cc
    of_kind (kind.Function f) e = cc
    of_kind (kind.Prototype f) e = cc
    of_kind (kind.Global g) e = cc
    of_kind (kind.Array a) e = cc
    of_kind (kind.TransformStruct t) e = cc
    of_kind (kind.TransformGlobal n v) e = cc

    by : (o : Option Def) → option_and_then (λ d. members_in d.kind) o ≡ Some members → IsStruct (option_map bare_def o)
    by None e = cc
    by (Some d) e = of_kind d.kind e

-- ---- fields

module _ (tags : List Bytes) where
  of_same_type : (t u : BareType) (v : Value) → same_type t u ≡ true → HasType tags t v → HasType tags u v
  of_same_type t u v e h = subst (λ x. HasType tags x v) (types t u e) h

  -- a field of a layout and the value of that name are both there, and of one type, or neither is
  abbrev Meet : Option BareBinding → Option Value → Type 0
  Meet None None = Unit {0}
  Meet (Some b) (Some v) = HasType tags b.declared v
  Meet _ _ = ⊥

  meet : (layout : List BareBinding) (fields : List Variable) (name : Bytes) → ScopeHas tags layout fields
      → Meet (bound layout name) (in_scope fields name)
  meet [] [] name h = tt
  meet [] (v ∷ vs) name h = absurd h
  meet (b ∷ bs) [] name h = absurd h
  meet (b ∷ bs) (v ∷ vs) name h =
      subst
      (λ n. Meet (bound (b ∷ bs) name) (option_map (λ w. w.value) (if bytes_eq name n then Some v else find (λ w. bytes_eq name w.name) vs)))
      (sym h.0) (by_test (meet bs vs name h.2) (bytes_eq name b.name))
    where
      by_test : Meet (bound bs name) (in_scope vs name) → (t : Bool)
          → Meet (if t then Some b else bound bs name) (option_map (λ w. w.value) (if t then Some v else find (λ w. bytes_eq name w.name) vs))
      by_test more true = h.1
      by_test more false = more

  default_by : (t : BareType) (o : Option BareBinding) (w : Option Value) → Meet o w
      → HasType tags t (if option_map_or (λ b. same_type b.declared t) o false then unwrap_or w (zero_of t) else zero_of t)
  default_by t None w h = zero_has tags t
  default_by t (Some b) None h = absurd h
  default_by t (Some b) (Some v) h = by_test (same_type b.declared t) refl
    where
      by_test : (s : Bool) → same_type b.declared t ≡ s → HasType tags t (if s then v else zero_of t)
      by_test true e = of_same_type b.declared t v e h
      by_test false e = zero_has tags t

  -- a field without a transformer, also where what was of the name is no struct
  default_typed : (o : Option BareDef) (fields : List Variable) (b : BareBinding) → (IsStruct o → ScopeHas tags (members_of o) fields)
      → HasType tags b.declared (default_field (members_of o) fields b)
  default_typed (Some (Struct tag layout)) fields b h =
      default_by b.declared (bound layout b.name) (in_scope fields b.name) (meet layout fields b.name (h tt))
  default_typed _ fields b h = zero_has tags b.declared

  fields_of : (value : BareBinding → Value) (all : List Binding) → ((b : Binding) → Own all b → HasType tags (bare_type b.declared) (value (bare_binding b)))
      → (bs : List Binding) → AllOwn all bs
      → ScopeHas tags (map bare_binding bs) (map (λ b. record { name = b.name; value = value b }) (map bare_binding bs))
  fields_of value all h [] own = tt
  fields_of value all h (b ∷ bs) own = (refl, h b own.0, fields_of value all h bs own.1)

  module _ (objects_are_as_found : ObjectsAreAsFound) (p q : List Def) (old_facts : Facts p) (tag : Bytes) (fields : List Variable)
      (h : IsStruct (look p (struct_name tag)) → ScopeHas tags (members_of (look p (struct_name tag))) fields) where
    abbrev layout : List BareBinding
    layout = members_of (look p (struct_name tag))

    -- a field that the transformer gives, or that it doesn't
    given_typed : (vs : List BareFieldValue) (g : Given p q tag vs) (b : Binding) → Own g.new b
        → HasType tags (bare_type b.declared) (new_field layout fields vs (bare_binding b))
    given_typed vs g b own = by (find (λ v. bytes_eq b.name.text v.field) vs) refl
      where
        old_typed : ScopeHas tags (map bare_binding g.old) fields
        old_typed =
            subst (λ ms. ScopeHas tags ms fields) (struct_members p tag g.old old_facts g.in_old).0 (h (struct_is p tag g.old old_facts g.in_old))

        faultless : (tree : FieldValue) → bytes_eq b.name.text tree.field.text ≡ true → field_faults q g.old g.new tree ≡ []
            → value_faults q (AnObject g.old) b.declared tree.value ≡ []
        faultless tree same e =
            subst (λ o. option_map_or (λ t. value_faults q (AnObject g.old) t tree.value) (option_map (λ c. c.declared) o) [] ≡ []) own
            (subst (λ n. option_map_or (λ t. value_faults q (AnObject g.old) t tree.value) (member g.new n) [] ≡ [])
            (sym (same_bytes b.name.text tree.field.text same)) e)

        given_value_typed : (v : BareFieldValue) → GivenFits q g.old g.new v → bytes_eq b.name.text v.field ≡ true
            → HasType tags (bare_type b.declared) (converted_to (bare_type b.declared) (constant (old_object fields) v.value))
        given_value_typed v fits same =
            subst (λ x. HasType tags (bare_type b.declared) (converted_to (bare_type b.declared) (constant (old_object fields) x.value))) (sym fits.is)
            (field_converted tags objects_are_as_found q g.old fields b.declared fits.tree.value old_typed
            (faultless fits.tree (subst (λ x. bytes_eq b.name.text x.field ≡ true) fits.is same) fits.faultless))

        by : (o : Option BareFieldValue) → find (λ v. bytes_eq b.name.text v.field) vs ≡ o
            → HasType tags (bare_type b.declared)
            (option_map_or (λ v. converted_to (bare_type b.declared) (constant (old_object fields) v.value)) o (default_field layout fields (bare_binding b)))
        by None e = default_typed (look p (struct_name tag)) fields (bare_binding b) h
        by (Some v) e =
            let found = found_fits q g.old g.new (λ v. bytes_eq b.name.text v.field) vs v g.fit e in
            given_value_typed v found.0 found.1

    abbrev all_given : List BareFieldValue
    all_given = given_fields (map bare_def q) tag

    pub fields_typed : Facts q → transform_faults p q ≡ [] → IsStruct (look q (struct_name tag))
        → ScopeHas tags (members_of (look q (struct_name tag))) (transformed (map bare_def p) (map bare_def q) tag fields)
    fields_typed new_facts e struct = by (tree_members_of q tag) refl (struct_there q tag struct)
      where
        whole : (new : List Binding) → tree_members_of q tag ≡ Some new → (g : Gives p q tag all_given) → (b : Binding) → Own new b
            → HasType tags (bare_type b.declared) (new_field layout fields all_given (bare_binding b))
        whole new is (inl none) b own =
            subst (λ xs. HasType tags (bare_type b.declared) (new_field layout fields xs (bare_binding b))) (sym none)
            (default_typed (look p (struct_name tag)) fields (bare_binding b) h)
        whole new is (inr g) b own =
            given_typed all_given g b (subst (λ ms. Own ms b) (same_Some new g.new (sym is ∙ g.in_new)) own)

        by : (o : Option (List Binding)) → tree_members_of q tag ≡ o → IsTrue (is_some o)
            → ScopeHas tags (members_of (look q (struct_name tag))) (transformed (map bare_def p) (map bare_def q) tag fields)
        by None is there = absurd (no there)
        by (Some new) is there =
            let members = struct_members q tag new new_facts is in
            subst (λ ms. ScopeHas tags ms (map (λ b. record { name = b.name; value = new_field layout fields all_given b }) ms)) (sym members.0)
            (fields_of (new_field layout fields all_given) new (whole new is (gives p q tag q e)) new (all_own q [] new members.1))

-- ---- cells

-- the transformer of a global, without faults
record GivenValue (p q : List Def) (name : Bytes) (e : BareExpr) : Type 0 where
  tree : Expr
  is : e ≡ bare_expr tree
  place : ℕ
  faultless : global_faults q place (defined p name) (defined q name) tree ≡ []

module _ (p q : List Def) (name : Bytes) where
  value_given : (ds : List Def) (e : BareExpr) → flat_map (λ d. faults_at p q d.place d.kind) ds ≡ []
      → given_value (map bare_def ds) name ≡ Some e → GivenValue p q name e
  value_given [] e none is = absurd (none-some e is)
  value_given (d ∷ ds) e none is =
      let both = neither (faults_at p q d.place d.kind) (flat_map (λ d. faults_at p q d.place d.kind) ds) none in
      by d.place d.kind (value_given ds e both.1) both.0 is
    where
      named : (place : ℕ) (other : Bytes) (tree : Expr) (b : Bool) → bytes_eq name other ≡ b
          → (given_value (map bare_def ds) name ≡ Some e → GivenValue p q name e)
          → global_faults q place (defined p other) (defined q other) tree ≡ []
          → option_or (if b then Some (bare_expr tree) else None) (given_value (map bare_def ds) name) ≡ Some e → GivenValue p q name e
      named place other tree true same rest none is = record {
        tree = tree;
        is = sym (same_Some (bare_expr tree) e is);
        place = place;
        faultless = subst (λ n. global_faults q place (defined p n) (defined q n) tree ≡ []) (sym (same_bytes name other same)) none;
      }
      named place other tree false same rest none is = rest is

      by : (place : ℕ) (k : DefKind) → (given_value (map bare_def ds) name ≡ Some e → GivenValue p q name e) → faults_at p q place k ≡ []
          → option_or (value_by name (bare_kind k)) (given_value (map bare_def ds) name) ≡ Some e → GivenValue p q name e
      by place (kind.TransformGlobal other tree) rest none is = named place other.text tree (bytes_eq name other.text) refl rest none is
      by place (kind.TransformStruct t) rest none is = rest is
      by place (kind.Struct tag members) rest none is = rest is
      by place (kind.Forward tag) rest none is = rest is
      by place (kind.Mutex n) rest none is = rest is
      by place (kind.Function f) rest none is = rest is
      by place (kind.Prototype f) rest none is = rest is
      by place (kind.Global g) rest none is = rest is
      by place (kind.Array a) rest none is = rest is

-- both texts have the variable, and the value has no fault
record Variables (p q : List Def) (name : Bytes) (tree : Expr) : Type 0 where
  old : CType
  new : CType
  in_old : defined p name ≡ Some (AVariable old)
  in_new : defined q name ≡ Some (AVariable new)
  faultless : value_faults q (AValue old) new tree ≡ []

variables_of : (p q : List Def) (name : Bytes) (place : ℕ) (tree : Expr) (o u : Option Meaning) → defined p name ≡ o → defined q name ≡ u
    → global_faults q place o u tree ≡ [] → Variables p q name tree
variables_of p q name place tree (Some (AVariable old)) (Some (AVariable new)) is are e = by (same_type (bare_type old) (bare_type new)) e
  where
    by : (b : Bool) → (if b then NotChanged place ∷ [] else value_faults q (AValue old) new tree) ≡ [] → Variables p q name tree
    by true e = cc
    by false e = record { old = old; new = new; in_old = is; in_new = are; faultless = e }
variables_of p q name place tree (Some (AVariable old)) None is are e = cc
variables_of p q name place tree (Some (AVariable old)) (Some (AnArray t)) is are e = cc
variables_of p q name place tree (Some (AVariable old)) (Some (AFunction r ts)) is are e = cc
variables_of p q name place tree (Some (AVariable old)) (Some AMutex) is are e = cc
variables_of p q name place tree None u is are e = cc
variables_of p q name place tree (Some (AnArray t)) u is are e = cc
variables_of p q name place tree (Some (AFunction r ts)) u is are e = cc
variables_of p q name place tree (Some AMutex) u is are e = cc

module _ (tags : List Bytes) where
  pub filled_typed : (t : BareType) (n : ℕ) (cells : List Value) → All (HasType tags t) cells → All (HasType tags t) (filled t n cells)
  filled_typed t n cells h =
      All-append (HasType tags t) (take n cells) (replicate (n - length cells) (zero_of t)) (All-take (HasType tags t) n cells h)
      (All-replicate (HasType tags t) (n - length cells) (zero_of t) (zero_has tags t))

  one_typed : (t : BareType) (v : Value) → HasType tags t v → All (HasType tags t) (v ∷ [])
  one_typed t v h = All-cons (HasType tags t) v [] h (All-nil (HasType tags t))

  kept_typed : (t u : BareType) (cells : List Value) → All (HasType tags t) cells → (s : Bool) → same_type t u ≡ s
      → All (HasType tags u) (if s then cells else [])
  kept_typed t u cells h true e = subst (λ x. All (HasType tags x) cells) (types t u e) h
  kept_typed t u cells h false e = All-nil (HasType tags u)

  cells_by : (a b : Option BareDef) (given : Option BareExpr) (cells : List Value) → CellsTyped tags a cells
      → ((c d : BareDeclaration) (e : BareExpr) → a ≡ Some (Global c) → b ≡ Some (Global d) → given ≡ Some e
      → HasType tags d.declared (converted_to d.declared (constant (old_value (first_cell cells)) e)))
      → All (HasType tags (global_type b)) (new_cells a b given cells)
  cells_by (Some (Global c)) (Some (Global d)) (Some e) cells h given = one_typed d.declared _ (given c d e refl refl refl)
  cells_by (Some (Array t name n initial)) (Some (Array u other m values)) given cells h k =
      filled_typed u (elements m) (if same_type t u then cells else []) (kept_typed t u cells (h.typed tt) (same_type t u) refl)
  cells_by _ (Some (Global d)) given cells h k = one_typed d.declared (zero_of d.declared) (zero_has tags d.declared)
  cells_by _ (Some (Array u other m values)) given cells h k = filled_typed u (elements m) [] (All-nil (HasType tags u))
  cells_by a b given cells h k = All-nil (HasType tags (global_type b))

  pub cells_typed : GlobalsAreAsFound → (p q : List Def) (name : Bytes) (cells : List Value) → Facts p → Facts q → transform_faults p q ≡ []
      → CellsTyped tags (look p name) cells
      → All (HasType tags (global_type (look q name))) (transformed_global (map bare_def p) (map bare_def q) name cells)
  cells_typed globals_are_as_found p q name cells old_facts new_facts none h =
      cells_by (look p name) (look q name) (given_value (map bare_def q) name) cells h given
    where
      given : (c d : BareDeclaration) (e : BareExpr) → look p name ≡ Some (Global c) → look q name ≡ Some (Global d)
          → given_value (map bare_def q) name ≡ Some e → HasType tags d.declared (converted_to d.declared (constant (old_value (first_cell cells)) e))
      given c d e was now gave =
          subst (λ x. HasType tags d.declared (converted_to d.declared (constant (old_value (first_cell cells)) x))) (sym g.is)
          (subst (λ t. HasType tags t (converted_to t (constant (old_value (first_cell cells)) (bare_expr g.tree)))) (sym new_type)
          (global_converted tags globals_are_as_found q v.new v.old (first_cell cells) g.tree
          (subst (λ t. HasType tags t (first_cell cells)) old_type first_typed) v.faultless))
        where
          g : GivenValue p q name e
          g = value_given p q name q e none gave

          v : Variables p q name g.tree
          v = variables_of p q name g.place g.tree (defined p name) (defined q name) refl refl g.faultless

          old_type : c.declared ≡ bare_type v.old
          old_type = ap global_type (sym was) ∙ (variable_type p name v.old old_facts v.in_old).is

          new_type : d.declared ≡ bare_type v.new
          new_type = ap global_type (sym now) ∙ (variable_type q name v.new new_facts v.in_new).is

          first_typed : HasType tags c.declared (first_cell cells)
          first_typed =
              let one = h.one c was in
              subst (λ vs. HasType tags c.declared (first_cell vs)) (sym one.1)
              (All-head (HasType tags c.declared) one.0 [] (subst (All (HasType tags c.declared)) one.1
              (subst (λ o. HasCells o → All (HasType tags (global_type o)) cells) was h.typed tt)))
