-- The fields of objects at an install.
use Rattle.std.proofs.Common.{◌≡◌, ℕ, zero, suc, ◌+◌, ◌<◌, ◌≤◌, Bool, true, false, not, ◌&&◌, if◌then◌else◌, List, [], ◌∷◌, ◌++◌, length, map, get_or, take, drop, Option, Some, None, All, is_some, bytes_eq, refl, sym, ap, subst, ◌∙◌, arith}
use Rattle.std.proofs.lemmas.List.{get_or-map, length-map, map-append}
use Rattle.std.proofs.lemmas.Slice.Eq.{bytes_eq-Decides}
use Rattle.name_sets.specs.NameLists.{is_among}
use Rattle.c_tree.specs.BareExpr.{Bytes}
use Rattle.c_tree.specs.BareDef.{BareBinding, BareDef}
use Rattle.c_tree.specs.BareDef as bare
use Rattle.c_definitions.specs.Index.{is_key}
use Rattle.c_semantics.specs.Changes.{agree, same_interface}
use Rattle.c_semantics.specs.Names.{struct_name}
use Rattle.c_semantics.specs.Pieces.{Variable}
use Rattle.c_semantics.specs.Texts.{definition, members_of}
use Rattle.c_semantics.specs.Transformers.{given_fields, new_field, transformed, zero_fields}
use Rattle.c_semantics.specs.Values.{Value as Seen}
use Rattle.source_model.specs.Worlds as world
use Rattle.source_model.specs.Installs.{brought, brought_by}
use Rattle.version_laws.specs.Fitting.{Fits}
use Rattle.versioned_structs.specs.declared.transform.FieldChange.{FieldChange}
use Rattle.versioned_structs.specs.Transforms.{layout_in, variables, IsTransformOf}
use Rattle.type_transformers.specs.declared.change.Change.{Change}
use Rattle.type_transformers.specs.declared.change.Change.TheVariants as change
use Rattle.type_transformers.specs.Changes.{changing, has_cells, has_data, is_struct, name_of, IsChange}
use Rattle.resolved_tree.specs.Nodes.{Table}
use Rattle.local_evaluation.specs.Values.{seen}
use Rattle.source_data.specs.declared.store.Field.{Field}
use Rattle.source_programs.specs.declared.definition.Binding.{Binding}
use Rattle.source_programs.specs.Definitions.{binding_of, bindings_of}
use Rattle.local_evaluation.specs.declared.value.Value.{Value}
use Rattle.source_data.specs.Stores.{field_of, fields_of}
use Rattle.source_install.specs.declared.changes.Data.TheVariants.{Struct}
use Rattle.source_install.specs.FoundChanges.{found, key_of, transform_in}
use Rattle.source_data.proofs.DataChanges.{Differs, differs, found_is, found_passes, name_found, none_found, stays}

same_bytes : (a b : Bytes) → bytes_eq a b ≡ true → a ≡ b
same_bytes a b e = (bytes_eq-Decides a b).0 e

-- ---- names of structs

-- the tag is the name without what comes before it
abbrev tag_of : Bytes → Bytes
tag_of name = drop 7 name

same_tag : (a b : Bytes) → struct_name a ≡ struct_name b → a ≡ b
same_tag a b e = ap tag_of e

struct_data : (d : BareDef) → is_struct (Some d) ≡ true → has_data (Some d) ≡ true
struct_data (bare.Struct tag members) is = refl
struct_data (bare.Forward tag) is = cc
struct_data (bare.Mutex name) is = cc
struct_data (bare.Function r name ps body) is = cc
struct_data (bare.Prototype r name ps) is = cc
struct_data (bare.Global v) is = cc
struct_data (bare.Array t name n values) is = cc
struct_data (bare.TransformStruct tag values) is = cc
struct_data (bare.TransformGlobal name value) is = cc

struct_no_cells : (d : BareDef) → is_struct (Some d) ≡ true → has_cells (Some d) ≡ true → ⊥
struct_no_cells (bare.Struct tag members) is cells = cc
struct_no_cells (bare.Forward tag) is cells = cc
struct_no_cells (bare.Mutex name) is cells = cc
struct_no_cells (bare.Function r name ps body) is cells = cc
struct_no_cells (bare.Prototype r name ps) is cells = cc
struct_no_cells (bare.Global v) is cells = cc
struct_no_cells (bare.Array t name n values) is cells = cc
struct_no_cells (bare.TransformStruct tag values) is cells = cc
struct_no_cells (bare.TransformGlobal name value) is cells = cc

-- what isn't a struct has no fields
no_members : (d : BareDef) → is_struct (Some d) ≡ false → members_of (Some d) ≡ []
no_members (bare.Struct tag members) is = cc
no_members (bare.Forward tag) is = refl
no_members (bare.Mutex name) is = refl
no_members (bare.Function r name ps body) is = refl
no_members (bare.Prototype r name ps) is = refl
no_members (bare.Global v) is = refl
no_members (bare.Array t name n values) is = refl
no_members (bare.TransformStruct tag values) is = refl
no_members (bare.TransformGlobal name value) is = refl

-- ---- fields with the names of a layout

pub fields_are_variables : (bs : List BareBinding) (fs : List Variable) → map (λ f. f.name) fs ≡ map (λ b. b.name) bs
    → variables bs (map (λ f. f.value) fs) ≡ fs
fields_are_variables [] [] e = refl
fields_are_variables [] (f ∷ fs) e = cc
fields_are_variables (b ∷ bs) [] e = cc
fields_are_variables (b ∷ bs) (f ∷ fs) e =
    let first : f.name ≡ b.name = cc in
    let rest : map (λ f. f.name) fs ≡ map (λ b. b.name) bs = cc in
    ap (λ n. record { name = n; value = f.value } ∷ variables bs (map (λ f. f.value) fs)) (sym first)
    ∙ ap (λ l. f ∷ l) (fields_are_variables bs fs rest)

-- the values of fields, as the definitions have them
pub seen_values : (t : Table) (fs : List Field) → map (λ f. f.value) (fields_of t fs) ≡ map seen (map (λ f. f.value) fs)
seen_values t [] = refl
seen_values t (f ∷ fs) = ap (λ l. seen f.value ∷ l) (seen_values t fs)

-- one more
pub variables_more : (bs : List BareBinding) (vs : List Seen) (n : ℕ) (b : BareBinding) (v : Seen) → n < length bs → n < length vs
    → take (n + 1) (variables bs vs) ≡ take n (variables bs vs) ++ record { name = (get_or bs n b).name; value = get_or vs n v } ∷ []
variables_more [] vs n b v h k = absurd (omega (arith, h))
variables_more (x ∷ bs) [] n b v h k = absurd (omega (arith, k))
variables_more (x ∷ bs) (y ∷ vs) zero b v h k = refl
variables_more (x ∷ bs) (y ∷ vs) (suc n) b v h k =
    let next : suc n + 1 ≡ suc (n + 1) = omega arith in
    ap (λ m. take m (variables (x ∷ bs) (y ∷ vs))) next
    ∙ ap (λ l. record { name = x.name; value = y } ∷ l) (variables_more bs vs n b v (omega (arith, h)) (omega (arith, k)))

-- there are no more where the names or the values end
pub variables_names : (bs : List BareBinding) (vs : List Seen) (n : ℕ) → length bs ≤ n → take n (variables bs vs) ≡ variables bs vs
variables_names [] vs n h = by vs n
  where
    by : (vs : List Seen) (n : ℕ) → take n (variables [] vs) ≡ variables [] vs
    by vs zero = refl
    by vs (suc n) = refl
variables_names (x ∷ bs) [] n h = by n
  where
    by : (n : ℕ) → take n (variables (x ∷ bs) []) ≡ variables (x ∷ bs) []
    by zero = refl
    by (suc n) = refl
variables_names (x ∷ bs) (y ∷ vs) zero h = absurd (omega (arith, h))
variables_names (x ∷ bs) (y ∷ vs) (suc n) h = ap (λ l. record { name = x.name; value = y } ∷ l) (variables_names bs vs n (omega (arith, h)))

pub variables_values : (bs : List BareBinding) (vs : List Seen) (n : ℕ) → length vs ≤ n → take n (variables bs vs) ≡ variables bs vs
variables_values [] vs n h = variables_names [] vs n (omega arith)
variables_values (x ∷ bs) [] zero h = refl
variables_values (x ∷ bs) [] (suc n) h = refl
variables_values (x ∷ bs) (y ∷ vs) zero h = absurd (omega (arith, h))
variables_values (x ∷ bs) (y ∷ vs) (suc n) h = ap (λ l. record { name = x.name; value = y } ∷ l) (variables_values bs vs n (omega (arith, h)))

-- fields with one more of a layout and a value
pub fields_more : (t : Table) (bs : List Binding) (vs : List Value) (n : ℕ) (d : Binding) (v : Value) (fs more : List Field)
    → more ≡ fs ++ record { name = (get_or bs n d).name; value = v } ∷ [] → n < length bs → n < length vs → v ≡ get_or vs n v
    → fields_of t fs ≡ take n (variables (bindings_of t bs) (map seen vs)) → fields_of t more ≡ take (n + 1) (variables (bindings_of t bs) (map seen vs))
fields_more t bs vs n d v fs more is named valued here before =
    let b = get_or bs n d in
    let all = variables (bindings_of t bs) (map seen vs) in
    let names = length-map bs (binding_of t) in
    let values = length-map vs seen in
    ap (fields_of t) is
    ∙ map-append (field_of t) fs (record { name = b.name; value = v } ∷ [])
    ∙ ap (λ l. l ++ record { name = (binding_of t b).name; value = seen v } ∷ []) before
    ∙ sym (variables_more (bindings_of t bs) (map seen vs) n (binding_of t b) (seen v) (omega (arith, named, names)) (omega (arith, valued, values))
    ∙ ap (λ x. take n all ++ record { name = x.name; value = get_or (map seen vs) n (seen v) } ∷ [])
    (get_or-map (binding_of t) bs n d (binding_of t b) named)
    ∙ ap (λ x. take n all ++ record { name = (binding_of t b).name; value = x } ∷ [])
    (get_or-map seen vs n v (seen v) valued ∙ ap seen (sym here)))

-- ---- an object by the changes that are found

module _ (p q : List BareDef) (changes : List Change) (named : map name_of changes ≡ changing p q) (are : All (IsChange p q) changes) (tag : Bytes) where
  is_transform : (o : Option Change) (x : List FieldChange) → transform_in o ≡ Some x → (own : Bytes) × (o ≡ Some (change.Struct own x))
  is_transform None x e = cc
  is_transform (Some (change.Global own c)) x e = cc
  is_transform (Some (change.Struct own y)) x e = let same : y ≡ x = cc in (own, ap (λ y. Some (change.Struct own y)) same)

  -- its transform, and that the struct's layout is another
  pub record Transforms (x : List FieldChange) : Type 0 where
    pub does : IsTransformOf p q tag x
    pub other : Differs p q (struct_name tag)

  pub transforms : (x : List FieldChange) → transform_in (found Struct changes tag) ≡ Some x → Transforms x
  transforms x e =
      let at = is_transform (found Struct changes tag) x e in
      let test : Change → Bool = λ c. is_key tag (key_of Struct c) in
      let same : tag ≡ at.0 = same_bytes tag at.0 (found_passes test changes (change.Struct at.0 x) at.1) in
      let made = found_is (IsChange p q) test changes (change.Struct at.0 x) are at.1 in
      record {
        does = subst (λ t. IsTransformOf p q t x) (sym same) made.transform;
        other = differs p q (struct_name tag)
            (ap (λ t. is_among (changing p q) (struct_name t)) same
            ∙ ap (λ ns. is_among ns (struct_name at.0)) (sym named)
            ∙ name_found test changes (change.Struct at.0 x) at.1);
      }

  pub brought_transformed : (x : List FieldChange) → Transforms x → (o : world.Object) → o.tag ≡ tag
      → brought p q o ≡ record o { fields = transformed p q tag o.fields }
  brought_transformed x t o is =
      ap (λ n. brought_by p q o (definition p (struct_name n)) (definition q (struct_name n))) is
      ∙ ap (λ a. brought_by p q o a (definition q (struct_name tag))) t.other.was
      ∙ ap (brought_by p q o (Some t.other.before)) t.other.is
      ∙ ap (λ b. if b then o else record o { fields = transformed p q o.tag o.fields }) t.other.other
      ∙ ap (λ n. record o { fields = transformed p q n o.fields }) is

  no_transform : (o : Option Change) → found Struct changes tag ≡ o → transform_in o ≡ None → found Struct changes tag ≡ None
  no_transform None at e = at
  no_transform (Some (change.Struct own x)) at e = cc
  no_transform (Some (change.Global own c)) at e =
      let never : false ≡ true = found_passes (λ c. is_key tag (key_of Struct c)) changes (change.Global own c) at in cc

  -- where none is found, the data of a struct stay
  not_changing : (b : BareDef) → definition q (struct_name tag) ≡ Some b → is_struct (Some b) ≡ true → transform_in (found Struct changes tag) ≡ None
      → is_among (changing p q) (struct_name tag) ≡ false
  not_changing b at is e =
      ap (λ ns. is_among ns (struct_name tag)) (sym named)
      ∙ none_found (IsChange p q) (λ c. is_key tag (key_of Struct c)) changes (struct_name tag) are
      other (no_transform (found Struct changes tag) refl e)
    where
      other : (c : Change) → IsChange p q c → is_key tag (key_of Struct c) ≡ false → bytes_eq (struct_name tag) (name_of c) ≡ false
      other (change.Struct own x) made fails = by (bytes_eq (struct_name tag) (struct_name own)) refl
        where
          by : (t : Bool) → bytes_eq (struct_name tag) (struct_name own) ≡ t → t ≡ false
          by false e = refl
          by true e =
              let same : bytes_eq tag own ≡ true = (bytes_eq-Decides tag own).1 (same_tag tag own (same_bytes (struct_name tag) (struct_name own) e)) in
              absurd (let clash : true ≡ false = sym same ∙ fails in cc)
      other (change.Global own c) made fails = by (bytes_eq (struct_name tag) own) refl
        where
          by : (t : Bool) → bytes_eq (struct_name tag) own ≡ t → t ≡ false
          by false e = refl
          by true e =
              absurd (struct_no_cells b is
              (ap has_cells (sym at) ∙ ap (λ n. has_cells (definition q n)) (same_bytes (struct_name tag) own e) ∙ made.defined))

  -- an object of a struct that is new becomes zero: where its name had another interface and it has no transform, it is no
  -- struct any more, and has no fields
  pub brought_new : transform_in (found Struct changes tag) ≡ None → (o : world.Object) → o.tag ≡ tag
      → (is_some (definition q (struct_name tag)) && not (agree same_interface (definition p (struct_name tag)) (definition q (struct_name tag)))) ≡ true
      → brought p q o ≡ record o { fields = zero_fields (layout_in q tag) }
  brought_new none o is new =
      ap (λ n. brought_by p q o (definition p (struct_name n)) (definition q (struct_name n))) is
      ∙ by (definition p (struct_name tag)) refl (definition q (struct_name tag)) refl new
    where
      turned : (t : Bool) → not t ≡ true → t ≡ false
      turned true e = cc
      turned false e = refl

      zeros : (b : BareDef) → definition q (struct_name tag) ≡ Some b → is_struct (Some b) ≡ false
          → transformed p q tag o.fields ≡ zero_fields (members_of (Some b))
      zeros b at apart =
          let nothing : members_of (Some b) ≡ [] = no_members b apart in
          ap (λ bs. map (λ b. record { name = b.name; value = new_field (layout_in p tag) o.fields (given_fields q tag) b }) bs)
          (ap members_of at ∙ nothing)
          ∙ sym (ap zero_fields nothing)

      by : (a : Option BareDef) → definition p (struct_name tag) ≡ a → (b : Option BareDef) → definition q (struct_name tag) ≡ b
          → (is_some b && not (agree same_interface a b)) ≡ true → brought_by p q o a b ≡ record o { fields = zero_fields (members_of b) }
      by None was None at e = cc
      by (Some a) was None at e = cc
      by None was (Some b) at e = refl
      by (Some a) was (Some b) at e =
          let other : same_interface a b ≡ false = turned (same_interface a b) e in
          ap (λ s. if s then o else record o { fields = transformed p q o.tag o.fields }) other
          ∙ ap (λ n. record o { fields = transformed p q n o.fields }) is
          ∙ ap (λ fs. record o { fields = fs }) (for (is_struct (Some b)) refl other)
        where
          for : (t : Bool) → is_struct (Some b) ≡ t → same_interface a b ≡ false → transformed p q tag o.fields ≡ zero_fields (members_of (Some b))
          for false apart other = zeros b at apart
          for true known other =
              let stay : same_interface a b ≡ true = stays p q (struct_name tag) a b (not_changing b at known none) was at (struct_data b known) in
              absurd (let clash : true ≡ false = sym stay ∙ other in cc)

  -- and another one stays
  pub brought_same : (o : world.Object) → o.tag ≡ tag
      → (is_some (definition q (struct_name tag)) && not (agree same_interface (definition p (struct_name tag)) (definition q (struct_name tag)))) ≡ false
      → brought p q o ≡ o
  brought_same o is stay =
      ap (λ n. brought_by p q o (definition p (struct_name n)) (definition q (struct_name n))) is
      ∙ by (definition p (struct_name tag)) (definition q (struct_name tag)) stay
    where
      turned : (t : Bool) → not t ≡ false → t ≡ true
      turned true e = refl
      turned false e = cc

      by : (a b : Option BareDef) → (is_some b && not (agree same_interface a b)) ≡ false → brought_by p q o a b ≡ o
      by None None e = refl
      by (Some a) None e = refl
      by None (Some b) e = cc
      by (Some a) (Some b) e =
          ap (λ s. if s then o else record o { fields = transformed p q o.tag o.fields }) (turned (same_interface a b) e)

-- the names of the fields of an object whose struct's name is defined
pub names_of_layout : (p : List BareDef) (o : world.Object) → Fits p o → (d : BareDef) → definition p (struct_name o.tag) ≡ Some d
    → map (λ f. f.name) o.fields ≡ map (λ b. b.name) (layout_in p o.tag)
names_of_layout p o fits d was = fits d was ∙ ap (λ x. map (λ b. b.name) (members_of x)) (sym was)
