-- The words of an object that is brought to a version stand for what becomes of its fields.
use Rattle.std.proofs.Common.{◌≡◌, ℕ, zero, suc, ◌+◌, ◌-◌, ◌<◌, ◌≤◌, Bool, true, false, true≢false, List, [], ◌∷◌, ◌++◌, map, length, replicate, slice_get, Option, Some, None, is_some, Contains, refl, sym, ap, subst, ◌∙◌, arith}
use Rattle.std.specs.Prelude.{IsTrue, if◌then◌else◌}
use Rattle.std.proofs.lemmas.List.{length-map, replicate-append-replicate}
use Rattle.std.proofs.lemmas.List.Elements.{All-nil, All-cons}
use Rattle.c_tree.specs.BareExpr.{Bytes, BareType, Integer, Handle, Thread}
use Rattle.c_tree.specs.BareDef.{BareBinding, BareDef}
use Rattle.c_tree.specs.BareDef as bare
use Rattle.c_semantics.specs.Changes.{same_interface}
use Rattle.c_semantics.specs.Names.{struct_name}
use Rattle.c_semantics.specs.Texts.{definition, members_of}
use Rattle.c_semantics.specs.Pieces.{Variable}
use Rattle.c_semantics.specs.Transformers.{transformed, zero_fields}
use Rattle.c_semantics.specs.Values.{Value, Number, Reference, Started, zero_of}
use Rattle.definition_laws.proofs.SameDefinitions.{interface_equal_if_same}
use Rattle.source_model.specs.Worlds as world
use Rattle.source_model.specs.Installs.{brought_by}
use Rattle.patch_faults.specs.TransformLaws.{has_type, HaveTypes}
use Rattle.patch_faults.proofs.ValuesOfTypes.{fields_have_types, of_kind, zero_has_type}
use Rattle.typed_trees.specs.ValueTypes.{HasType, ScopeHas}
use Rattle.constant_values.specs.Kinds.{kind_of}
use Rattle.versioned_structs.specs.Limits.{most_fields}
use Rattle.versioned_structs.specs.Transforms.{layout_in, new_values, variables}
use Rattle.bytecode.specs.Words.{Naming, Distinguishes, word_of}
use Rattle.tree_code.specs.Ranges.{Ranged}
use Rattle.tree_code.proofs.WordValues.{zero_ranged, zero_word}
use Rattle.code_runs.specs.CodeData.{number_of}
use Rattle.object_store.specs.declared.object.Object.{Object}
use Rattle.word_layouts.specs.declared.change.Conversion.{Conversion}
use Rattle.word_layouts.specs.declared.change.WordChange.{WordChange}
use Rattle.word_layouts.specs.declared.change.WordChange.TheVariants.{Zero, Given}
use Rattle.word_layouts.specs.declared.layouts.VersionChanges.{VersionChanges}
use Rattle.code_runs.specs.Layouts.{BeginWith, FieldsRanged, Brings, brought_fields, brought_once, field_words, text_at}
use Rattle.word_layouts.specs.WordValues.{by_word, read_words, renamed}
use Rattle.word_layouts.specs.ChangedWords.{brought_words, change_at, changed_words, converted_words}
use Rattle.word_layouts.specs.WordChanges.{IsConversion, IsWordChange, StandFor}
use Rattle.word_layouts.proofs.Renaming.{AllKnown, AllRename, Known, changes_rename}
use Rattle.word_layouts.proofs.WordFields.{all_written, as_many, changes_ranged, fields_are, fields_ranged, ranged_all, read_fields, values_back, values_of, words_back}

-- ---- fields have the types of the text

same_members : (a b : BareDef) → same_interface a b ≡ true → members_of (Some a) ≡ members_of (Some b)
same_members (bare.Struct t ms) (bare.Struct u ns) e = interface_equal_if_same (bare.Struct t ms) (bare.Struct u ns) e
same_members (bare.Mutex m) (bare.Mutex k) e = refl
same_members (bare.Function r m ps body) (bare.Function s k qs code) e = refl
same_members (bare.Global d) (bare.Global g) e = refl
same_members (bare.Array t m n vs) (bare.Array u k i ws) e = refl
same_members a b e = absurd (true≢false (sym e))

zeros_typed : (bs : List BareBinding) → HaveTypes bs (zero_fields bs)
zeros_typed [] = tt
zeros_typed (b ∷ bs) = (refl, zero_has_type b.declared, zeros_typed bs)

abbrev IsDefined : List BareDef → Bytes → Type 0
IsDefined text tag = is_some (definition text (struct_name tag)) ≡ true

pub typed_once : (p q : List BareDef) (tag : Bytes) (fields : List Variable) → (IsDefined p tag → HaveTypes (layout_in p tag) fields)
    → IsDefined q tag → HaveTypes (layout_in q tag) (brought_once p q tag fields)
typed_once p q tag fields typed there = by (definition p name) refl (definition q name) refl
  where
    name : Bytes
    name = struct_name tag

    own : world.Object
    own = record { tag = tag; fields = fields; live = true }

    by : (a : Option BareDef) → definition p name ≡ a → (b : Option BareDef) → definition q name ≡ b
        → HaveTypes (layout_in q tag) (brought_by p q own a b).fields
    by a was None is = let none : false ≡ true = ap is_some (sym is) ∙ there in absurd (true≢false (sym none))
    by None was (Some d) is = subst (λ o. HaveTypes (members_of o) (zero_fields (members_of (Some d)))) (sym is) (zeros_typed (members_of (Some d)))
    by (Some a) was (Some b) is = with (same_interface a b) refl
      where
        before : HaveTypes (layout_in p tag) fields
        before = typed (ap is_some was)

        with : (s : Bool) → same_interface a b ≡ s
            → HaveTypes (layout_in q tag) (if s then own else record own { fields = transformed p q own.tag own.fields }).fields
        with true e =
            subst (λ ms. HaveTypes ms fields) (ap members_of was ∙ same_members a b e ∙ sym (ap members_of is)) before
        with false e = fields_have_types p q tag fields before

-- ---- fields of a scope

there : (tags : List Bytes) (a : ℕ) (tag : Bytes) → slice_get tags a ≡ Some tag → a < length tags
there [] a tag e = absurd (none e)
  where
    none : ◌≡◌ {A = Option Bytes} None (Some tag) → ⊥
    none e = cc
there (t ∷ tags) zero tag e = omega arith
there (t ∷ tags) (suc a) tag e = let more : a < length tags = there tags a tag e in omega arith

pub has_its_type : (structs : List Bytes) (t : BareType) (v : Value) → HasType structs t v → IsTrue (has_type t v)
has_its_type structs (Integer k) (Number i) h = of_kind k i h
has_its_type structs (Handle tag) (Reference o) h = refl
has_its_type structs Thread (Started s) h = refl
has_its_type structs (Integer k) (Reference o) h = absurd h
has_its_type structs (Integer k) (Started s) h = absurd h
has_its_type structs (Handle tag) (Number i) h = absurd h
has_its_type structs (Handle tag) (Started s) h = absurd h
has_its_type structs Thread (Number i) h = absurd h
has_its_type structs Thread (Reference o) h = absurd h

pub is_known : (structs : List Bytes) (t : BareType) (v : Value) → HasType structs t v → Known (length structs) v
is_known structs t (Number i) h = tt
is_known structs t (Reference None) h = tt
is_known structs (Handle tag) (Reference (Some o)) h = there structs o tag h
is_known structs (Integer k) (Reference (Some o)) h = absurd h
is_known structs Thread (Reference (Some o)) h = absurd h
is_known structs t (Started s) h = tt

pub scope_typed : (structs : List Bytes) (bs : List BareBinding) (fs : List Variable) → ScopeHas structs bs fs → HaveTypes bs fs
scope_typed structs [] [] h = tt
scope_typed structs (b ∷ bs) (f ∷ fs) h = (h.0, has_its_type structs b.declared f.value h.1, scope_typed structs bs fs h.2)
scope_typed structs [] (f ∷ fs) h = absurd h
scope_typed structs (b ∷ bs) [] h = absurd h

pub scope_known : (structs : List Bytes) (bs : List BareBinding) (fs : List Variable) → ScopeHas structs bs fs
    → AllKnown (length structs) (values_of fs)
scope_known structs [] [] h = tt
scope_known structs (b ∷ bs) (f ∷ fs) h = (is_known structs b.declared f.value h.1, scope_known structs bs fs h.2)
scope_known structs [] (f ∷ fs) h = absurd h
scope_known structs (b ∷ bs) [] h = absurd h

-- ---- one version

module _ (n : Naming) (count : ℕ) (apart : Distinguishes count n) (tag : Bytes) where
  -- words stand for fields
  pub record Stand (fields : List Variable) (words : List ℕ) : Type 0 where
    pub known : AllKnown count (values_of fields)
    pub ranged : FieldsRanged fields
    pub begins : BeginWith n fields words

  -- which are those of a text, where it defines the struct
  pub record StandIn (text : List BareDef) (fields : List Variable) (words : List ℕ) : Type 0 where
    pub typed : IsDefined text tag → HaveTypes (layout_in text tag) fields
    pub stand : Stand fields words

  zeros_known : (bs : List BareBinding) → AllKnown count (values_of (zero_fields bs))
  zeros_known [] = tt
  zeros_known (b ∷ bs) = (by b.declared, zeros_known bs)
    where
      by : (t : BareType) → Known count (zero_of t)
      by (Integer k) = tt
      by (Handle tag) = tt
      by Thread = tt

  zeros_ranged : (bs : List BareBinding) → FieldsRanged (zero_fields bs)
  zeros_ranged [] = All-nil (λ f. Ranged f.value)
  zeros_ranged (b ∷ bs) =
      All-cons (λ f. Ranged f.value) (record { name = b.name; value = zero_of b.declared }) (zero_fields bs) (zero_ranged b.declared) (zeros_ranged bs)

  zero_words : (bs : List BareBinding) → field_words n (zero_fields bs) ≡ replicate (length bs) 0
  zero_words [] = refl
  zero_words (b ∷ bs) = ap (λ w. w ∷ field_words n (zero_fields bs)) (zero_word n b.declared) ∙ ap (λ ws. 0 ∷ ws) (zero_words bs)

  zeros_stand : (bs : List BareBinding) → length bs ≤ most_fields → Stand (zero_fields bs) (replicate most_fields 0)
  zeros_stand bs few =
      let rest = most_fields - length bs in
      let whole : most_fields ≡ length bs + rest = omega (arith, few) in
      record {
        known = zeros_known bs;
        ranged = zeros_ranged bs;
        begins = (
          replicate rest 0,
          ap (λ m. replicate m 0) whole
              ∙ sym (ap (λ ws. ws ++ replicate rest 0) (zero_words bs) ∙ replicate-append-replicate (length bs) rest 0),
        );
      }

  module _ (p q : List BareDef) (fields : List Variable) (words : List ℕ) (before : Stand fields words) where
    abbrev own : world.Object
    own = record { tag = tag; fields = fields; live = true }

    -- a conversion
    module _ (c : Conversion) (is : IsConversion p q tag c) (typed : HaveTypes (layout_in p tag) fields) where
      abbrev olds : List Value
      olds = values_of fields

      abbrev reads : List Value
      reads = read_words c.kinds.items words

      abbrev news : List Value
      news = new_values c.transform olds

      read : reads ≡ map (renamed n) olds
      read =
          ap (λ ks. read_words ks words) is.kinds
          ∙ ap (read_words (map (λ b. kind_of b.declared) (layout_in p tag))) before.begins.1
          ∙ read_fields n count apart (layout_in p tag) fields before.begins.0 typed before.ranged before.known

      renames : AllRename n count apart news (new_values c.transform reads)
      renames = changes_rename n count apart olds reads (record { are = read; known = before.known }) c.transform

      many : length news ≡ length (layout_in q tag)
      many = length-map c.transform _ ∙ is.transform.each_field

      becomes : transformed p q tag fields ≡ variables (layout_in q tag) news
      becomes =
          ap (transformed p q tag) (sym (fields_are (layout_in p tag) fields typed))
          ∙ sym (is.transform.transforms olds (as_many (layout_in p tag) fields typed))

      pub converted_stand : Stand (transformed p q tag fields) (converted_words c words)
      converted_stand =
          let written = new_values c.transform reads in
          subst (λ fs. Stand fs (converted_words c words)) (sym becomes) (record {
            known = subst (AllKnown count) (sym (values_back (layout_in q tag) news many)) renames.known;
            ranged = fields_ranged (layout_in q tag) news (changes_ranged c.transform olds (ranged_all fields before.ranged));
            begins = (
              replicate (most_fields - length written) 0,
              ap (λ ws. ws ++ replicate (most_fields - length written) 0)
                  (ap (map (word_of by_word)) renames.are
                  ∙ all_written n news
                  ∙ sym (words_back n (variables (layout_in q tag) news) ∙ ap (map (word_of n)) (values_back (layout_in q tag) news many))),
            );
          })

    -- any change
    changed_stand : (c : Option WordChange) → IsWordChange p q tag c → (IsDefined p tag → HaveTypes (layout_in p tag) fields)
        → length (layout_in q tag) ≤ most_fields → Stand (brought_once p q tag fields) (changed_words c words)
    changed_stand None is typed few =
        let same : brought_once p q tag fields ≡ fields = ap (λ o. o.fields) (is own refl) in
        subst (λ fs. Stand fs words) (sym same) before
    changed_stand (Some Zero) is typed few =
        let zeros : brought_once p q tag fields ≡ zero_fields (layout_in q tag) = ap (λ o. o.fields) (is own refl) in
        subst (λ fs. Stand fs (replicate most_fields 0)) (sym zeros) (zeros_stand (layout_in q tag) few)
    changed_stand (Some (Given c)) is typed few =
        let new : brought_once p q tag fields ≡ transformed p q tag fields = ap (λ o. o.fields) (is.changes own refl) in
        subst (λ fs. Stand fs (converted_words c words)) (sym new) (converted_stand c is (typed is.defined))

  -- ---- all versions
  module _ (texts : List (List BareDef)) (tags : List Bytes) (versions : List VersionChanges) (all : StandFor texts tags versions) (known : Contains tags tag) where
    abbrev change : ℕ → Option WordChange
    change = change_at versions (number_of tags tag)

    brought_stand : (from m : ℕ) (fields : List Variable) (words : List ℕ) → StandIn (text_at texts from) fields words → from + m < length texts
        → StandIn (text_at texts (from + m)) (brought_fields texts tag from m fields) (brought_words change from m words)
    brought_stand from zero fields words before below =
        subst (λ k. StandIn (text_at texts k) fields words) (let e : from ≡ from + zero = omega arith in e) before
    brought_stand from (suc m) fields words before below =
        let next : from + suc m ≡ suc (from + m) = omega arith in
        let inside : suc (from + m) < length texts = omega (arith, below) in
        let p = text_at texts (from + m) in
        let q = text_at texts (suc (from + m)) in
        let fs = brought_fields texts tag from m fields in
        let ws = brought_words change from m words in
        let earlier = brought_stand from m fields words before (omega (arith, below)) in
        subst (λ k. StandIn (text_at texts k) (brought_once p q tag fs) (changed_words (change (from + m)) ws)) (sym next) (record {
          typed = typed_once p q tag fs earlier.typed;
          stand = changed_stand p q fs ws earlier.stand (change (from + m)) (all.each (from + m) tag inside known) earlier.typed
              (all.few (suc (from + m)) inside tag);
        })

-- an object that is brought to the last version
pub brings : (texts : List (List BareDef)) (tags : List Bytes) (versions : List VersionChanges) (tag : Bytes) (old new : Object) (version : ℕ)
    → StandFor texts tags versions → version + 1 ≡ length texts → Contains tags tag → old.tag ≡ number_of tags tag → old.layout ≤ version
    → new ≡ record old { layout = version; fields = brought_words (change_at versions old.tag) old.layout (version - old.layout) old.fields }
    → Brings texts tag old new
brings texts tags versions tag old new version all last known numbered older is = record {
  tag_stays = ap (λ o. o.tag) is;
  layout = ap (λ o. suc o.layout) is ∙ (let e : suc version ≡ version + 1 = omega arith in e) ∙ last;
  words = λ naming structs fields apart ends are ranged begins.
      let steps : length texts - suc old.layout ≡ version - old.layout = omega (arith, last) in
      let there : old.layout + (version - old.layout) < length texts = omega (arith, last, older) in
      let after = brought_stand naming (length structs) apart tag texts tags versions all known old.layout (version - old.layout) fields old.fields
      (record {
        typed = λ d. scope_typed structs (layout_in (text_at texts old.layout) tag) fields are.1;
        stand = record { known = scope_known structs (layout_in (text_at texts old.layout) tag) fields are.1; ranged = ranged; begins = begins };
      }) there
      in
      subst (λ ws. BeginWith naming (brought_fields texts tag old.layout (length texts - suc old.layout) fields) ws)
      (sym (ap (λ o. o.fields) is ∙ ap (λ t. brought_words (change_at versions t) old.layout (version - old.layout) old.fields) numbered))
      (subst (λ m. BeginWith naming (brought_fields texts tag old.layout m fields)
      (brought_words (change_at versions (number_of tags tag)) old.layout (version - old.layout) old.fields)) (sym steps) after.stand.begins);
}

-- ---- one version more

pub brought_more : (change : ℕ → Option WordChange) (from number : ℕ) (words : List ℕ) → from ≤ number
    → brought_words change from (number + 1 - from) words ≡ changed_words (change number) (brought_words change from (number - from) words)
brought_more change from number words h =
    let more : number + 1 - from ≡ suc (number - from) = omega (arith, h) in
    let at : from + (number - from) ≡ number = omega (arith, h) in
    ap (λ m. brought_words change from m words) more
    ∙ ap (λ k. changed_words (change k) (brought_words change from (number - from) words)) at

-- an object that has the layout stays
pub brought_nothing : (change : ℕ → Option WordChange) (from version : ℕ) (words : List ℕ) → from ≡ version
    → brought_words change from (version - from) words ≡ words
brought_nothing change from version words h =
    let none : version - from ≡ 0 = omega (arith, h) in ap (λ m. brought_words change from m words) none
