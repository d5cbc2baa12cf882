-- The first cause for which a text is no patch, by what was found of the versions and the text.
use Rattle.std.proofs.Common.{◌≡◌, ℕ, suc, ◌<◌, ◌≤◌, ◌⊎◌, inl, inr, Bool, true, false, not, List, [], ◌∷◌, ◌++◌, map, length, Option, Some, None, refl, sym, ap, ◌∙◌, arith}
use Rattle.std.specs.Prelude.{nat_le, nat_lt, option_map}
use Rattle.std.specs.Option.{option_or}
use Rattle.std.proofs.lemmas.Bool.Decides.{nat_tests}
use Rattle.name_sets.specs.Limit.{most_names}
use Rattle.name_sets.specs.NameLists.{name_set}
use Rattle.c_tree.specs.BareExpr.{Bytes}
use Rattle.c_tree.specs.BareDef.{BareDef}
use Rattle.c_tree.specs.Bare.{bare_def}
use Rattle.c_tree.specs.declared.def.Program.{Program}
use Rattle.c_semantics.specs.Texts.{names}
use Rattle.c_semantics.specs.SourceTexts.{Text, text_of}
use Rattle.c_semantics.specs.Store.{brought_bodies, store}
use Rattle.patch_faults.specs.Sorts.{other_kind}
use Rattle.patch_faults.specs.TransformFaults.{first_transform_fault, place_of}
use Rattle.patch_faults.specs.declared.fault.TransformFault.{TransformFault}
use Rattle.patch_faults.specs.declared.fault.TransformFault.TheVariants as transformer
use Rattle.source_model.specs.declared.patch.NotPatch.{NotPatch}
use Rattle.source_model.specs.declared.patch.NotPatch.TheVariants.{Versions as TooManyVersions, Names, Kind, Transform, StoreFull}
use Rattle.source_model.specs.Patches.{version_limit, cause_if, is_full, all_names, last_definitions, last_tree, not_patch}
use Rattle.patch_compare.specs.declared.answer.CompareFault.{CompareFault}
use Rattle.patch_compare.specs.declared.answer.CompareFault.TheVariants as compared
use Rattle.patch_compare.specs.Faults.{IsFault}
use Rattle.patch_build.specs.declared.fault.PatchFault.{PatchFault}
use Rattle.brought_bodies.specs.declared.fault.BodyFault.{BodyFault}
use Rattle.brought_bodies.specs.declared.fault.BodyFault.TheVariants as bodies
use Rattle.patch_build.specs.declared.fault.PatchFault.TheVariants.{Not, UndefinedName, Memory}
use Rattle.patch_build.specs.declared.patch.Versions.{Versions}
use Rattle.patch_build.specs.Faults.{IsCause, fault_of_bodies, fault_of_comparison, fault_of_transformer}
use Rattle.patch_build.specs.Tables.{with_texts, IsNamesFault}
use Rattle.patch_build.specs.Versions.{AreVersions}
use Rattle.patch_build.proofs.Stores.{last_definitions_are, last_tree_is}
use Rattle.patch_build.proofs.Tables.{number_of_all}

-- the first cause by the tests in their order
abbrev first_cause : Bool → Bool → Option Bytes → Option TransformFault → Bool → Option NotPatch
first_cause versions names kind transform full =
    option_or (cause_if versions TooManyVersions)
    (option_or (cause_if names Names)
    (option_or (option_map Kind kind)
    (option_or (option_map (λ f. Transform (place_of f)) transform) (cause_if full StoreFull))))

at_most : (m n : ℕ) → m ≤ n → nat_le m n ≡ true
at_most m n h = grind (arith, nat_tests)

not_at_most : (m n : ℕ) → n < m → nat_le m n ≡ false
not_at_most m n h = grind (arith, nat_tests)

less : (m n : ℕ) → m < n → nat_lt m n ≡ true
less m n h = grind (arith, nat_tests)

not_less : (m n : ℕ) → n ≤ m → nat_lt m n ≡ false
not_less m n h = grind (arith, nat_tests)

-- ---- the text of the last version

pub last_is : (texts : List Text) (v : Versions) → AreVersions texts v → last_definitions texts ≡ map bare_def v.last.now.definitions
last_is texts v are = ap last_definitions are.last_is ∙ last_definitions_are are.before (text_of v.last.now)

pub last_tree_of : (texts : List Text) (v : Versions) → AreVersions texts v → last_tree texts ≡ v.last.now.definitions
last_tree_of texts v are = ap last_tree are.last_is ∙ last_tree_is are.before (text_of v.last.now)

-- the table that the text's names are added to, with them
abbrev pub all_of : Versions → Program → List Bytes
all_of v new = with_texts v.names.now (name_set (names (map bare_def new.definitions)))

-- the tests over the last version's text
tests : (texts : List Text) (v : Versions) (new : Program) → AreVersions texts v
    → not_patch (store texts) texts (text_of new)
    ≡ first_cause (nat_le version_limit v.count) (nat_lt most_names (length (all_of v new)))
    (other_kind (map bare_def v.last.now.definitions) (map bare_def new.definitions))
    (first_transform_fault v.last.now.definitions new.definitions)
    (is_full (store texts ++ brought_bodies (suc v.count) (map bare_def v.last.now.definitions) (text_of new)))
tests texts v new are =
    let q = text_of new in
    let p = map bare_def v.last.now.definitions in
    let n = length texts in
    let m = length (all_names (texts ++ q ∷ [])) in
    let one : not_patch (store texts) texts q
    ≡ first_cause (nat_le version_limit n) (nat_lt most_names m) (other_kind p q.definitions)
    (first_transform_fault (last_tree texts) new.definitions) (is_full (store texts ++ brought_bodies (suc n) p q)) =
    ap (λ p. first_cause (nat_le version_limit n) (nat_lt most_names m) (other_kind p q.definitions)
    (first_transform_fault (last_tree texts) new.definitions) (is_full (store texts ++ brought_bodies (suc n) p q))) (last_is texts v are) in
    one
    ∙ ap (λ tree. first_cause (nat_le version_limit n) (nat_lt most_names m) (other_kind p q.definitions)
    (first_transform_fault tree new.definitions) (is_full (store texts ++ brought_bodies (suc n) p q))) (last_tree_of texts v are)
    ∙ ap (λ n. first_cause (nat_le version_limit n) (nat_lt most_names m) (other_kind p q.definitions)
    (first_transform_fault v.last.now.definitions new.definitions) (is_full (store texts ++ brought_bodies (suc n) p q))) are.count_is
    ∙ ap (λ m. first_cause (nat_le version_limit v.count) (nat_lt most_names m) (other_kind p q.definitions)
    (first_transform_fault v.last.now.definitions new.definitions) (is_full (store texts ++ brought_bodies (suc v.count) p q)))
    (sym (number_of_all texts q v.names.now are.names_are))

true_where_not : (b : Bool) → not b ≡ false → b ≡ true
true_where_not true e = refl
true_where_not false e = cc

pub false_where_not : (b : Bool) → not b ≡ true → b ≡ false
false_where_not true e = cc
false_where_not false e = refl

-- ---- which part finds that a name isn't defined

-- the table doesn't
pub named_by_table : (texts : List Bytes) → IsNamesFault texts UndefinedName → ⊥
named_by_table texts never = never

-- nor the comparison, nor the transformers
pub defined_where_compared : (fault : CompareFault) → fault_of_comparison fault ≡ UndefinedName → ⊥
defined_where_compared (compared.Kind name) e = cc
defined_where_compared compared.Memory e = cc

pub defined_where_transformed : (fault : TransformFault) → fault_of_transformer fault ≡ UndefinedName → ⊥
defined_where_transformed (transformer.NotChanged place) e = cc
defined_where_transformed (transformer.OldField place) e = cc
defined_where_transformed (transformer.Wrong place) e = cc
defined_where_transformed transformer.Memory e = cc

-- the bodies do
pub unknown_in_bodies : (fault : BodyFault) → fault_of_bodies fault ≡ UndefinedName → fault ≡ bodies.Unknown
unknown_in_bodies bodies.Unknown e = refl
unknown_in_bodies bodies.Memory e = cc

pub bodies_cause : (first : Option NotPatch) (fault : BodyFault) → IsCause first (fault_of_bodies fault)
bodies_cause first bodies.Unknown = tt
bodies_cause first bodies.Memory = tt

-- ---- each cause, where none before it holds

module _ (texts : List Text) (v : Versions) (new : Program) (are : AreVersions texts v) where
  abbrev P : List BareDef
  P = map bare_def v.last.now.definitions

  abbrev kind : Option Bytes
  kind = other_kind P (map bare_def new.definitions)

  abbrev transform : Option TransformFault
  transform = first_transform_fault v.last.now.definitions new.definitions

  abbrev full : Bool
  full = is_full (store texts ++ brought_bodies (suc v.count) P (text_of new))

  abbrev versions : Bool
  versions = nat_le version_limit v.count

  abbrev too_many : Bool
  too_many = nat_lt most_names (length (all_of v new))

  abbrev first : Option NotPatch
  first = not_patch (store texts) texts (text_of new)

  pub versions_cause : 64 ≤ v.count → first ≡ Some TooManyVersions
  versions_cause l =
      tests texts v new are ∙ ap (λ b. first_cause b too_many kind transform full) (at_most 64 v.count l)

  after_versions : v.count < 64 → first ≡ first_cause false too_many kind transform full
  after_versions l =
      tests texts v new are ∙ ap (λ b. first_cause b too_many kind transform full) (not_at_most 64 v.count l)

  pub names_cause : v.count < 64 → (fault : PatchFault) → IsNamesFault (all_of v new) fault → IsCause first fault
  names_cause l (Not Names) many =
      after_versions l ∙ ap (λ b. first_cause false b kind transform full) (less most_names (length (all_of v new)) many)
  names_cause l (Not TooManyVersions) never = absurd never
  names_cause l (Not (Kind name)) never = absurd never
  names_cause l (Not (Transform place)) never = absurd never
  names_cause l (Not StoreFull) never = absurd never
  names_cause l UndefinedName never = absurd never
  names_cause l Memory none = tt

  after_names : v.count < 64 → length (all_of v new) ≤ most_names → first ≡ first_cause false false kind transform full
  after_names l few =
      after_versions l ∙ ap (λ b. first_cause false b kind transform full) (not_less most_names (length (all_of v new)) few)

  pub kind_cause : v.count < 64 → length (all_of v new) ≤ most_names
      → (fault : CompareFault) → IsFault kind fault → IsCause first (fault_of_comparison fault)
  kind_cause l few (compared.Kind name) e = after_names l few ∙ ap (λ k. first_cause false false k transform full) e
  kind_cause l few compared.Memory none = tt

  after_kind : v.count < 64 → length (all_of v new) ≤ most_names → kind ≡ None → first ≡ first_cause false false None transform full
  after_kind l few same = after_names l few ∙ ap (λ k. first_cause false false k transform full) same

  pub transform_cause : v.count < 64 → length (all_of v new) ≤ most_names → kind ≡ None
      → (fault : TransformFault) → (fault ≡ transformer.Memory) ⊎ (transform ≡ Some fault) → IsCause first (fault_of_transformer fault)
  transform_cause l few same (transformer.NotChanged place) h = by h
    where
      by : (transformer.NotChanged place ≡ transformer.Memory) ⊎ (transform ≡ Some (transformer.NotChanged place)) → first ≡ Some (Transform place)
      by (inl e) = cc
      by (inr e) = after_kind l few same ∙ ap (λ t. first_cause false false None t full) e
  transform_cause l few same (transformer.OldField place) h = by h
    where
      by : (transformer.OldField place ≡ transformer.Memory) ⊎ (transform ≡ Some (transformer.OldField place)) → first ≡ Some (Transform place)
      by (inl e) = cc
      by (inr e) = after_kind l few same ∙ ap (λ t. first_cause false false None t full) e
  transform_cause l few same (transformer.Wrong place) h = by h
    where
      by : (transformer.Wrong place ≡ transformer.Memory) ⊎ (transform ≡ Some (transformer.Wrong place)) → first ≡ Some (Transform place)
      by (inl e) = cc
      by (inr e) = after_kind l few same ∙ ap (λ t. first_cause false false None t full) e
  transform_cause l few same transformer.Memory h = tt

  -- where all tests but the last are passed, that one decides
  after_all : v.count < 64 → length (all_of v new) ≤ most_names → kind ≡ None → transform ≡ None → first ≡ cause_if full StoreFull
  after_all l few same fit = after_kind l few same ∙ ap (λ t. first_cause false false None t full) fit

  pub store_cause : v.count < 64 → length (all_of v new) ≤ most_names → kind ≡ None → transform ≡ None
      → (room : Bool) → room ≡ not full → room ≡ false → first ≡ Some StoreFull
  store_cause l few same fit room is no_room =
      after_all l few same fit ∙ ap (λ b. cause_if b StoreFull) (true_where_not full (sym is ∙ no_room))

  pub no_cause : v.count < 64 → length (all_of v new) ≤ most_names → kind ≡ None → transform ≡ None
      → (room : Bool) → room ≡ not full → room ≡ true → first ≡ None
  no_cause l few same fit room is has_room =
      after_all l few same fit ∙ ap (λ b. cause_if b StoreFull) (false_where_not full (sym is ∙ has_room))
