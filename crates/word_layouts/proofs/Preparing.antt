-- The changes of objects, by the layouts of both texts and the changes of data.
use Rattle.std.proofs.Common.{◌≡◌, Bool, true, false, List, map, Option, Some, None, All, is_some, bytes_eq, refl, sym, ap, ◌∙◌, if◌then◌else◌, drop}
use Rattle.std.proofs.lemmas.Slice.Eq.{bytes_eq-Decides}
use Rattle.name_sets.specs.NameLists.{is_among}
use Rattle.c_tree.specs.BareExpr.{Bytes}
use Rattle.c_tree.specs.BareDef.{BareDef}
use Rattle.c_tree.specs.BareDef as def
use Rattle.c_definitions.specs.Index.{is_key}
use Rattle.c_semantics.specs.Names.{struct_name}
use Rattle.c_semantics.specs.Texts.{definition, members_of}
use Rattle.c_semantics.specs.Transformers.{transformed, zero_fields}
use Rattle.source_model.specs.Worlds.{Object}
use Rattle.source_model.specs.Installs.{brought, brought_by}
use Rattle.typed_trees.specs.ExpressionTypes.{IsStruct}
use Rattle.constant_values.specs.Kinds.{kind_of}
use Rattle.versioned_structs.specs.declared.transform.FieldChange.{FieldChange}
use Rattle.versioned_structs.specs.Transforms.{layout_in}
use Rattle.type_transformers.specs.declared.change.Change.{Change}
use Rattle.type_transformers.specs.declared.change.Change.TheVariants as change
use Rattle.type_transformers.specs.Changes.{changing, has_cells, has_data, name_of, IsChange}
use Rattle.source_data.proofs.DataChanges.{found_passes, none_found, stays}
use Rattle.source_install.specs.declared.changes.Data.TheVariants.{Struct}
use Rattle.source_install.specs.FoundChanges.{found, key_of, transform_in}
use Rattle.source_install.proofs.BroughtObjects.{brought_transformed, transforms}
use Rattle.word_layouts.specs.declared.change.Conversion.{Conversion}
use Rattle.word_layouts.specs.declared.change.WordChange.TheVariants.{Zero}
use Rattle.word_layouts.specs.Copies.{AreCopies}
use Rattle.word_layouts.specs.WordChanges.{IsConversion, IsWordChange}
use Rattle.word_layouts.proofs.Copying.{copied_transform}

no : false ≡ true → ⊥
no e = cc

same_bytes : (a b : Bytes) → bytes_eq a b ≡ true → a ≡ b
same_bytes a b e = (bytes_eq-Decides a b).0 e

-- ---- structs

-- the tag is the name without what comes before it
abbrev untagged : Bytes → Bytes
untagged name = drop 7 name

same_tag : (a b : Bytes) → struct_name a ≡ struct_name b → a ≡ b
same_tag a b e = ap untagged e

struct_data : (d : BareDef) → IsStruct (Some d) → has_data (Some d) ≡ true
struct_data (def.Struct tag members) is = refl
struct_data _ is = absurd is

struct_no_cells : (d : BareDef) → IsStruct (Some d) → has_cells (Some d) ≡ true → ⊥
struct_no_cells (def.Struct tag members) is cells = no cells
struct_no_cells _ is cells = is

-- ---- what becomes of an object, by what both texts say of its struct

module _ (p q : List BareDef) (tag : Bytes) where
  by_definitions : (o : Object) → o.tag ≡ tag → (a b : Option BareDef) → definition p (struct_name tag) ≡ a → definition q (struct_name tag) ≡ b
      → brought p q o ≡ brought_by p q o a b
  by_definitions o is a b was now =
      ap (λ n. brought_by p q o (definition p (struct_name n)) (definition q (struct_name n))) is
      ∙ ap (λ a. brought_by p q o a (definition q (struct_name tag))) was
      ∙ ap (brought_by p q o a) now

  -- it stays where the struct isn't there any more
  pub is_gone : definition q (struct_name tag) ≡ None → IsWordChange p q tag None
  is_gone gone o is = by_definitions o is (definition p (struct_name tag)) None refl gone ∙ by (definition p (struct_name tag))
    where
      by : (a : Option BareDef) → brought_by p q o a None ≡ o
      by None = refl
      by (Some a) = refl

  -- it has zeros where the struct is new
  pub is_zero : definition p (struct_name tag) ≡ None → IsStruct (definition q (struct_name tag)) → IsWordChange p q tag (Some Zero)
  is_zero none new o is =
      by_definitions o is None (definition q (struct_name tag)) none refl ∙ by (definition q (struct_name tag)) new
    where
      by : (b : Option BareDef) → IsStruct b → brought_by p q o None b ≡ record o { fields = zero_fields (members_of b) }
      by None there = absurd there
      by (Some b) there = refl

-- ---- where both have it

module _ (p q : List BareDef) (changes : List Change) (named : map name_of changes ≡ changing p q) (are : All (IsChange p q) changes) (tag : Bytes) where
  pub is_conversion : (x : List FieldChange) (c : Conversion) → transform_in (found Struct changes tag) ≡ Some x
      → c.kinds.items ≡ map (λ b. kind_of b.declared) (layout_in p tag) → AreCopies x c.transform → IsConversion p q tag c
  is_conversion x c e kinds copies =
      let does = transforms p q changes named are tag x e in
      record {
        defined = ap is_some does.other.was;
        kinds = kinds;
        transform = copied_transform p q tag x c.transform does.does copies;
        changes = brought_transformed p q changes named are tag x does;
      }

  none_there : (o : Option Change) → found Struct changes tag ≡ o → transform_in o ≡ None → found Struct changes tag ≡ None
  none_there None at e = at
  none_there (Some (change.Struct own x)) at e = cc
  none_there (Some (change.Global own c)) at e = absurd (no (found_passes (λ c. is_key tag (key_of Struct c)) changes (change.Global own c) at))

  -- where no change is found, the struct's layout is the same
  not_changing : (b : BareDef) → definition q (struct_name tag) ≡ Some b → IsStruct (Some b) → transform_in (found Struct changes tag) ≡ None
      → is_among (changing p q) (struct_name tag) ≡ false
  not_changing b at is e =
      ap (λ ns. is_among ns (struct_name tag)) (sym named)
      ∙ none_found (IsChange p q) (λ c. is_key tag (key_of Struct c)) changes (struct_name tag) are
      other (none_there (found Struct changes tag) refl e)
    where
      other : (c : Change) → IsChange p q c → is_key tag (key_of Struct c) ≡ false → bytes_eq (struct_name tag) (name_of c) ≡ false
      other (change.Struct own x) made fails = by (bytes_eq (struct_name tag) (struct_name own)) refl
        where
          by : (t : Bool) → bytes_eq (struct_name tag) (struct_name own) ≡ t → t ≡ false
          by false e = refl
          by true e =
              let same : bytes_eq tag own ≡ true = (bytes_eq-Decides tag own).1 (same_tag tag own (same_bytes (struct_name tag) (struct_name own) e)) in
              absurd (no (sym fails ∙ same))
      other (change.Global own c) made fails = by (bytes_eq (struct_name tag) own) refl
        where
          by : (t : Bool) → bytes_eq (struct_name tag) own ≡ t → t ≡ false
          by false e = refl
          by true e =
              absurd (struct_no_cells b is
              (ap has_cells (sym at) ∙ ap (λ n. has_cells (definition q n)) (same_bytes (struct_name tag) own e) ∙ made.defined))

  pub is_same : IsStruct (definition p (struct_name tag)) → IsStruct (definition q (struct_name tag))
      → transform_in (found Struct changes tag) ≡ None → IsWordChange p q tag None
  is_same was is none o same = by (definition p (struct_name tag)) refl was (definition q (struct_name tag)) refl is
    where
      by : (a : Option BareDef) → definition p (struct_name tag) ≡ a → IsStruct a → (b : Option BareDef) → definition q (struct_name tag) ≡ b
          → IsStruct b → brought p q o ≡ o
      by None before was b after is = absurd was
      by (Some a) before was None after is = absurd is
      by (Some a) before was (Some b) after is =
          by_definitions p q tag o same (Some a) (Some b) before after
          ∙ ap (λ s. if s then o else record o { fields = transformed p q o.tag o.fields })
          (stays p q (struct_name tag) a b (not_changing b after is none) before after (struct_data b is))
