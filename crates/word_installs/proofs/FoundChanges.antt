-- The change that is found for a name is its own, and without one the interface stays.
use Rattle.std.proofs.Common.{◌≡◌, Bool, true, false, List, map, Option, Some, None, All, bytes_eq, refl, sym, ap, subst, ◌∙◌}
use Rattle.std.proofs.lemmas.Option.{same_Some}
use Rattle.std.proofs.lemmas.Slice.Eq.{bytes_eq-Decides}
use Rattle.name_sets.specs.NameLists.{is_among}
use Rattle.c_tree.specs.BareExpr.{Bytes}
use Rattle.c_tree.specs.BareDef.{BareDef, Global, Array}
use Rattle.c_definitions.specs.Index.{is_key}
use Rattle.c_semantics.specs.Names.{struct_name}
use Rattle.c_semantics.specs.Texts.{definition}
use Rattle.c_semantics.specs.Changes.{same_interface}
use Rattle.source_model.specs.Installs.{has_cells}
use Rattle.type_transformers.specs.declared.change.Change.{Change}
use Rattle.type_transformers.specs.declared.change.Change.TheVariants as change
use Rattle.type_transformers.specs.declared.global.GlobalChange.{GlobalChange}
use Rattle.type_transformers.specs.Changes.{changing, has_data, is_struct, name_of, IsChange, IsGlobalChange}
use Rattle.source_data.proofs.DataChanges as of_data
use Rattle.source_install.specs.declared.changes.Data.TheVariants.{Global as OfGlobal}
use Rattle.source_install.specs.FoundChanges.{cells_in, key_of}
use Rattle.source_install.specs.FoundChanges as by_name
use Rattle.word_installs.specs.NewRows.{cells_change}

no : false ≡ true → ⊥
no e = cc

same_bytes : (a b : Bytes) → bytes_eq a b ≡ true → a ≡ b
same_bytes a b e = (bytes_eq-Decides a b).0 e

-- ---- definitions with cells

cells_data : (d : BareDef) → has_cells d ≡ true → has_data (Some d) ≡ true
cells_data (Global v) cells = refl
cells_data (Array t name n values) cells = refl
cells_data _ cells = absurd (no cells)

no_struct : (d : BareDef) → has_cells d ≡ true → is_struct (Some d) ≡ true → ⊥
no_struct (Global v) cells is = no is
no_struct (Array t name n values) cells is = no is
no_struct _ cells is = no cells

-- ---- the change of a name

module _ (p q : List BareDef) (changes : List Change) (named : map name_of changes ≡ changing p q) (are : All (IsChange p q) changes)
    (name : Bytes) where
  abbrev is_found : Change → Bool
  is_found c = is_key name (key_of OfGlobal c)

  record Own (c : GlobalChange) : Type 0 where
    own : Bytes
    there : by_name.found OfGlobal changes name ≡ Some (change.Global own c)
    same : name ≡ own

  owns : (c : GlobalChange) → cells_change changes name ≡ Some c → Own c
  owns c e = by (by_name.found OfGlobal changes name) refl e
    where
      by : (o : Option Change) → by_name.found OfGlobal changes name ≡ o → cells_in o ≡ Some c → Own c
      by None at e = cc
      by (Some (change.Struct tag transform)) at e = cc
      by (Some (change.Global own x)) at e =
          let is : x ≡ c = cc in
          let there : by_name.found OfGlobal changes name ≡ Some (change.Global own c) = at ∙ ap (λ y. Some (change.Global own y)) is in
          record { own = own; there = there; same = same_bytes name own (of_data.found_passes is_found changes (change.Global own c) there) }

  -- the change that is found is that of the name
  pub found : (c : GlobalChange) → cells_change changes name ≡ Some c → IsGlobalChange p q name c
  found c e =
      let o = owns c e in
      subst (λ n. IsGlobalChange p q n c) (sym o.same) (of_data.found_is (IsChange p q) is_found changes (change.Global o.own c) are o.there)

  module _ (d : BareDef) (is : definition q name ≡ Some d) where
    -- a name that is found is defined in p too, with another interface
    pub record Differs : Type 0 where
      pub before : BareDef
      pub was : definition p name ≡ Some before
      pub other : same_interface before d ≡ false

    pub differs : (c : GlobalChange) → cells_change changes name ≡ Some c → Differs
    differs c e =
        let o = owns c e in
        let differ = of_data.differs p q name
        (ap (is_among (changing p q)) o.same ∙ ap (λ ns. is_among ns o.own) (sym named)
        ∙ of_data.name_found is_found changes (change.Global o.own c) o.there) in
        record {
          before = differ.before;
          was = differ.was;
          other = ap (same_interface differ.before) (same_Some d differ.after (sym is ∙ differ.is)) ∙ differ.other;
        }

    module _ (has : has_cells d ≡ true) where
      none_there : (o : Option Change) → by_name.found OfGlobal changes name ≡ o → cells_in o ≡ None
          → by_name.found OfGlobal changes name ≡ None
      none_there None at e = at
      none_there (Some (change.Global own c)) at e = cc
      none_there (Some (change.Struct tag transform)) at e = absurd (no (of_data.found_passes is_found changes (change.Struct tag transform) at))

      -- another change has another name: a struct isn't what has cells
      others : (c : Change) → IsChange p q c → is_found c ≡ false → bytes_eq name (name_of c) ≡ false
      others (change.Global own c) made fails = fails
      others (change.Struct tag transform) made fails = by (bytes_eq name (struct_name tag)) refl
        where
          by : (t : Bool) → bytes_eq name (struct_name tag) ≡ t → t ≡ false
          by false e = refl
          by true e =
              absurd (no_struct d has
              (ap is_struct (sym is) ∙ ap (λ n. is_struct (definition q n)) (same_bytes name (struct_name tag) e) ∙ made.defined))

      -- one that isn't found stays, if p has it
      pub stays : (a : BareDef) → definition p name ≡ Some a → cells_change changes name ≡ None → same_interface a d ≡ true
      stays a was e =
          of_data.stays p q name a d
          (ap (λ ns. is_among ns name) (sym named)
          ∙ of_data.none_found (IsChange p q) is_found changes name are others (none_there (by_name.found OfGlobal changes name) refl e))
          was is (cells_data d has)
