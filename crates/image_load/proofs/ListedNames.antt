-- What a text defines is among its names.
use Rattle.std.proofs.Common.{◌≡◌, Bool, true, false, IsTrue, List, [], ◌∷◌, Contains, cond, drop, filter_map, Option, Some, None, refl, sym, ap, subst}
use Rattle.std.specs.List.{cons_option}
use Rattle.std.proofs.lemmas.List.Elements.{Contains-append_right}
use Rattle.std.proofs.lemmas.Slice.Eq.{bytes_eq-Decides}
use Rattle.c_tree.specs.BareDef.{BareDef}
use Rattle.c_tree.specs.BareDef as bare
use Rattle.c_tree.specs.BareExpr.{Bytes}
use Rattle.c_semantics.specs.Names.{struct_name}
use Rattle.c_semantics.specs.Texts.{defines, definition}
use Rattle.source_model.specs.Installs.{has_cells}
use Rattle.typed_trees.specs.ExpressionTypes.{IsStruct}
use Rattle.code_image.specs.Images.{names_in, names_of, tag_of}
use Rattle.image_load.specs.declared.numbers.Named.TheVariants.{Cells}
use Rattle.image_load.specs.Numbering.{name_by}
use Rattle.image_load.specs.TextTables.{AreNamesOf}
use Rattle.image_load.proofs.NameLists.{found_contained, in_each, once_has}
use Rattle.image_load.proofs.NamesOfTexts.{named_cells}

later : (o : Option Bytes) (names : List Bytes) (name : Bytes) → Contains names name → Contains (cons_option o names) name
later None names name h = h
later (Some n) names name h = Contains-append_right (n ∷ []) names name h

-- by a name that it has, of definitions that are so
module _ (f : BareDef → Option Bytes) (n name : Bytes) (Is : Option BareDef → Type 0) (none : Is None → ⊥)
    (own : (d : BareDef) → defines n d ≡ true → Is (Some d) → f d ≡ Some name) where
  listed : (ds : List BareDef) → Is (definition ds n) → Contains (filter_map f ds) name
  listed [] h = absurd (none h)
  listed (d ∷ ds) h = by (defines n d) refl (listed ds) h
    where
      rest : List Bytes
      rest = filter_map f ds

      by : (b : Bool) → defines n d ≡ b → (Is (definition ds n) → Contains rest name) → Is (cond b (Some d) (definition ds n))
          → Contains (cons_option (f d) rest) name
      by true is before h =
          subst (λ (o : Option Bytes). Contains (cons_option o rest) name) (sym (own d is h)) (found_contained (name ∷ rest) 0 name refl)
      by false is before h = later (f d) rest name (before h)

abbrev HasCells : Option BareDef → Type 0
HasCells None = ⊥
HasCells (Some d) = IsTrue (has_cells d)

not_true : IsTrue false → ⊥
not_true h = cc

cells_own : (name : Bytes) (d : BareDef) → defines name d ≡ true → HasCells (Some d) → name_by Cells d ≡ Some name
cells_own name (bare.Global v) is h = ap Some (sym ((bytes_eq-Decides name v.name).0 is))
cells_own name (bare.Array type own n values) is h = ap Some (sym ((bytes_eq-Decides name own).0 is))
cells_own name _ is h = absurd (not_true h)

tags_own : (tag : Bytes) (d : BareDef) → defines (struct_name tag) d ≡ true → IsStruct (Some d) → tag_of d ≡ Some tag
tags_own tag (bare.Struct own members) is h =
    let same : tag ≡ own = ap (drop 7) ((bytes_eq-Decides (struct_name tag) (struct_name own)).0 is) in ap Some (sym same)
tags_own tag _ is h = absurd h

never : ⊥ → ⊥
never h = h

-- so the globals, the arrays and the structs of a text are among the names of all texts
pub names_listed : (texts : List (List BareDef)) (text : List BareDef) → Contains texts text → AreNamesOf (names_in texts) text
names_listed texts text there = record {
  cells = λ name d defined cells.
      let own : HasCells (definition text name) = subst HasCells (sym defined) cells in
      let among : Contains (names_of text).cells name =
      subst (λ (ns : List Bytes). Contains ns name) (named_cells text) (listed (name_by Cells) name name HasCells never (cells_own name) text own) in
      once_has _ name (in_each (λ x. (names_of x).cells) texts text name there among);
  tags = λ tag struct.
      once_has _ tag (in_each (λ x. (names_of x).tags) texts text tag there (listed tag_of (struct_name tag) tag IsStruct never (tags_own tag) text struct));
}
