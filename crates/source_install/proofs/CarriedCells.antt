-- The cells of globals at an install.
use Rattle.std.proofs.Common.{◌≡◌, Bool, Bor, option_copied, true, false, if◌then◌else◌, List, [], map, find, Option, Some, None, option_map, All, bytes_eq, unwrap_or, refl, sym, ap, ◌∙◌}
use Rattle.std.specs.Option.{option_map_or}
use Rattle.std.proofs.lemmas.Slice.Eq.{bytes_eq-Decides}
use Rattle.name_sets.specs.NameLists.{is_among}
use Rattle.c_tree.specs.BareExpr.{Bytes, BareExpr}
use Rattle.c_tree.specs.BareDef.{BareDef}
use Rattle.c_tree.specs.BareDef as bare
use Rattle.c_definitions.specs.Index.{is_key}
use Rattle.c_semantics.specs.Changes.{same_interface}
use Rattle.c_semantics.specs.Names.{struct_name}
use Rattle.c_semantics.specs.Texts.{defined, definition}
use Rattle.c_semantics.specs.Transformers.{given_value, new_cells, transformed_global}
use Rattle.c_semantics.specs.Values.{Value as Seen}
use Rattle.source_model.specs.Worlds.{World, cells_of as cells_in_world}
use Rattle.source_model.specs.Worlds as world
use Rattle.source_model.specs.Installs.{carried, has_cells}
use Rattle.local_evaluation.specs.declared.value.Value.{Value}
use Rattle.local_evaluation.specs.Values.{seen}
use Rattle.type_transformers.specs.declared.change.Change.{Change}
use Rattle.type_transformers.specs.declared.change.Change.TheVariants as change
use Rattle.type_transformers.specs.declared.global.GlobalChange.{GlobalChange}
use Rattle.type_transformers.specs.Cells.{cells_by}
use Rattle.type_transformers.specs.Changes.{changing, has_data, is_struct, name_of, IsChange}
use Rattle.source_programs.specs.declared.globals.Cells.{Cells}
use Rattle.source_programs.specs.Globals.{globals_of}
use Rattle.source_install.specs.declared.changes.Data.TheVariants.{Global as OfGlobal}
use Rattle.source_install.specs.FoundChanges.{cells_in, found, key_of}
use Rattle.source_install.specs.OwnCells.{IsOwn, cells_by_if}
use Rattle.source_data.proofs.DataChanges.{found_is, found_passes, none_found, stays}

same_bytes : (a b : Bytes) → bytes_eq a b ≡ true → a ≡ b
same_bytes a b e = (bytes_eq-Decides a b).0 e

-- ---- definitions with cells

cells_data : (d : BareDef) → has_cells d ≡ true → has_data (Some d) ≡ true
cells_data (bare.Global v) cells = refl
cells_data (bare.Array t name n values) cells = refl
cells_data (bare.Struct tag members) cells = cc
cells_data (bare.Forward tag) cells = cc
cells_data (bare.Mutex name) cells = cc
cells_data (bare.Function r name ps body) cells = cc
cells_data (bare.Prototype r name ps) cells = cc
cells_data (bare.TransformStruct tag values) cells = cc
cells_data (bare.TransformGlobal name value) cells = cc

no_struct : (d : BareDef) → has_cells d ≡ true → is_struct (Some d) ≡ true → ⊥
no_struct (bare.Struct tag members) cells is = cc
no_struct (bare.Forward tag) cells is = cc
no_struct (bare.Mutex name) cells is = cc
no_struct (bare.Function r name ps body) cells is = cc
no_struct (bare.Prototype r name ps) cells is = cc
no_struct (bare.Global v) cells is = cc
no_struct (bare.Array t name n values) cells is = cc
no_struct (bare.TransformStruct tag values) cells is = cc
no_struct (bare.TransformGlobal name value) cells is = cc

-- what has none has none after an install
abbrev have_cells : Option BareDef → Bool
have_cells None = false
have_cells (Some d) = has_cells d

no_cells : (a b : Option BareDef) (given : Option BareExpr) (cells : List Seen) → have_cells b ≡ false → new_cells a b given cells ≡ []
no_cells (Some (bare.Global v)) (Some (bare.Global w)) given cells h = cc
no_cells (Some (bare.Array t name n values)) (Some (bare.Array u other m more)) given cells h = cc
no_cells a (Some (bare.Global w)) given cells h = cc
no_cells a (Some (bare.Array u other m more)) given cells h = cc
no_cells _ _ given cells h = refl

-- ---- a global of the newer text by the changes that are found

module _ (p q : List BareDef) (changes : List Change) (named : map name_of changes ≡ changing p q) (are : All (IsChange p q) changes)
    (name : Bytes) (d : BareDef) (cells : has_cells d ≡ true) (defines_it : defined d ≡ Some name) (own : IsOwn q d) where
  is_cells_change : (o : Option Change) (c : GlobalChange) → cells_in o ≡ Some c → (n : Bytes) × (o ≡ Some (change.Global n c))
  is_cells_change None c e = cc
  is_cells_change (Some (change.Struct tag transform)) c e = cc
  is_cells_change (Some (change.Global n x)) c e = let same : x ≡ c = cc in (n, ap (λ x. Some (change.Global n x)) same)

  -- what a change that is found says
  changed : (c : GlobalChange) (old : List Seen) → cells_in (found OfGlobal changes name) ≡ Some c → transformed_global p q name old ≡ cells_by c old
  changed c old e =
      let at = is_cells_change (found OfGlobal changes name) c e in
      let test : Change → Bool = λ c. is_key name (key_of OfGlobal c) in
      let same : name ≡ at.0 = same_bytes name at.0 (found_passes test changes (change.Global at.0 c) at.1) in
      let made = found_is (IsChange p q) test changes (change.Global at.0 c) are at.1 in
      ap (λ n. transformed_global p q n old) same ∙ sym (made.cells old)

  no_cells_change : (o : Option Change) → found OfGlobal changes name ≡ o → cells_in o ≡ None → found OfGlobal changes name ≡ None
  no_cells_change None at e = at
  no_cells_change (Some (change.Global n c)) at e = cc
  no_cells_change (Some (change.Struct tag transform)) at e =
      let never : false ≡ true = found_passes (λ c. is_key name (key_of OfGlobal c)) changes (change.Struct tag transform) at in cc

  -- where none is found, the data of what has cells stay
  not_changing : (b : BareDef) → definition q name ≡ Some b → has_cells b ≡ true → cells_in (found OfGlobal changes name) ≡ None
      → is_among (changing p q) name ≡ false
  not_changing b is has e =
      ap (λ ns. is_among ns name) (sym named)
      ∙ none_found (IsChange p q) (λ c. is_key name (key_of OfGlobal c)) changes name are
      other (no_cells_change (found OfGlobal changes name) refl e)
    where
      other : (c : Change) → IsChange p q c → is_key name (key_of OfGlobal c) ≡ false → bytes_eq name (name_of c) ≡ false
      other (change.Global n c) made fails = fails
      other (change.Struct tag transform) made fails = by (bytes_eq name (struct_name tag)) refl
        where
          by : (t : Bool) → bytes_eq name (struct_name tag) ≡ t → t ≡ false
          by false e = refl
          by true e =
              absurd (no_struct b has
              (ap is_struct (sym is) ∙ ap (λ n. is_struct (definition q n)) (same_bytes name (struct_name tag) e) ∙ made.defined))

  -- where none is found and the interface is another, it has no cells
  unchanged : (a : BareDef) (old : List Seen) → definition p name ≡ Some a → same_interface a d ≡ false
      → cells_in (found OfGlobal changes name) ≡ None → transformed_global p q name old ≡ []
  unchanged a old was differs none = by (definition q name) refl
    where
      by : (o : Option BareDef) → definition q name ≡ o → new_cells (definition p name) o (given_value q name) old ≡ []
      by None is = no_cells (definition p name) None (given_value q name) old refl
      by (Some b) is = for (has_cells b) refl
        where
          for : (h : Bool) → has_cells b ≡ h → new_cells (definition p name) (Some b) (given_value q name) old ≡ []
          for false has = no_cells (definition p name) (Some b) (given_value q name) old has
          for true has =
              let same : b ≡ d = own cells name defines_it b is has in
              let stay : same_interface a b ≡ true = stays p q name a b (not_changing b is has none) was is (cells_data b has) in
              absurd (let clash : true ≡ false = sym stay ∙ ap (same_interface a) same ∙ differs in cc)

  -- its cells after the install
  pub carried_is : (w : World) (a : BareDef) → definition p name ≡ Some a → (change : Option GlobalChange) → change ≡ cells_in (found OfGlobal changes name)
      → (held : List Value) → cells_in_world w name ≡ map seen held → (keeps : Bool) → keeps ≡ same_interface a d
      → (if keeps then map seen held else cells_by_if change (map seen held)) ≡ carried w p q d name (definition p name)
  carried_is w a was change change_is held held_is keeps keeps_is =
      sym (ap (carried w p q d name) was
      ∙ ap (λ b. if b then cells_in_world w name else transformed_global p q name (cells_in_world w name)) (sym keeps_is)
      ∙ by keeps keeps_is)
    where
      after : (o : Option GlobalChange) → o ≡ cells_in (found OfGlobal changes name) → same_interface a d ≡ false
          → transformed_global p q name (map seen held) ≡ cells_by_if o (map seen held)
      after None is differs = unchanged a (map seen held) was differs (sym is)
      after (Some c) is differs = changed c (map seen held) (sym is)

      by : (b : Bool) → b ≡ same_interface a d
          → (if b then cells_in_world w name else transformed_global p q name (cells_in_world w name))
          ≡ (if b then map seen held else cells_by_if change (map seen held))
      by true e = held_is
      by false e = ap (transformed_global p q name) held_is ∙ after change change_is (sym e)

-- the cells of the first of a name
abbrev found_cells : Bytes → List world.Cells → Option (List Seen)
found_cells name gs = option_map (λ g. g.cells) (find (λ g. bytes_eq name g.name) gs)

-- the values of cells that are lent
pub seen_lent : (r : Option (Bor (List Value))) → option_map (λ c. map seen c.now) r ≡ option_map (map seen) (option_copied r)
seen_lent None = refl
seen_lent (Some c) = refl

-- those of a global, as the definitions have them
pub lent_cells : (name : Bytes) (w : World) (old : List Cells) (r : Option (Bor (List Value))) (held : List Value) → w.globals ≡ globals_of old
    → option_map (λ c. map seen c.now) r ≡ found_cells name (globals_of old) → held ≡ unwrap_or (option_copied r) []
    → cells_in_world w name ≡ map seen held
lent_cells name w old r held shared is here =
    ap (λ gs. option_map_or (λ g. g.cells) (find (λ g. bytes_eq name g.name) gs) []) shared
    ∙ or_none (find (λ g. bytes_eq name g.name) (globals_of old))
    ∙ ap (λ o. unwrap_or o []) (sym is)
    ∙ seen_or_none r
    ∙ ap (map seen) (sym here)
  where
    or_none : (o : Option world.Cells) → option_map_or (λ g. g.cells) o [] ≡ unwrap_or (option_map (λ g. g.cells) o) []
    or_none None = refl
    or_none (Some g) = refl

    seen_or_none : (r : Option (Bor (List Value))) → unwrap_or (option_map (λ c. map seen c.now) r) [] ≡ map seen (unwrap_or (option_copied r) [])
    seen_or_none None = refl
    seen_or_none (Some c) = refl
