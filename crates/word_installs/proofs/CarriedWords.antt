-- What a name of the newer text gets is what becomes of its words.
use Rattle.std.proofs.Common.{◌≡◌, ℕ, true, false, List, map, Option, Some, None, All, refl, sym, ap, subst, ◌∙◌}
use Rattle.std.specs.Option.{option_map_or}
use Rattle.std.proofs.lemmas.Option.{same_Some}
use Rattle.c_tree.specs.BareExpr.{Bytes}
use Rattle.c_tree.specs.BareDef.{BareDef, Struct, Forward, Mutex, Function, Prototype, Global, Array, TransformStruct, TransformGlobal}
use Rattle.c_semantics.specs.Texts.{definition, global_type, int}
use Rattle.c_semantics.specs.Changes.{same_interface}
use Rattle.c_semantics.specs.Constants.{initial_cells}
use Rattle.source_model.specs.Installs.{has_cells}
use Rattle.constant_values.specs.Kinds.{kind_of}
use Rattle.bytecode.specs.Words.{word_of}
use Rattle.code_runs.specs.CodeInstalls.{Carries, CarriesBy, Transforms}
use Rattle.type_transformers.specs.declared.change.Change.{Change}
use Rattle.type_transformers.specs.declared.global.GlobalChange.{GlobalChange}
use Rattle.type_transformers.specs.Changes.{changing, name_of, IsChange, IsGlobalChange}
use Rattle.word_installs.specs.declared.rows.TextRow.{TextRow}
use Rattle.word_installs.specs.TextRows.{IsRow, IsRowOf}
use Rattle.word_installs.specs.NewRows.{GetsWords, cells_change, first_if_new, kind_in, words_or}
use Rattle.word_installs.proofs.FoundChanges.{differs, found, stays}

no : false ≡ true → ⊥
no e = cc

-- what has no cells has no type of its own, and no interface of what has cells
no_type : (a : BareDef) → has_cells a ≡ false → global_type (Some a) ≡ int
no_type (Global d) none = absurd (no (sym none))
no_type (Array t name n values) none = absurd (no (sym none))
no_type (Struct tag members) none = refl
no_type (Forward tag) none = refl
no_type (Mutex name) none = refl
no_type (Function r name ps body) none = refl
no_type (Prototype r name ps) none = refl
no_type (TransformStruct tag values) none = refl
no_type (TransformGlobal name value) none = refl

no_interface : (a d : BareDef) → has_cells a ≡ false → has_cells d ≡ true → same_interface a d ≡ true → ⊥
no_interface (Global b) d none has same = no (sym none)
no_interface (Array t name n values) d none has same = no (sym none)
no_interface (Struct tag members) (Global b) none has same = no same
no_interface (Struct tag members) (Array t name n values) none has same = no same
no_interface (Forward tag) (Global b) none has same = no same
no_interface (Forward tag) (Array t name n values) none has same = no same
no_interface (Mutex m) (Global b) none has same = no same
no_interface (Mutex m) (Array t name n values) none has same = no same
no_interface (Function r f ps body) (Global b) none has same = no same
no_interface (Function r f ps body) (Array t name n values) none has same = no same
no_interface (Prototype r f ps) (Global b) none has same = no same
no_interface (Prototype r f ps) (Array t name n values) none has same = no same
no_interface (TransformStruct tag given) (Global b) none has same = no same
no_interface (TransformStruct tag given) (Array t name n values) none has same = no same
no_interface (TransformGlobal g value) (Global b) none has same = no same
no_interface (TransformGlobal g value) (Array t name n values) none has same = no same
no_interface _ _ none has same = no has

module _ (p q : List BareDef) (changes : List Change) (named : map name_of changes ≡ changing p q) (are : All (IsChange p q) changes) where
  -- what was there has the kind of its row
  kind_before : (name : Bytes) (o : Option TextRow) (a : BareDef) → IsRowOf p name o → definition p name ≡ Some a
      → kind_of (global_type (Some a)) ≡ kind_in o
  kind_before name None a row was =
      ap kind_of (no_type a (sym (ap (λ d. option_map_or has_cells d false) was) ∙ row))
  kind_before name (Some r) a row was =
      let same : row.own ≡ a = same_Some row.own a (sym row.defined ∙ was) in
      sym (row.kind ∙ ap (λ d. kind_of (global_type (Some d))) same)

  own_name : (name : Bytes) (new : TextRow) → IsRow q name new → (o : Option GlobalChange) → cells_change changes new.name ≡ o
      → cells_change changes name ≡ o
  own_name name new row o e = ap (cells_change changes) (sym row.named) ∙ e

  -- new words that are made by the change of the name
  pub gets_changed : (old : Option TextRow) (new : TextRow) (words made : List ℕ) (c : GlobalChange) → cells_change changes new.name ≡ Some c
      → ((name : Bytes) (before : BareDef) → IsGlobalChange p q name c → definition p name ≡ Some before
      → kind_of (global_type (Some before)) ≡ kind_in old → Transforms p q name before words made)
      → GetsWords p q old (Some new) words (Some made)
  gets_changed old new words made c e transforms = λ name d was_row is_row is has.
      let e = own_name name new is_row (Some c) e in
      let d_differs = differs p q changes named are name d is c e in
      let a = d_differs.before in
      let becomes : Transforms p q name a words made =
      transforms name a (found p q changes named are name c e) d_differs.was (kind_before name old a was_row d_differs.was)
      in
      subst (λ o. Carries p q name d o words made) (sym d_differs.was)
      (subst (λ b. CarriesBy b p q name a words made) (sym d_differs.other) becomes)

  -- the first words of what is new
  first_carried : (new : TextRow) (words : List ℕ) (name : Bytes) (d : BareDef) → IsRow q name new → definition q name ≡ Some d
      → has_cells d ≡ true → IsRowOf p name None → cells_change changes name ≡ None → (o : Option BareDef) → definition p name ≡ o
      → Carries p q name d o words new.first.items
  first_carried new words name d is_row is has was_row e None was = λ naming.
      let same : is_row.own ≡ d = same_Some is_row.own d (sym is_row.defined ∙ is) in
      is_row.first naming ∙ ap (λ x. map (word_of naming) (initial_cells x)) same
  first_carried new words name d is_row is has was_row e (Some a) was =
      absurd (no_interface a d (sym (ap (λ x. option_map_or has_cells x false) was) ∙ was_row) has
      (stays p q changes named are name d is has a was e))

  -- without a change the words stay, or are the first ones of what is new
  pub gets_first : (old : Option TextRow) (new : TextRow) (words : List ℕ) (made : Option (List ℕ)) → cells_change changes new.name ≡ None
      → made ≡ first_if_new old new → GetsWords p q old (Some new) words made
  gets_first None new words made e is_first = λ name d was_row is_row is has.
      subst (λ m. Carries p q name d (definition p name) words (words_or m words)) (sym is_first)
      (first_carried new words name d is_row is has was_row (own_name name new is_row None e) (definition p name) refl)
  gets_first (Some r) new words made e is_first = λ name d was_row is_row is has.
      let e = own_name name new is_row None e in
      let a = was_row.own in
      let stay : same_interface a d ≡ true = stays p q changes named are name d is has a was_row.defined e in
      subst (λ m. Carries p q name d (definition p name) words (words_or m words)) (sym is_first)
      (subst (λ o. Carries p q name d o words words) (sym was_row.defined)
      (subst (λ b. CarriesBy b p q name a words words) (sym stay) refl))
