-- Stops at globals and arrays: the words that are read and written are those of the values.
use Rattle.std.proofs.Common.{◌≡◌, ℕ, ◌<◌, ◌≤◌, ◌^◌, Bool, true, false, List, [], ◌∷◌, append-nil, length, get_or, set, slice_get, Option, Some, unwrap_or, unsigned_abs, ltb, cond, All, refl, sym, ap, subst, ◌∙◌, bytes_eq, if◌then◌else◌, arith}
use Rattle.std.proofs.lemmas.Bool.{ltb-true}
use Rattle.std.proofs.lemmas.List.{get_or-map, get_or-set_other, get_or-set_same, length-map, length-set, map-set}
use Rattle.std.proofs.lemmas.List.Elements.{All-get_or, All-head}
use Rattle.std.proofs.lemmas.Option.{unwrap_or-slice_get}
use Rattle.run_types.specs.declared.trap.TrapKind.TheVariants.{Index}
use Rattle.c_ints.specs.declared.int.Int.{Int}
use Rattle.c_ints.specs.Number.{kind_of, value_of}
use Rattle.c_tree.specs.BareExpr.{Bytes, BareType}
use Rattle.c_tree.specs.BareDef.{BareDef, Array, Global}
use Rattle.c_semantics.specs.Texts.{definition, global_type}
use Rattle.c_semantics.specs.Values.{Value, Number, int_of}
use Rattle.c_semantics.specs.Stops.{ReadElement, ReadGlobal, WriteElement, WriteGlobal}
use Rattle.c_semantics.specs.Transformers.{first_cell}
use Rattle.source_model.specs.Worlds.{cells_of, with_cells}
use Rattle.source_model.specs.Moves.{goes_on, in_bounds, traps}
use Rattle.typed_transformers.specs.TransformerTypes.{HasCells}
use Rattle.typed_trees.specs.ValueTypes.{HasType, HaveTypes}
use Rattle.typed_trees.specs.ExpressionTypes.{IsArray, IsVariable}
use Rattle.typed_trees.specs.PieceTypes.{Stack}
use Rattle.typed_runs.proofs.SameUses.{SameUse, array_cells, variable_cells}
use Rattle.bytecode.specs.Words.{integer_word, word_of}
use Rattle.tree_code.specs.Ranges.{AllRanged, Ranged}
use Rattle.code_runs.specs.CodeData.{number_of, row, with_row}
use Rattle.code_runs.specs.SharedStops.{Done, goes, read_element, traps as traps_with, write_element}
use Rattle.code_run_laws.specs.DataMatches.{DataMatches}
use Rattle.code_run_laws.proofs.AtStop.{AtStop, Comes, cells_number, comes_as, goes_beside, goes_here, has_now, look_of, now_of, numbers_now, tags_at, traps_here, words_at}
use Rattle.code_run_laws.proofs.IndexWords.{index_bounds, index_place}
use Rattle.code_run_laws.proofs.NameNumbers.{itself, number_is, numbers_apart, same_bytes}
use Rattle.code_run_laws.proofs.RangedValues.{first_ranged, ranged_at, ranged_set}
use Rattle.code_run_laws.proofs.WrittenCells.{cells_left, cells_now}

no : false ≡ true → ⊥
no e = cc

module _ (a : AtStop) where
  abbrev cells : Bytes → List Value
  cells name = cells_of a.standing.world name

  abbrev HasNow : Bytes → Type 0
  HasNow name = HasCells (definition a.standing.world.text name)

  abbrev number : Bytes → ℕ
  number name = number_of a.names.cells name

  -- the cells of a name have the type that the frame knows
  cells_have : (name : Bytes) → SameUse (look_of a name) (now_of a name) → HasCells (now_of a name)
      → All (HasType (tags_at a) (global_type (look_of a name))) (cells name)
  cells_have name same c = subst (λ t. All (HasType (tags_at a) t) (cells name)) (sym same.global_is) (a.ready.world.globals name c)

  -- a variable has one cell
  one_cell : (name : Bytes) (o : Option BareDef) → definition a.standing.world.text name ≡ o → IsVariable o
      → (v : Value) × (cells name ≡ v ∷ [])
  one_cell name (Some (Global g)) e is = let one = a.ready.holds.variables name g e in (one.value, one.is)
  one_cell name _ e is = absurd is

  one_now : (name : Bytes) → SameUse (look_of a name) (now_of a name) → IsVariable (look_of a name) → (v : Value) × (cells name ≡ v ∷ [])
  one_now name same is = one_cell name (definition a.standing.world.text name) refl (has_now a IsVariable name (same.variable is))

  -- an array is short
  short_array : (name : Bytes) (o : Option BareDef) → definition a.standing.world.text name ≡ o → IsArray o → length (cells name) ≤ 2 ^ 63
  short_array name (Some (Array type own n values)) e is =
      let count = (a.ready.holds.arrays name own type n values e).count in
      let short = (numbers_now a).short name own type n values e in
      subst (λ m. m ≤ 2 ^ 63) (sym count) short
  short_array name _ e is = absurd is

  short_now : (name : Bytes) → SameUse (look_of a name) (now_of a name) → IsArray (look_of a name) → length (cells name) ≤ 2 ^ 63
  short_now name same is = short_array name (definition a.standing.world.text name) refl (has_now a IsArray name (same.array is))

  row_is : (name : Bytes) → HasNow name → row a.data_of (number name) ≡ words_at a (cells name)
  row_is name has = a.matches.cells name has

  row_length : (name : Bytes) → HasNow name → length (row a.data_of (number name)) ≡ length (cells name)
  row_length name has = ap length (row_is name has) ∙ length-map (cells name) (word_of a.naming)

  -- ---- reads

  first_word : (vs : List Value) → get_or (words_at a vs) 0 0 ≡ word_of a.naming (first_cell vs)
  first_word [] = refl
  first_word (v ∷ vs) = refl

  first_has : (t : BareType) (vs : List Value) → (v : Value) × (vs ≡ v ∷ []) → All (HasType (tags_at a) t) vs
      → HasType (tags_at a) t (first_cell vs)
  first_has t vs one h =
      subst (λ us. HasType (tags_at a) t (first_cell us)) (sym one.1)
      (All-head (HasType (tags_at a) t) one.0 [] (subst (All (HasType (tags_at a) t)) one.1 h))

  pub read_global_alike : (name : Bytes) (values : List Value) (types : Stack) (done : Done) → SameUse (look_of a name) (now_of a name)
      → IsVariable (look_of a name) → a.then_are (global_type (look_of a name) ∷ types) → HaveTypes (tags_at a) types values → AllRanged values
      → done ≡ goes a.data_of (get_or (row a.data_of (number name)) 0 0 ∷ words_at a values) → Comes a (ReadGlobal name) values done
  read_global_alike name values types done same is on h ranged e =
      let has : HasCells (now_of a name) = variable_cells (now_of a name) (same.variable is) in
      let there : HasNow name = has_now a HasCells name has in
      let word : get_or (row a.data_of (number name)) 0 0 ≡ word_of a.naming (first_cell (cells name)) =
      ap (λ r. get_or r 0 0) (row_is name there) ∙ first_word (cells name) in
      comes_as a (ReadGlobal name) values done (goes a.data_of (words_at a (first_cell (cells name) ∷ values)))
      (e ∙ ap (λ w. goes a.data_of (w ∷ words_at a values)) word)
      (goes_here a (ReadGlobal name) values (first_cell (cells name) ∷ values) (global_type (look_of a name) ∷ types) refl on
      (first_has (global_type (look_of a name)) (cells name) (one_now name same is) (cells_have name same has), h)
      (first_ranged (cells name) (a.matches.ranged name there), ranged))

  -- ---- writes

  -- the words of one name are written
  data_written : (name : Bytes) (new : List Value) (words : List ℕ) → HasNow name → 0 < length (cells name) → words ≡ words_at a new
      → AllRanged new
      → DataMatches a.texts a.names a.naming a.objects (with_cells name new a.standing.world) (with_row a.data_of (number name) words)
  data_written name new words has there are ranged = record {
    rows = length-set a.data_of.cells (number name) words ∙ a.matches.rows;
    cells = λ n h. row_by n h (bytes_eq n name) refl;
    ranged = λ n h. ranged_by n h (bytes_eq n name) refl;
    named = a.matches.named;
    objects_match = a.matches.objects_match;
    capacity = a.matches.capacity;
    mutexes = a.matches.mutexes;
    holders = a.matches.holders;
    version = a.matches.version;
  }
    where
      within : number name < length a.data_of.cells
      within = let at = (number_is a.names.cells name (cells_number a name has)).within in let same = a.matches.rows in omega (arith, at, same)

      other : (n : Bytes) → bytes_eq n name ≡ false → n ≡ name → ⊥
      other n differs e = no (sym differs ∙ ap (bytes_eq n) (sym e) ∙ itself n)

      row_by : (n : Bytes) → HasNow n → (b : Bool) → bytes_eq n name ≡ b
          → get_or (set a.data_of.cells (number name) words) (number n) [] ≡ words_at a (cells_of (with_cells name new a.standing.world) n)
      row_by n h true is =
          subst (λ m. get_or (set a.data_of.cells (number name) words) (number m) [] ≡ words_at a (cells_of (with_cells name new a.standing.world) m))
          (sym (same_bytes n name is))
          (get_or-set_same a.data_of.cells (number name) words [] within ∙ are
          ∙ ap (words_at a) (sym (cells_now name new a.standing.world.globals there)))
      row_by n h false is =
          get_or-set_other a.data_of.cells (number name) (number n) words []
          (λ e. other n is (numbers_apart a.names.cells n name (cells_number a n h) (cells_number a name has) e))
          ∙ a.matches.cells n h ∙ ap (words_at a) (sym (cells_left name new a.standing.world.globals n (other n is)))

      ranged_by : (n : Bytes) → HasNow n → (b : Bool) → bytes_eq n name ≡ b → AllRanged (cells_of (with_cells name new a.standing.world) n)
      ranged_by n h true is =
          subst (λ m. AllRanged (cells_of (with_cells name new a.standing.world) m)) (sym (same_bytes n name is))
          (subst AllRanged (sym (cells_now name new a.standing.world.globals there)) ranged)
      ranged_by n h false is =
          subst AllRanged (sym (cells_left name new a.standing.world.globals n (other n is))) (a.matches.ranged n h)

  -- one cell is written
  set_first : (row : List ℕ) (vs : List Value) (v : Value) → row ≡ words_at a vs → (u : Value) × (vs ≡ u ∷ [])
      → set row 0 (word_of a.naming v) ≡ word_of a.naming v ∷ []
  set_first row vs v e one = ap (λ r. set r 0 (word_of a.naming v)) (e ∙ ap (words_at a) one.1)

  pub write_global_alike : (name : Bytes) (v : Value) (values : List Value) (t : BareType) (under : Stack) (done : Done)
      → SameUse (look_of a name) (now_of a name) → IsVariable (look_of a name) → t ≡ global_type (look_of a name)
      → a.then_are (global_type (look_of a name) ∷ under) → HaveTypes (tags_at a) (t ∷ under) (v ∷ values) → AllRanged (v ∷ values)
      → done ≡ goes (with_row a.data_of (number name) (set (row a.data_of (number name)) 0 (word_of a.naming v))) (words_at a (v ∷ values))
      → Comes a (WriteGlobal name) (v ∷ values) done
  write_global_alike name v values t under done same is type on h ranged e =
      let has : HasCells (now_of a name) = variable_cells (now_of a name) (same.variable is) in
      let there : HasNow name = has_now a HasCells name has in
      let one : (u : Value) × (cells name ≡ u ∷ []) = one_now name same is in
      let count : length (cells name) ≡ 1 = ap length one.1 in
      let words : List ℕ = set (row a.data_of (number name)) 0 (word_of a.naming v) in
      comes_as a (WriteGlobal name) (v ∷ values) done (goes (with_row a.data_of (number name) words) (words_at a (v ∷ values))) e
      (goes_beside a (WriteGlobal name) (v ∷ values) (v ∷ values) (global_type (look_of a name) ∷ under)
      (with_cells name (v ∷ []) a.standing.world) (with_row a.data_of (number name) words) []
      (record { objects = refl; slots = refl; threads = refl; finish = refl; misused = refl })
      (sym (append-nil a.standing.world.output)) refl
      (data_written name (v ∷ []) words there (omega (arith, count)) (set_first (row a.data_of (number name)) (cells name) v (row_is name there) one)
      (ranged.0, tt)) on (subst (λ u. HasType (tags_at a) u v) type h.0, h.1) ranged)

  -- ---- elements

  -- the word of an index is in the row exactly where the index is in bounds
  row_bounds : (name : Bytes) (n : Int) → HasNow name → length (cells name) ≤ 2 ^ 63 → Ranged (Number n)
      → ltb (integer_word (value_of n)) (length (row a.data_of (number name))) ≡ in_bounds (value_of n) (cells name)
  row_bounds name n has short ranged =
      ap (ltb (integer_word (value_of n))) (row_length name has) ∙ sym (index_bounds (kind_of n) (value_of n) (cells name) ranged short)

  place_within : (name : Bytes) (n : Int) → HasNow name → length (cells name) ≤ 2 ^ 63 → Ranged (Number n)
      → in_bounds (value_of n) (cells name) ≡ true → unsigned_abs (value_of n) < length (cells name)
  place_within name n has short ranged is =
      subst (λ m. m < length (cells name)) (index_place (kind_of n) (value_of n) (cells name) ranged is)
      (ltb-true (integer_word (value_of n)) (length (cells name))
      (sym (index_bounds (kind_of n) (value_of n) (cells name) ranged short) ∙ is))

  read_word : (name : Bytes) (n : Int) → HasNow name → length (cells name) ≤ 2 ^ 63 → Ranged (Number n)
      → in_bounds (value_of n) (cells name) ≡ true
      → get_or (row a.data_of (number name)) (integer_word (value_of n)) 0
      ≡ word_of a.naming (unwrap_or (slice_get (cells name) (unsigned_abs (value_of n))) (int_of 0))
  read_word name n has short ranged is =
      let at = unsigned_abs (value_of n) in
      ap (λ r. get_or r (integer_word (value_of n)) 0) (row_is name has)
      ∙ ap (λ m. get_or (words_at a (cells name)) m 0) (index_place (kind_of n) (value_of n) (cells name) ranged is)
      ∙ get_or-map (word_of a.naming) (cells name) at (int_of 0) 0 (place_within name n has short ranged is)
      ∙ ap (word_of a.naming) (sym (unwrap_or-slice_get (cells name) at (int_of 0)))

  pub read_element_alike : (name : Bytes) (n : Int) (values : List Value) (under : Stack) (done : Done)
      → SameUse (look_of a name) (now_of a name) → IsArray (look_of a name) → a.then_are (global_type (look_of a name) ∷ under)
      → HaveTypes (tags_at a) under values → AllRanged (Number n ∷ values)
      → done ≡ read_element a.data_of (number name) (word_of a.naming (Number n)) (words_at a values)
      → Comes a (ReadElement name) (Number n ∷ values) done
  read_element_alike name n values under done same array on h ranged e = by (in_bounds (value_of n) (cells name)) refl
    where
      has : HasCells (now_of a name)
      has = array_cells (now_of a name) (same.array array)

      there : HasNow name
      there = has_now a HasCells name has

      short : length (cells name) ≤ 2 ^ 63
      short = short_now name same array

      known : (b : Bool) → in_bounds (value_of n) (cells name) ≡ b
          → done ≡ cond b (goes a.data_of (get_or (row a.data_of (number name)) (integer_word (value_of n)) 0 ∷ words_at a values)) (traps_with a.data_of Index)
      known b is =
          e
          ∙ ap (λ t. cond t (goes a.data_of (get_or (row a.data_of (number name)) (integer_word (value_of n)) 0 ∷ words_at a values)) (traps_with a.data_of Index))
          (row_bounds name n there short ranged.0 ∙ is)

      element : Value
      element = unwrap_or (slice_get (cells name) (unsigned_abs (value_of n))) (int_of 0)

      by : (b : Bool) → in_bounds (value_of n) (cells name) ≡ b → Comes a (ReadElement name) (Number n ∷ values) done
      by true is =
          let type = global_type (look_of a name) in
          let at = unsigned_abs (value_of n) in
          let same_element = sym (unwrap_or-slice_get (cells name) at (int_of 0)) in
          comes_as a (ReadElement name) (Number n ∷ values) done (goes a.data_of (words_at a (element ∷ values)))
          (known true is ∙ ap (λ w. goes a.data_of (w ∷ words_at a values)) (read_word name n there short ranged.0 is))
          (goes_here a (ReadElement name) (Number n ∷ values) (element ∷ values) (type ∷ under)
          (ap (λ t. if t then goes_on a.standing a.standing.world (element ∷ values) else traps a.standing Index) is) on (
            subst (HasType (tags_at a) type) same_element
                (All-get_or (HasType (tags_at a) type) (cells name) at (int_of 0) (place_within name n there short ranged.0 is) (cells_have name same has)),
            h,
          )
          (subst Ranged same_element (ranged_at (cells name) at (a.matches.ranged name there)), ranged.1))
      by false is =
          comes_as a (ReadElement name) (Number n ∷ values) done (traps_with a.data_of Index) (known false is)
          (traps_here a (ReadElement name) (Number n ∷ values) Index
          (ap (λ t. if t then goes_on a.standing a.standing.world (element ∷ values) else traps a.standing Index) is))

  pub write_element_alike : (name : Bytes) (v : Value) (n : Int) (values : List Value) (t : BareType) (under : Stack) (done : Done)
      → SameUse (look_of a name) (now_of a name) → IsArray (look_of a name) → t ≡ global_type (look_of a name)
      → a.then_are (global_type (look_of a name) ∷ under) → HasType (tags_at a) t v → HaveTypes (tags_at a) under values
      → AllRanged (v ∷ Number n ∷ values)
      → done ≡ write_element a.data_of (number name) (word_of a.naming (Number n)) (word_of a.naming v) (words_at a values)
      → Comes a (WriteElement name) (v ∷ Number n ∷ values) done
  write_element_alike name v n values t under done same array type on own h ranged e = by (in_bounds (value_of n) (cells name)) refl
    where
      has : HasCells (now_of a name)
      has = array_cells (now_of a name) (same.array array)

      there : HasNow name
      there = has_now a HasCells name has

      short : length (cells name) ≤ 2 ^ 63
      short = short_now name same array

      at : ℕ
      at = unsigned_abs (value_of n)

      new : List Value
      new = set (cells name) at v

      words : List ℕ
      words = set (row a.data_of (number name)) (integer_word (value_of n)) (word_of a.naming v)

      known : (b : Bool) → in_bounds (value_of n) (cells name) ≡ b
          → done ≡ cond b (goes (with_row a.data_of (number name) words) (words_at a (v ∷ values))) (traps_with a.data_of Index)
      known b is =
          e
          ∙ ap (λ t. cond t (goes (with_row a.data_of (number name) words) (words_at a (v ∷ values))) (traps_with a.data_of Index))
          (row_bounds name n there short ranged.1.0 ∙ is)

      words_are : in_bounds (value_of n) (cells name) ≡ true → words ≡ words_at a new
      words_are is =
          ap (λ r. set r (integer_word (value_of n)) (word_of a.naming v)) (row_is name there)
          ∙ ap (λ m. set (words_at a (cells name)) m (word_of a.naming v)) (index_place (kind_of n) (value_of n) (cells name) ranged.1.0 is)
          ∙ sym (map-set (word_of a.naming) (cells name) at v)

      by : (b : Bool) → in_bounds (value_of n) (cells name) ≡ b → Comes a (WriteElement name) (v ∷ Number n ∷ values) done
      by true is =
          let within : at < length (cells name) = place_within name n there short ranged.1.0 is in
          comes_as a (WriteElement name) (v ∷ Number n ∷ values) done (goes (with_row a.data_of (number name) words) (words_at a (v ∷ values))) (known true is)
          (goes_beside a (WriteElement name) (v ∷ Number n ∷ values) (v ∷ values) (global_type (look_of a name) ∷ under)
          (with_cells name new a.standing.world) (with_row a.data_of (number name) words) []
          (record { objects = refl; slots = refl; threads = refl; finish = refl; misused = refl })
          (sym (append-nil a.standing.world.output))
          (ap (λ t. if t then goes_on a.standing (with_cells name new a.standing.world) (v ∷ values) else traps a.standing Index) is)
          (data_written name new words there (omega (arith, within)) (words_are is) (ranged_set (cells name) at v ranged.0 (a.matches.ranged name there))) on
          (subst (λ u. HasType (tags_at a) u v) type own, h) (ranged.0, ranged.1.1))
      by false is =
          comes_as a (WriteElement name) (v ∷ Number n ∷ values) done (traps_with a.data_of Index) (known false is)
          (traps_here a (WriteElement name) (v ∷ Number n ∷ values) Index
          (ap (λ t. if t then goes_on a.standing (with_cells name new a.standing.world) (v ∷ values) else traps a.standing Index) is))
