-- The words of globals, arrays and mutexes after an install stand for those of the world after it.
use Rattle.std.proofs.Common.{◌≡◌, ℕ, Bool, true, false, List, [], ◌∷◌, length, map, filter, find, Option, Some, None, option_map, All, Contains, refl, sym, ap, subst, ◌∙◌, bytes_eq, if◌then◌else◌}
use Rattle.c_tree.specs.BareExpr.{Bytes, BareExpr}
use Rattle.c_tree.specs.BareDef.{BareDef, Struct, Forward, Mutex, Function, Prototype, Global, Array, TransformStruct, TransformGlobal}
use Rattle.c_semantics.specs.Texts.{definition, global_type}
use Rattle.c_semantics.specs.Changes.{same_interface}
use Rattle.c_semantics.specs.Same.{same_type}
use Rattle.c_semantics.specs.Values.{Value}
use Rattle.c_semantics.specs.Constants.{constant, elements}
use Rattle.c_semantics.specs.Transformers.{first_cell, given_value, new_cells, old_value, transformed_global}
use Rattle.source_model.specs.Worlds.{Cells, Held, World, cells_of}
use Rattle.source_model.specs.Worlds as world
use Rattle.source_model.specs.Installs.{carried, global_after, has_cells, installed, is_mutex}
use Rattle.definition_laws.specs.EqualParts.{HaveEqualInterfaces}
use Rattle.definition_laws.proofs.SameDefinitions.{interface_equal_if_same}
use Rattle.version_laws.specs.Histories.{last_text}
use Rattle.world_laws.specs.Holdings.{HoldsGlobals}
use Rattle.world_laws.proofs.Found.{cells_found, entry_of, found_defines, same_bytes}
use Rattle.typed_trees.specs.ValueTypes.{HasType}
use Rattle.typed_transformers.specs.TransformerTypes.{HasCells}
use Rattle.typed_runs.specs.TypedWorlds.{GlobalsTyped, tags_of}
use Rattle.bytecode.specs.Words.{Naming, Distinguishes, word_of}
use Rattle.tree_code.specs.Ranges.{AllRanged}
use Rattle.tree_code.proofs.WordSteps.{converted_ranged}
use Rattle.tree_code.proofs.WordValues.{zero_ranged}
use Rattle.program_locks.specs.Locking.{holder_of}
use Rattle.object_store.specs.Naming.{Objects}
use Rattle.code_runs.specs.CodeData.{Names, number_of, row}
use Rattle.code_runs.specs.CodeThreads.{CodeWorld}
use Rattle.code_runs.specs.CodeInstalls.{Carries, CarriesBy, CellsStand, Installs, holder_after}
use Rattle.code_run_laws.specs.DataMatches.{DataMatches}
use Rattle.code_run_laws.proofs.FirstCells.{filled_ranged, initial_cells_ranged}

no : false ≡ true → ⊥
no e = cc

-- ---- definitions with cells

with_cells : (d : BareDef) → HasCells (Some d) → has_cells d ≡ true
with_cells (Global d) h = refl
with_cells (Array t n k values) h = refl
with_cells _ h = absurd h

cells_there : (d : BareDef) → has_cells d ≡ true → HasCells (Some d)
cells_there (Global d) h = tt
cells_there (Array t n k values) h = tt
cells_there _ h = absurd (no h)

-- where the interface stays, what has cells had them
cells_before : (a b : BareDef) → HaveEqualInterfaces a b → HasCells (Some b) → HasCells (Some a)
cells_before (Global d) b e h = tt
cells_before (Array t n k values) b e h = tt
cells_before _ (Global d) e h = absurd e
cells_before _ (Array t n k values) e h = absurd e
cells_before _ _ e h = absurd h

-- what becomes of cells is in range
new_cells_ranged : (o u : Option BareDef) (given : Option BareExpr) (cells : List Value) → (HasCells o → AllRanged cells)
    → AllRanged (new_cells o u given cells)
new_cells_ranged (Some (Global a)) (Some (Global b)) (Some e) cells h = (converted_ranged b.declared (constant (old_value (first_cell cells)) e), tt)
new_cells_ranged (Some (Array t name n initial)) (Some (Array u other m values)) given cells h =
    filled_ranged u (elements m) (if same_type t u then cells else []) (by (same_type t u))
  where
    by : (s : Bool) → AllRanged (if s then cells else [])
    by true = h tt
    by false = tt
new_cells_ranged _ (Some (Global b)) given cells h = (zero_ranged b.declared, tt)
new_cells_ranged _ (Some (Array u other m values)) given cells h = filled_ranged u (elements m) [] tt
new_cells_ranged _ _ given cells h = tt

-- ---- the cells of the world after an install

module _ (w : World) (q : List BareDef) where
  abbrev made : BareDef → List Value
  made (Global d) = carried w w.text q (Global d) d.name (definition w.text d.name)
  made (Array type name n values) = carried w w.text q (Array type name n values) name (definition w.text name)
  made _ = []

  makes : (d : BareDef) → global_after w w.text q d ≡ entry_of made d
  makes (Global d) = refl
  makes (Array type name n values) = refl
  makes (Struct tag members) = refl
  makes (Forward tag) = refl
  makes (Mutex name) = refl
  makes (Function r name ps body) = refl
  makes (Prototype r name ps) = refl
  makes (TransformStruct tag values) = refl
  makes (TransformGlobal name value) = refl

  cells_after : (name : Bytes) (d : BareDef) → definition q name ≡ Some d → has_cells d ≡ true
      → cells_of (installed q w) name ≡ carried w w.text q d name (definition w.text name)
  cells_after name (Global d) e has =
      let own : name ≡ d.name = same_bytes name d.name (found_defines q name (Global d) e) in
      cells_found (global_after w w.text q) made makes q name (Global d) refl e
      ∙ ap (λ n. carried w w.text q (Global d) n (definition w.text n)) (sym own)
  cells_after name (Array type own n values) e has =
      let is : name ≡ own = same_bytes name own (found_defines q name (Array type own n values) e) in
      cells_found (global_after w w.text q) made makes q name (Array type own n values) refl e
      ∙ ap (λ x. carried w w.text q (Array type own n values) x (definition w.text x)) (sym is)
  cells_after name _ e has = absurd (no has)

  -- a mutex that the text has keeps its holder
  pub holder_kept : (name : Bytes) → world.holder_of (installed q w) name ≡ holder_after q name (world.holder_of w name)
  holder_kept name = by (is_mutex (definition q name)) refl
    where
      stays : is_mutex (definition q name) ≡ true → (hs : List Held)
          → find (λ h. bytes_eq name h.mutex) (filter (λ h. is_mutex (definition q h.mutex)) hs) ≡ find (λ h. bytes_eq name h.mutex) hs
      stays there [] = refl
      stays there (h ∷ hs) = each (bytes_eq name h.mutex) refl (is_mutex (definition q h.mutex)) refl (stays there hs)
        where
          each : (b : Bool) → bytes_eq name h.mutex ≡ b → (c : Bool) → is_mutex (definition q h.mutex) ≡ c
              → find (λ h. bytes_eq name h.mutex) (filter (λ h. is_mutex (definition q h.mutex)) hs) ≡ find (λ h. bytes_eq name h.mutex) hs
              → find (λ h. bytes_eq name h.mutex) (filter (λ h. is_mutex (definition q h.mutex)) (h ∷ hs))
              ≡ find (λ h. bytes_eq name h.mutex) (h ∷ hs)
          each true named true is rest = rw (is, named) refl
          each true named false is rest =
              absurd (no (sym is ∙ ap (λ n. is_mutex (definition q n)) (sym (same_bytes name h.mutex named)) ∙ there))
          each false named true is rest = rw (is, named) rest
          each false named false is rest = rw (is, named) rest

      gone : is_mutex (definition q name) ≡ false → (hs : List Held)
          → find (λ h. bytes_eq name h.mutex) (filter (λ h. is_mutex (definition q h.mutex)) hs) ≡ None
      gone none [] = refl
      gone none (h ∷ hs) = each (bytes_eq name h.mutex) refl (is_mutex (definition q h.mutex)) refl (gone none hs)
        where
          each : (b : Bool) → bytes_eq name h.mutex ≡ b → (c : Bool) → is_mutex (definition q h.mutex) ≡ c
              → find (λ h. bytes_eq name h.mutex) (filter (λ h. is_mutex (definition q h.mutex)) hs) ≡ None
              → find (λ h. bytes_eq name h.mutex) (filter (λ h. is_mutex (definition q h.mutex)) (h ∷ hs)) ≡ None
          each true named true is rest =
              absurd (no (sym none ∙ ap (λ n. is_mutex (definition q n)) (same_bytes name h.mutex named) ∙ is))
          each true named false is rest = rw is rest
          each false named true is rest = rw (is, named) rest
          each false named false is rest = rw is rest

      by : (b : Bool) → is_mutex (definition q name) ≡ b
          → world.holder_of (installed q w) name ≡ (if b then world.holder_of w name else None)
      by true is = ap (option_map (λ h. h.slot)) (stays is w.holders)
      by false is = ap (option_map (λ h. h.slot)) (gone is w.holders)

-- ---- their words

module _ (texts : List (List BareDef)) (names : Names) (q : List BareDef) (w : World) (old new : CodeWorld) (naming : Naming) (objects : Objects)
    (i : Installs texts names q old new) (m : DataMatches texts names naming objects w old.shared) (text_is : w.text ≡ last_text texts)
    (apart : Distinguishes (length (tags_of w.objects)) naming) (typed : GlobalsTyped (last_text texts) (tags_of w.objects) w)
    (holds : HoldsGlobals w) where
  abbrev p : List BareDef
  p = last_text texts

  abbrev tags : List Bytes
  tags = tags_of w.objects

  abbrev before : Bytes → List ℕ
  before name = row old.shared (number_of names.cells name)

  abbrev after : Bytes → List ℕ
  after name = row new.shared (number_of names.cells name)

  -- a definition of the text before
  had : (name : Bytes) (o : Option BareDef) → definition (last_text texts) name ≡ o → HasCells o → HasCells (definition w.text name)
  had name o was has = subst (λ t. HasCells (definition t name)) (sym text_is) (subst HasCells (sym was) has)

  module _ (name : Bytes) (d : BareDef) where
    stood : (a : BareDef) → definition (last_text texts) name ≡ Some a → has_cells a ≡ true
        → CellsStand naming (tags_of w.objects) a (cells_of w name) (row old.shared (number_of names.cells name))
    stood a was has =
        let there = had name (Some a) was (cells_there a has) in
        record {
          are = m.cells name there;
          ranged = m.ranged name there;
          typed =
              subst (λ o. All (HasType tags (global_type o)) (cells_of w name)) was
              (typed name (subst HasCells (sym was) (cells_there a has)));
          one = λ v is.
              let one = holds.variables name v (subst (λ t. definition t name ≡ Some (Global v)) (sym text_is) (was ∙ ap Some is)) in
              (one.value, one.is);
        }

    -- by whether the type stays
    words_by : (a : BareDef) → definition (last_text texts) name ≡ Some a → has_cells d ≡ true → (s : Bool) → same_interface a d ≡ s
        → CarriesBy s (last_text texts) q name a (row old.shared (number_of names.cells name)) (row new.shared (number_of names.cells name))
        → row new.shared (number_of names.cells name)
        ≡ map (word_of naming) (if s then cells_of w name else transformed_global (last_text texts) q name (cells_of w name))
    words_by a was has true same h =
        h ∙ m.cells name (had name (Some a) was (cells_before a d (interface_equal_if_same a d same) (cells_there d has)))
    words_by a was has false same h = h naming tags (cells_of w name) apart (λ yes. stood a was yes)

    words_carried : (o : Option BareDef) → definition (last_text texts) name ≡ o → has_cells d ≡ true
        → Carries (last_text texts) q name d o (row old.shared (number_of names.cells name)) (row new.shared (number_of names.cells name))
        → row new.shared (number_of names.cells name) ≡ map (word_of naming) (carried w (last_text texts) q d name o)
    words_carried None was has h = h naming
    words_carried (Some a) was has h = words_by a was has (same_interface a d) refl h

    ranged_by : (a : BareDef) → definition (last_text texts) name ≡ Some a → has_cells d ≡ true → (s : Bool) → same_interface a d ≡ s
        → AllRanged (if s then cells_of w name else transformed_global (last_text texts) q name (cells_of w name))
    ranged_by a was has true same =
        m.ranged name (had name (Some a) was (cells_before a d (interface_equal_if_same a d same) (cells_there d has)))
    ranged_by a was has false same =
        new_cells_ranged (definition p name) (definition q name) (given_value q name) (cells_of w name)
        (λ there. m.ranged name (subst (λ t. HasCells (definition t name)) (sym text_is) there))

    ranged_carried : (o : Option BareDef) → definition (last_text texts) name ≡ o → has_cells d ≡ true
        → AllRanged (carried w (last_text texts) q d name o)
    ranged_carried None was has = initial_cells_ranged d
    ranged_carried (Some a) was has = ranged_by a was has (same_interface a d) refl

    -- the cells after the install, by the last text
    now : definition q name ≡ Some d → has_cells d ≡ true
        → cells_of (installed q w) name ≡ carried w (last_text texts) q d name (definition (last_text texts) name)
    now e has = cells_after w q name d e has ∙ ap (λ t. carried w t q d name (definition t name)) text_is

  -- a definition with cells
  defined_so : (P : Bytes → Type 0) (name : Bytes) → ((d : BareDef) → definition q name ≡ Some d → has_cells d ≡ true → P name)
      → HasCells (definition q name) → P name
  defined_so P name k has = by (definition q name) refl has
    where
      by : (o : Option BareDef) → definition q name ≡ o → HasCells o → P name
      by None e has = absurd has
      by (Some d) e has = k d e (with_cells d has)

  pub words_after : (name : Bytes) → HasCells (definition q name) → after name ≡ map (word_of naming) (cells_of (installed q w) name)
  words_after name =
      defined_so (λ n. after n ≡ map (word_of naming) (cells_of (installed q w) n)) name
      (λ d e has. words_carried name d (definition p name) refl has (i.cells name d e has) ∙ ap (map (word_of naming)) (sym (now name d e has)))

  pub ranged_after : (name : Bytes) → HasCells (definition q name) → AllRanged (cells_of (installed q w) name)
  ranged_after name =
      defined_so (λ n. AllRanged (cells_of (installed q w) n)) name
      (λ d e has. subst AllRanged (sym (now name d e has)) (ranged_carried name d (definition p name) refl has))

  pub holders_after : (name : Bytes) → Contains names.mutexes name
      → holder_of new.shared.holders (number_of names.mutexes name) ≡ world.holder_of (installed q w) name
  holders_after name there =
      i.holders name there ∙ ap (holder_after q name) (m.holders name there) ∙ sym (holder_kept w q name)
