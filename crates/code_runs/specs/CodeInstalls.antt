-- The install of a newer text in a run of code: its globals, arrays and mutexes are there at once, and threads and objects stay as they
-- are.
use Rattle.std.specs.Prelude.{◌≡◌, ℕ, suc, Bool, true, false, IsTrue, List, [], ◌∷◌, map, length, All, Contains, Option, Some, None, if◌then◌else◌}
use Rattle.c_tree.specs.BareExpr.{Bytes}
use Rattle.c_tree.specs.BareStmt.{BareDeclaration}
use Rattle.c_tree.specs.BareDef.{BareDef, Global}
use Rattle.c_semantics.specs.Texts.{definition, global_type}
use Rattle.c_semantics.specs.Changes.{same_interface}
use Rattle.c_semantics.specs.Values.{Value}
use Rattle.c_semantics.specs.Constants.{initial_cells}
use Rattle.c_semantics.specs.Transformers.{transformed_global}
use Rattle.source_model.specs.Installs.{has_cells, is_mutex}
use Rattle.version_laws.specs.Histories.{last_text}
use Rattle.typed_trees.specs.ValueTypes.{HasType}
use Rattle.bytecode.specs.Words.{Naming, Distinguishes, word_of}
use Rattle.tree_code.specs.Ranges.{AllRanged}
use Rattle.program_locks.specs.Locking.{holder_of}
use Rattle.code_runs.specs.CodeData.{Names, number_of, row}
use Rattle.code_runs.specs.CodeThreads.{CodeWorld}

-- words stand for the cells of a variable or an array: each cell has its type, and a variable has one. The list has the struct tags of
-- all objects, by number
pub record CellsStand (naming : Naming) (tags : List Bytes) (d : BareDef) (cells : List Value) (words : List ℕ) : Type 0 where
  pub are : words ≡ map (word_of naming) cells
  pub ranged : AllRanged cells
  pub typed : All (HasType tags (global_type (Some d))) cells
  pub one : (v : BareDeclaration) → d ≡ Global v → (value : Value) × (cells ≡ value ∷ [])

-- words by the text q for those by the text p, where the type of a name's cells is another: whatever cells the old words stand for, by a
-- naming that tells objects apart, the new ones are those of what becomes of the cells. What had none becomes the same from any
abbrev pub Transforms : (p q : List BareDef) → (name : Bytes) → BareDef → (old new : List ℕ) → Type 0
Transforms p q name before old new =
    (naming : Naming) (tags : List Bytes) (cells : List Value) → Distinguishes (length tags) naming
    → (IsTrue (has_cells before) → CellsStand naming tags before cells old)
    → new ≡ map (word_of naming) (transformed_global p q name cells)

-- where the type stays, so do the words
abbrev pub CarriesBy : (stays : Bool) → (p q : List BareDef) → (name : Bytes) → BareDef → (old new : List ℕ) → Type 0
CarriesBy true p q name before old new = new ≡ old
CarriesBy false p q name before old new = Transforms p q name before old new

-- the words of a variable or an array of text q, which are its initial ones where text p doesn't define its name
abbrev pub Carries : (p q : List BareDef) → (name : Bytes) → BareDef → Option BareDef → (old new : List ℕ) → Type 0
Carries p q name d None old new = (naming : Naming) → new ≡ map (word_of naming) (initial_cells d)
Carries p q name d (Some before) old new = CarriesBy (same_interface before d) p q name before old new

-- a mutex that is still there keeps its holder
abbrev pub holder_after : List BareDef → Bytes → Option ℕ → Option ℕ
holder_after q name holder = if is_mutex (definition q name) then holder else None

-- the state after the install of text q, which follows some texts. What becomes of words that no definition of q has is left open
pub record Installs (texts : List (List BareDef)) (names : Names) (q : List BareDef) (old new : CodeWorld) : Type 0 where
  pub rows : length new.shared.cells ≡ length old.shared.cells
  pub cells : (name : Bytes) (d : BareDef) → definition q name ≡ Some d → IsTrue (has_cells d)
      → let p = last_text texts in let n = number_of names.cells name in
      Carries p q name d (definition p name) (row old.shared n) (row new.shared n)
  pub objects : new.shared.objects ≡ old.shared.objects
  pub mutexes : length new.shared.holders ≡ length old.shared.holders
  pub holders : (name : Bytes) → Contains names.mutexes name → let n = number_of names.mutexes name in
      holder_of new.shared.holders n ≡ holder_after q name (holder_of old.shared.holders n)
  pub version : new.shared.version ≡ suc old.shared.version
  pub slots : new.slots ≡ old.slots
  pub threads : new.threads ≡ old.threads
  pub finish : new.finish ≡ old.finish
