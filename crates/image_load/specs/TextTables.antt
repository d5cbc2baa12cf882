-- The tables of the texts of a run, by the numbers of the names of all of them.
use Rattle.std.specs.Prelude.{◌≡◌, ℕ, Bool, IsTrue, List, Contains, length, slice_get, Option, Some}
use Rattle.std.specs.Option.{option_flatten}
use Rattle.c_tree.specs.BareExpr.{Bytes}
use Rattle.c_tree.specs.BareDef.{BareDef}
use Rattle.c_semantics.specs.Names.{struct_name}
use Rattle.c_semantics.specs.Texts.{definition}
use Rattle.source_model.specs.Installs.{has_cells}
use Rattle.typed_trees.specs.ExpressionTypes.{IsStruct}
use Rattle.code_runs.specs.CodeData.{Names}
use Rattle.code_image.specs.Images.{names_in}
use Rattle.word_installs.specs.Prepared.{AreGone, has_number}
use Rattle.word_installs.specs.TextRows.{AreRowsOf}
use Rattle.word_layouts.specs.TextLayouts.{AreLayoutsOf}
use Rattle.image_load.specs.declared.text_data.TextData.{TextData}

-- a table has what it is to have of each of some names, by their numbers
pub record HaveRows {X : Type 0} (Is : Bytes → Option X → Type 0) (names : List Bytes) (rows : List (Option X)) : Type 0 where
  pub many : length rows ≡ length names
  pub each : (k : ℕ) (name : Bytes) → slice_get names k ≡ Some name → Is name (option_flatten (slice_get rows k))

-- of some names, numbers have those of which something is so
abbrev pub HaveNumbers : (Bytes → Bool) → List Bytes → List ℕ → Type 0
HaveNumbers test names ns = (k : ℕ) (name : Bytes) → slice_get names k ≡ Some name → has_number ns k ≡ test name

-- a text's globals and arrays, and its structs, are among some names
pub record AreNamesOf (names : Names) (text : List BareDef) : Type 0 where
  pub cells : (name : Bytes) (d : BareDef) → definition text name ≡ Some d → IsTrue (has_cells d) → Contains names.cells name
  pub tags : (tag : Bytes) → IsStruct (definition text (struct_name tag)) → Contains names.tags tag

-- tables are those of a text
pub record IsDataOf (names : Names) (text : List BareDef) (d : TextData) : Type 0 where
  pub rows : AreRowsOf names.cells text d.rows.items
  pub layouts : AreLayoutsOf names.tags text d.layouts.items
  pub gone : AreGone names.mutexes text d.gone.items

-- and of each of some texts
pub record HaveTables (names : Names) (texts : List (List BareDef)) (of_texts : List TextData) : Type 0 where
  pub many : length of_texts ≡ length texts
  pub each : (k : ℕ) (text : List BareDef) (d : TextData) → slice_get texts k ≡ Some text → slice_get of_texts k ≡ Some d → IsDataOf names text d

-- of all texts of a run
abbrev pub AreDataOf : List (List BareDef) → List TextData → Type 0
AreDataOf texts of_texts = HaveTables (names_in texts) texts of_texts
