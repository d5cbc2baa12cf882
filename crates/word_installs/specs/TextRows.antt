-- The globals and arrays of a text, by the numbers of the names of all texts.
use Rattle.std.specs.Prelude.{◌≡◌, false, IsTrue, List, map, length, slice_get, Contains, Option, Some, None}
use Rattle.std.specs.Option.{option_flatten, option_map_or}
use Rattle.c_tree.specs.BareExpr.{Bytes}
use Rattle.c_tree.specs.BareDef.{BareDef}
use Rattle.c_semantics.specs.Texts.{definition, global_type}
use Rattle.c_semantics.specs.Constants.{initial_cells}
use Rattle.source_model.specs.Installs.{has_cells}
use Rattle.constant_values.specs.Kinds.{kind_of}
use Rattle.bytecode.specs.Words.{Naming, word_of}
use Rattle.code_runs.specs.CodeData.{number_of}
use Rattle.word_installs.specs.declared.rows.TextRow.{TextRow}

-- the row of a name in a table, if there is one
abbrev pub row_of : List (Option TextRow) → List Bytes → Bytes → Option TextRow
row_of rows names name = option_flatten (slice_get rows (number_of names name))

-- a row is that of a name that a text defines with cells
pub record IsRow (text : List BareDef) (name : Bytes) (r : TextRow) : Type 0 where
  pub own : BareDef
  pub defined : definition text name ≡ Some own
  pub cells : IsTrue (has_cells own)
  pub named : r.name ≡ name
  pub kind : r.kind ≡ kind_of (global_type (Some own))
  pub first : (naming : Naming) → r.first.items ≡ map (word_of naming) (initial_cells own)

-- there is a row of a name exactly where a text defines it with cells
abbrev pub IsRowOf : List BareDef → Bytes → Option TextRow → Type 0
IsRowOf text name None = option_map_or has_cells (definition text name) false ≡ false
IsRowOf text name (Some r) = IsRow text name r

-- a table has the rows of a text, and the text has its globals and arrays among the names
pub record AreRowsOf (names : List Bytes) (text : List BareDef) (rows : List (Option TextRow)) : Type 0 where
  pub count : length rows ≡ length names
  pub numbered : (name : Bytes) (d : BareDef) → definition text name ≡ Some d → IsTrue (has_cells d) → Contains names name
  pub each : (name : Bytes) → Contains names name → IsRowOf text name (row_of rows names name)
