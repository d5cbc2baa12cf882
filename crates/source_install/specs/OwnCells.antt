-- Globals by their names, for the contracts of private functions.
use Rattle.std.specs.Prelude.{◌≡◌, IsTrue, List, [], Option, Some, None}
use Rattle.c_tree.specs.BareExpr.{Bytes}
use Rattle.c_tree.specs.BareDef.{BareDef}
use Rattle.c_semantics.specs.Texts.{defined, definition}
use Rattle.c_semantics.specs.Values.{Value}
use Rattle.source_model.specs.Installs.{has_cells}
use Rattle.type_transformers.specs.declared.global.GlobalChange.{GlobalChange}
use Rattle.type_transformers.specs.Cells.{cells_by}

-- a definition with cells is the one that a text has of its name, if what the text has of that name has cells at all; a struct
-- has another name, but trees don't say so
abbrev pub IsOwn : List BareDef → BareDef → Type 0
IsOwn text d =
    IsTrue (has_cells d) → (name : Bytes) → defined d ≡ Some name
    → (other : BareDef) → definition text name ≡ Some other → IsTrue (has_cells other) → other ≡ d

-- the cells by a change, if there is one; else there are none
abbrev pub cells_by_if : Option GlobalChange → List Value → List Value
cells_by_if None cells = []
cells_by_if (Some change) cells = cells_by change cells
