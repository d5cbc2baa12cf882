-- Globals and arrays, as the definitions have them.
use Rattle.std.specs.Prelude.{List, map, string_bytes}
use Rattle.source_model.specs.Worlds as world
use Rattle.local_evaluation.specs.Values.{seen}
use Rattle.source_programs.specs.declared.globals.Cells.{Cells}

-- a global variable or an array
abbrev pub cells_of : Cells → world.Cells
cells_of c = record { name = string_bytes c.name; cells = map seen c.cells.items }

abbrev pub globals_of : List Cells → List world.Cells
globals_of cs = map cells_of cs
