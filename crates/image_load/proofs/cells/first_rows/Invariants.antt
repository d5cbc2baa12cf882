use Rattle.std.proofs.Common.{map, take}
use Rattle.std.specs.Prelude.{string_bytes}
use Rattle.source_programs.specs.Globals.{globals_of}
use Rattle.image_load.specs.FirstCells.{HaveFirst}
use Rattle.image_load.proofs.cells.first_rows.Given as goal

abbrev pub invariant-loop-name : goal.invariant-loop-name
invariant-loop-name l =
    HaveFirst (globals_of l.globals.list.items) (map string_bytes (take l.name-index l.names)) (map (λ v. v.items) l.rows.items)
