use Rattle.std.proofs.Common.{map, take}
use Rattle.source_programs.specs.Programs.{text_in}
use Rattle.code_image.specs.Images.{names_in}
use Rattle.image_load.specs.TextTables.{HaveTables}
use Rattle.image_load.proofs.text_tables.tables_of.Given as goal

abbrev pub invariant-loop-text : goal.invariant-loop-text
invariant-loop-text l = HaveTables (names_in (map text_in l.texts)) (map text_in (take l.text-index l.texts)) l.made.items
