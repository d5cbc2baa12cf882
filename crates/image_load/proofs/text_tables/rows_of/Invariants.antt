use Rattle.std.proofs.Common.{map, take}
use Rattle.std.specs.Prelude.{string_bytes}
use Rattle.c_tree.specs.Bare.{bare_def}
use Rattle.word_installs.specs.TextRows.{IsRowOf}
use Rattle.image_load.specs.TextTables.{HaveRows}
use Rattle.image_load.proofs.text_tables.rows_of.Given as goal

abbrev pub invariant-loop-name : goal.invariant-loop-name
invariant-loop-name l = HaveRows (IsRowOf (map bare_def l.known)) (map string_bytes (take l.name-index l.names)) l.rows.items
