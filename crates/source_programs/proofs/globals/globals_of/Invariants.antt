use Rattle.std.proofs.Common.{◌≡◌, map, take}
use Rattle.std.specs.Prelude.{filter_map}
use Rattle.c_tree.specs.Bare.{bare_def}
use Rattle.source_model.specs.Worlds.{cells_at_first}
use Rattle.source_programs.specs.Globals.{globals_of}
use Rattle.source_programs.proofs.globals.globals_of.Given as goal

abbrev pub invariant-loop-definition : goal.invariant-loop-definition
invariant-loop-definition l =
    globals_of l.globals.items ≡ filter_map cells_at_first (map bare_def (take l.definition-index l.text))
