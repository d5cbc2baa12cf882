use Rattle.std.proofs.Common.{◌≡◌, map, take}
use Rattle.std.specs.Prelude.{filter_map}
use Rattle.c_tree.specs.Bare.{bare_def}
use Rattle.source_model.specs.Installs.{global_after}
use Rattle.source_model.specs.Worlds.{World}
use Rattle.source_programs.specs.Globals.{globals_of}
use Rattle.source_programs.specs.Programs.{text_at}
use Rattle.source_install.specs.NewData.{IsInstall}
use Rattle.source_install.proofs.globals.all_cells.Given as goal

abbrev pub invariant-loop-definition : goal.invariant-loop-definition
invariant-loop-definition l =
    let q = text_at l.program l.number in
    (w : World) → IsInstall l.program l.number l.changes l.store w
    → globals_of l.list.items ≡ filter_map (global_after w w.text q) (map bare_def (take l.definition-index l.definitions))
