use Rattle.std.proofs.Common.{◌≡◌, ◌++◌, map, take, drop}
use Rattle.source_model.specs.Worlds.{World}
use Rattle.source_model.specs.Installs.{brought}
use Rattle.source_programs.specs.Programs.{table_of, text_at}
use Rattle.source_data.specs.Stores.{objects_of}
use Rattle.source_install.specs.NewData.{IsInstall, with_new}
use Rattle.source_install.proofs.install.new_objects.Given as goal

abbrev pub invariant-loop-place : goal.invariant-loop-place
invariant-loop-place l =
    let t = table_of l.program in
    let os = objects_of t l.objects in
    (w : World) → IsInstall l.program l.number l.changes l.store w
    → objects_of t (with_new l.news.items l.objects) ≡ map (brought w.text (text_at l.program l.number)) (take l.place os) ++ drop l.place os
