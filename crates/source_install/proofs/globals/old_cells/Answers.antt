use Rattle.std.proofs.Common.{◌<◌, length, arith, Some, option_map, map, sym, ap, ◌∙◌}
use Rattle.std.proofs.lemmas.List.{length-map}
use Rattle.local_evaluation.specs.Values.{seen}
use Rattle.source_programs.specs.Globals.{cells_of, globals_of}
use Rattle.source_data.proofs.Globals.{named}
use Rattle.source_install.proofs.InstallSteps.{find_nowhere, find_there, global_there}
use Rattle.source_programs.proofs.Placed.{found_at}
use Rattle.source_install.proofs.globals.old_cells.Goals as goal

pub returns-in-Some : goal.returns-in-Some
returns-in-Some c =
    let globals = c.args.globals.now in
    let name = c.args.name.now in
    let item = c.index.result.now in
    let at = sym (globals.placed name) ∙ sym c.find.ensures ∙ c.in-Some.is in
    let there = found_at (named name) (globals_of globals.list.items) c.in-Some.place at in
    let long = length-map globals.list.items cells_of in
    let within : c.in-Some.place < length globals.list.items = omega (arith, there.within, long) in
    ap (λ l. Some (map seen l)) c.as_slice.ensures.value
    ∙ ap (option_map (λ g. g.cells)) (sym (global_there globals.list.items c.in-Some.place item within c.index.ensures)
    ∙ find_there (named name) (globals_of globals.list.items) c.in-Some.place at)

pub returns-in-None : goal.returns-in-None
returns-in-None c =
    let globals = c.args.globals.now in
    let name = c.args.name.now in
    ap (option_map (λ g. g.cells))
    (find_nowhere (named name) (globals_of globals.list.items) (sym (globals.placed name) ∙ sym c.find.ensures ∙ c.in-None.is))
