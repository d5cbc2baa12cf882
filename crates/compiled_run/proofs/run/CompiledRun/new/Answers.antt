use Rattle.std.proofs.Common.{◌<◌, List, [], map, length, refl, sym, ap, subst, ◌∙◌, arith}
use Rattle.std.proofs.lemmas.List.{length-map}
use Rattle.std.proofs.lemmas.Result.{err_from_is_err_and}
use Rattle.c_tree.specs.declared.def.Program.{Program}
use Rattle.source_model.specs.Worlds.{Limits}
use Rattle.source_programs.specs.Programs.{text_in}
use Rattle.image_load.specs.Loaded.{AreAcceptedAs, HasFewNames}
use Rattle.compiled_run.specs.CodeOfRuns.{IsRunOf}
use Rattle.compiled_run.proofs.Starting.{begins}
use Rattle.compiled_run.proofs.run.CompiledRun.new.Goals as goal

pub returns-clause-lasts : goal.returns-clause-lasts
returns-clause-lasts c =
    let started = c.in_ok-machine.ensures in
    let nothing = ap length started.silent in
    record {
      spent = record { moves = 0; used = started.used; within = omega arith; short = omega (arith, nothing); works = refl };
      emptied = started.silent;
    }

pub returns-clause-run : goal.returns-clause-run
returns-clause-run c = λ accepted.
    let loaded = c.in_ok-loaded.ensures in
    let started = c.in_ok-machine.ensures in
    let code = c.in_ok-loaded.loaded in
    let limits : Limits = record { objects = c.args.objects; slots = c.args.slots } in
    let programs = c.as_slice.result.now in
    let same = c.as_slice.ensures.value in
    let some = c.requires.some in
    let long = ap length same in
    let many = length-map programs text_in in
    let there : 0 < length (map text_in programs) = omega (arith, some, long, many) in
    subst (λ (ps : List Program). IsRunOf (map text_in ps) limits [] c.in_ok-machine.machine code.texts.items 0) same
    (begins c.accepted_texts_are_coded.ensures c.code_moves_as_the_source_machine.ensures.starts c.threads_of_runs_go_on.ensures
    (map text_in programs) there (subst (λ (ps : List Program). AreAcceptedAs (map text_in ps)) (sym same) accepted) limits code.image loaded.image
    (map (λ v. v.items) code.cells.items) (length-map code.cells.items (λ v. v.items) ∙ loaded.rows) loaded.cells code.texts.items loaded.tables
    c.in_ok-machine.machine started.starts started.run started.first started.silent)

pub returns-in_err-loaded-clause-fault : goal.returns-in_err-loaded-clause-fault
returns-in_err-loaded-clause-fault c = λ accepted few.
    let same = c.as_slice.ensures.value in
    let p = err_from_is_err_and c.from_residual.result c.from_residual.ensures.1 in
    rw (p.1, p.2) (c.in_err-loaded.ensures.fault (subst (λ (ps : List Program). AreAcceptedAs (map text_in ps)) (sym same) accepted)
    (subst (λ (ps : List Program). HasFewNames (map text_in ps)) (sym same) few))
