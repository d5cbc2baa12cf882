use Rattle.std.proofs.Common.{◌<◌, false, [], ◌∷◌, map, sym, ap, subst, ◌∙◌}
use Rattle.std.specs.Prelude.{slice_index_or}
use Rattle.std.proofs.lemmas.List.{length-map}
use Rattle.source_model.specs.Worlds.{Limits, first_world}
use Rattle.source_programs.specs.Programs.{text_in, texts_of, trees_of, versions_of}
use Rattle.source_runner.specs.Machines.{Stands}
use Rattle.source_runner.proofs.Running.{first_run}
use Rattle.source_data.proofs.Texts.{texts_are}
use Rattle.source_runner.proofs.run.SourceRun.new.Goals as goal

pub returns-clause-run : goal.returns-clause-run
returns-clause-run c =
    let limits : Limits = record { objects = c.args.objects; slots = c.args.slots } in
    let loaded = c.in_ok-program.ensures in
    let made = c.in_ok-start.ensures in
    let m = c.in_ok-start.field-0 in
    let texts = map text_in c.args.texts.items in
    let same = texts_are c.in_ok-program.program c.args.texts.items loaded.texts in
    let some = subst (λ n. 0 < n) (sym (length-map c.args.texts.items text_in)) c.requires in
    let stands = subst (λ ts. Stands m (first_world (slice_index_or ts 0 []) limits)) same (made.stands loaded.sound loaded.first) in
    first_run texts limits (record { machine = m; failed = false }) some stands
    (ap texts_of made.program ∙ same)
    (ap versions_of made.program ∙ loaded.first ∙ ap (λ ts. slice_index_or ts 0 [] ∷ []) same)

pub returns-clause-trees : goal.returns-clause-trees
returns-clause-trees c = ap trees_of c.in_ok-start.ensures.program ∙ c.in_ok-program.ensures.texts
