use Rattle.std.proofs.Common.{◌≡◌, [], map, length, option_map, refl, sym, ap, ◌∙◌}
use Rattle.std.specs.Prelude.{slice_index_or}
use Rattle.std.proofs.lemmas.Option.{get_or_from_slice_get, slice_get-map, slice_get_read}
use Rattle.std.proofs.lemmas.Result.{IfErr-weaker}
use Rattle.c_tree.specs.Bare.{bare_def}
use Rattle.c_tree.specs.declared.def.Program.{Program}
use Rattle.source_programs.specs.Programs.{text_in}
use Rattle.image_load.specs.MadeTexts.{code_in}
use Rattle.image_load.proofs.texts.add_text.Goals as goal

pub add_known-requires-clause-bodies : goal.add_known-requires-clause-bodies
add_known-requires-clause-bodies c =
    let texts = c.args.run.now.texts.now in
    let program = c.index-run-number.result in
    let own = c.in_ok-known.ensures ∙ c.as_slice.ensures ∙ ap (λ (p : Program). p.definitions) (c.program-program.ensures.tree ∙ sym c.index-run-number.is) in
    let here : slice_index_or (map text_in texts) c.args.number [] ≡ text_in program =
    get_or_from_slice_get (map text_in texts) c.args.number (text_in program) []
    (slice_get-map text_in texts c.args.number
    ∙ ap (option_map text_in) (slice_get_read texts (length texts) c.args.number program refl c.requires.within c.index-run-number.is)) in
    c.requires.bodies ∙ ap code_in here ∙ ap (λ ds. code_in (map bare_def ds)) (sym own)

pub returns-clause-fault : goal.returns-clause-fault
returns-clause-fault c =
    let texts = c.args.run.now.texts.now in
    let program = c.index-run-number.result in
    let own = c.in_ok-known.ensures ∙ c.as_slice.ensures ∙ ap (λ (p : Program). p.definitions) (c.program-program.ensures.tree ∙ sym c.index-run-number.is) in
    let here : slice_index_or (map text_in texts) c.args.number [] ≡ text_in program =
    get_or_from_slice_get (map text_in texts) c.args.number (text_in program) []
    (slice_get-map text_in texts c.args.number
    ∙ ap (option_map text_in) (slice_get_read texts (length texts) c.args.number program refl c.requires.within c.index-run-number.is)) in
    IfErr-weaker c.add_known.result _ _ (λ fault h whole accepted is. h whole accepted (is ∙ here ∙ ap (map bare_def) (sym own))) c.add_known.ensures.fault
