use Rattle.std.proofs.Common.{◌≡◌, [], map, length, Some, option_map, refl, sym, ap, ◌∙◌, arith}
use Rattle.std.specs.Prelude.{slice_get, slice_index_or}
use Rattle.std.proofs.lemmas.List.{length-map, take_all}
use Rattle.std.proofs.lemmas.Option.{get_or_from_slice_get, slice_get-map, slice_get_read}
use Rattle.std.proofs.lemmas.Simd.{map-map}
use Rattle.c_tree.specs.Bare.{bare_def}
use Rattle.c_tree.specs.declared.def.Program.{Program}
use Rattle.name_resolution.proofs.Kept.{mapped_more}
use Rattle.resolved_tree.specs.Trees.{table}
use Rattle.source_programs.specs.Programs.{text_in}
use Rattle.text_code.specs.Bodies.{body_of, outlined}
use Rattle.image_load.specs.MadeTexts.{code_in, functions_in}
use Rattle.image_load.proofs.Lists.{same_length}
use Rattle.image_load.proofs.TextBodies.{part_at}
use Rattle.image_load.proofs.bodies.compiled.Goals as goal

pub loop-number-preserved : goal.loop-number-preserved
loop-number-preserved c =
    let t = table c.args.trees.now in
    let texts = c.args.texts.now in
    let number = c.loop-number.number in
    let program = c.index-texts-number.result in
    let v = c.index-outlines-number.result in
    let own = c.as_slice.ensures ∙ ap (λ (p : Program). p.definitions) c.program-program.ensures.tree in
    let many : length c.args.outlines.now ≡ length texts = same_length (outlined t) functions_in (map text_in texts) c.args.outlines.now c.requires
    ∙ length-map texts text_in in
    let at : slice_get c.args.outlines.now number ≡ Some v =
    slice_get_read c.args.outlines.now (length texts) number v (sym many) c.loop-number-test.true c.index-outlines-number.is in
    let here : slice_index_or (map text_in texts) number [] ≡ text_in program =
    get_or_from_slice_get (map text_in texts) number (text_in program) []
    (slice_get-map text_in texts number
    ∙ ap (option_map text_in) (slice_get_read texts (length texts) number program refl c.loop-number-test.true c.index-texts-number.is)) in
    let outlines = ap (map (outlined t)) c.as_slice-in-loop-number.ensures.value
    ∙ part_at (outlined t) functions_in (map text_in texts) c.args.outlines.now number v c.requires at ∙ ap functions_in here
    ∙ ap (λ ds. functions_in (map bare_def ds)) (sym own) in
    mapped_more (λ b. map (body_of t) b.items) code_in text_in c.loop-number.bodies.items c.push.new.self.items c.in_ok-made.made texts number program
    c.in_ok-push.ensures.items c.loop-number-test.true c.index-texts-number.is c.loop-number.invariant
    (c.in_ok-made.ensures outlines ∙ ap (λ ds. code_in (map bare_def ds)) own)

pub returns : goal.returns
returns c =
    map-map (map (body_of (table c.args.trees.now))) (λ v. v.items) c.loop-number.bodies.items ∙ c.loop-number.invariant
    ∙ ap (λ ps. map code_in (map text_in ps)) (take_all c.loop-number.number c.args.texts.now (omega (arith, c.loop-number-test.false)))
