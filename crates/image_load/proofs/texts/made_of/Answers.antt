use Rattle.std.proofs.Common.{◌≡◌, ◌<◌, [], map, length, Some, sym, ap, ◌∙◌, arith}
use Rattle.std.specs.Prelude.{slice_get, slice_index_or}
use Rattle.std.proofs.lemmas.List.{length-map}
use Rattle.std.proofs.lemmas.Option.{slice_get-get_or, slice_get_read}
use Rattle.std.proofs.lemmas.Result.{err_from_is_err_and}
use Rattle.source_programs.specs.Programs.{text_in}
use Rattle.text_code.specs.Bodies.{body_of}
use Rattle.image_load.specs.MadeTexts.{code_in}
use Rattle.image_load.specs.Numbering.{texts_of, words_of}
use Rattle.image_load.proofs.Lists.{same_length}
use Rattle.image_load.proofs.TextBodies.{part_at}
use Rattle.image_load.proofs.Whole.{accepted_one}
use Rattle.image_load.proofs.texts.made_of.Goals as goal

pub add_text-requires-clause-bodies : goal.add_text-requires-clause-bodies
add_text-requires-clause-bodies c =
    let r = c.args.run.now in
    let t = words_of r in
    let v = c.index-bodies-number.result in
    let many : length c.args.bodies.now ≡ length r.texts.now =
    same_length (body_of t) code_in (texts_of r) c.args.bodies.now c.requires.bodies ∙ length-map r.texts.now text_in in
    let at : slice_get c.args.bodies.now c.loop-number.number ≡ Some v =
    slice_get_read c.args.bodies.now (length r.texts.now) c.loop-number.number v (sym many) c.loop-number-test.true c.index-bodies-number.is in
    ap (map (body_of t)) c.as_slice.ensures.value ∙ part_at (body_of t) code_in (texts_of r) c.args.bodies.now c.loop-number.number v c.requires.bodies at

pub returns-in_err-add_text-clause-fault : goal.returns-in_err-add_text-clause-fault
returns-in_err-add_text-clause-fault c =
    let r = c.args.run.now in
    let number = c.loop-number.number in
    let within : number < length (texts_of r) = omega (arith, c.loop-number-test.true, length-map r.texts.now text_in) in
    let p = err_from_is_err_and c.from_residual.result c.from_residual.ensures.1 in
    rw (p.1, p.2) (λ of.
    let one = accepted_one of.whole (texts_of r) number (slice_index_or (texts_of r) number []) of.accepted of.are
    (slice_get-get_or (texts_of r) number [] within) in
    c.in_err-add_text.ensures.fault one.whole one.accepted one.is)
