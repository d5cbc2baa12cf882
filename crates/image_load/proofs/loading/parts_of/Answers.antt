use Rattle.std.proofs.Common.{◌≡◌, ◌<◌, [], List, Contains, length, Some, subst, arith}
use Rattle.std.specs.Prelude.{codes, slice_get, slice_index_or}
use Rattle.std.proofs.lemmas.List.{length-map}
use Rattle.std.proofs.lemmas.Option.{slice_get-get_or}
use Rattle.std.proofs.lemmas.Result.{err_from_is_err_and}
use Rattle.c_tree.specs.BareDef.{BareDef}
use Rattle.source_programs.specs.Programs.{text_in}
use Rattle.code_runs.specs.CodeData.{number_of}
use Rattle.accepted_stops.specs.StopNames.{function_names}
use Rattle.image_load.specs.Numbering.{callees_of, texts_of}
use Rattle.image_load.proofs.NameLists.{found_contained, placed_contained}
use Rattle.image_load.proofs.Whole.{accepted_one}
use Rattle.image_load.proofs.loading.parts_of.Goals as goal

pub returns-in_err-main-clause-fault : goal.returns-in_err-main-clause-fault
returns-in_err-main-clause-fault c =
    let r = c.args.run.now in
    let first = slice_index_or (texts_of r) 0 [] in
    let within : 0 < length (texts_of r) = omega (arith, c.requires.some, length-map r.texts.now text_in) in
    let at : slice_get (texts_of r) 0 ≡ Some first = slice_get-get_or (texts_of r) 0 [] within in
    let p = err_from_is_err_and c.from_residual.result c.from_residual.ensures.1 in
    rw (p.1, p.2) (λ of.
    let one = accepted_one of.whole (texts_of r) 0 first of.accepted of.are at in
    let few = c.accepted_names_are_few.ensures one.whole one.accepted in
    let own : Contains (function_names one.whole.definitions) (codes "main") =
    placed_contained (function_names one.whole.definitions) (codes "main") (number_of (function_names one.whole.definitions) (codes "main")) few.main.there in
    c.in_err-main.ensures.fault (callees_of r) c.requires.numbers.functions
    (c.requires.numbers.called first (codes "main") (found_contained (texts_of r) 0 first at)
    (subst (λ (ds : List BareDef). Contains (function_names ds) (codes "main")) one.is own)))
