use Rattle.std.proofs.Common.{◌≡◌, ◌≤◌, ◌-◌, ◌++◌, [], ◌∷◌, ℕ, List, map, length, Some, sym, ap, subst, ◌∙◌, arith}
use Rattle.std.specs.Prelude.{slice_get}
use Rattle.std.proofs.lemmas.List.{length-map, map-append}
use Rattle.std.proofs.lemmas.Option.{slice_get-get_or}
use Rattle.std.proofs.lemmas.Result.{err_from_is_err_and}
use Rattle.c_tree.specs.Bare.{bare_def}
use Rattle.source_programs.specs.Programs.{text_in}
use Rattle.code_image.specs.declared.function.CodeFunction.{CodeFunction}
use Rattle.image_load.specs.Doing.{AreMade}
use Rattle.image_load.specs.MadeTexts.{HasBodies}
use Rattle.image_load.specs.Numbering.{meaning, texts_of}
use Rattle.image_load.proofs.Lists.{in_second}
use Rattle.image_load.proofs.NameLists.{found_contained}
use Rattle.image_load.proofs.OwnBodies.{are_among, own_bodies}
use Rattle.image_load.proofs.TextBodies.{all_made, callee_of, one_text_more, own_bodies_are}
use Rattle.image_load.proofs.texts.add_known.Goals as goal

pub returns-in_err-own-clause-fault : goal.returns-in_err-own-clause-fault
returns-in_err-own-clause-fault c =
    let r = c.args.run.now in
    let text = map bare_def c.args.known.now in
    let at : slice_get (texts_of r) c.args.number ≡ Some text =
    slice_get-get_or (texts_of r) c.args.number [] (omega (arith, c.requires.within, length-map r.texts.now text_in)) ∙ ap Some (sym c.requires.known) in
    let among = are_among r c.requires.numbers text (found_contained (texts_of r) c.args.number text at) in
    let p = err_from_is_err_and c.from_residual-in_err-own.result c.from_residual-in_err-own.ensures.1 in
    rw (p.1, p.2) (λ whole accepted is.
    c.in_err-own.ensures.fault whole accepted
    (own_bodies (meaning r text) c.args.bodies.now whole accepted is among c.code_of_texts_is_that_of_their_functions.ensures c.requires.bodies))

pub returns-in_err-row-clause-fault : goal.returns-in_err-row-clause-fault
returns-in_err-row-clause-fault c =
    let r = c.args.run.now in
    let text = map bare_def c.args.known.now in
    let old = c.args.made.now.functions.items in
    let fs = c.in_ok-own.own.items in
    let at : slice_get (texts_of r) c.args.number ≡ Some text =
    slice_get-get_or (texts_of r) c.args.number [] (omega (arith, c.requires.within, length-map r.texts.now text_in)) ∙ ap Some (sym c.requires.known) in
    let made : AreMade (meaning r text) c.args.number c.args.bodies.now fs =
    subst (λ (n : ℕ). AreMade (meaning r text) n c.args.bodies.now fs) c.in_ok-small.ensures c.in_ok-own.ensures.made in
    let all = c.as_slice.ensures.value ∙ c.in_ok-append.ensures.items in
    let p = err_from_is_err_and c.from_residual-in_err-row.result c.from_residual-in_err-row.ensures.1 in
    rw (p.1, p.2) (λ whole accepted is.
    c.in_err-row.ensures.fault (λ k f from there.
    let later : length old ≤ k = omega (arith, from, c.len-first.ensures, c.args.made.now.functions.ok.0) in
    callee_of r c.args.number text c.args.bodies.now fs at c.requires.bodies made c.requires.numbers (k - length old) f
    (sym (in_second old fs k later) ∙ ap (λ gs. slice_get gs k) (sym all) ∙ there)))

pub returns-clause-made : goal.returns-clause-made
returns-clause-made c =
    let r = c.args.run.now in
    let text = map bare_def c.args.known.now in
    let old = c.args.made.now in
    let fs = c.in_ok-own.own.items in
    let row = c.in_ok-row.row.items in
    let at : slice_get (texts_of r) c.args.number ≡ Some text =
    slice_get-get_or (texts_of r) c.args.number [] (omega (arith, c.requires.within, length-map r.texts.now text_in)) ∙ ap Some (sym c.requires.known) in
    let made : AreMade (meaning r text) c.args.number c.args.bodies.now fs =
    subst (λ (n : ℕ). AreMade (meaning r text) n c.args.bodies.now fs) c.in_ok-small.ensures c.in_ok-own.ensures.made in
    let all = c.as_slice.ensures.value ∙ c.in_ok-append.ensures.items in
    let first : c.len-first.result ≡ length old.functions.items = omega (arith, c.len-first.ensures, old.functions.ok.0) in
    let has : HasBodies r (old.functions.items ++ fs) (length old.functions.items) (length (old.functions.items ++ fs)) row =
    subst (λ (gs : List CodeFunction). HasBodies r gs (length old.functions.items) (length gs) row) all
    (subst (λ (n : ℕ). HasBodies r c.as_slice.result.now n (length c.as_slice.result.now) row) first c.in_ok-row.ensures.row) in
    one_text_more r c.args.number text old _ fs row at c.requires.made
    (all_made r c.args.number text c.args.bodies.now fs at c.requires.bodies made) c.in_ok-append.ensures.items
    (own_bodies_are r c.args.number text c.args.bodies.now fs at c.requires.bodies made old.functions.items row c.requires.numbers.distinct has)
    (ap (map (λ v. v.items)) c.in_ok-push.ensures.items ∙ map-append (λ v. v.items) old.bodies.items (c.in_ok-row.row ∷ []))
