use Rattle.std.proofs.Common.{◌≡◌, ◌+◌, ℕ, length, Some, refl, set, sym, ap, subst, ◌∙◌, arith}
use Rattle.std.specs.Prelude.{Contains, slice_get}
use Rattle.std.proofs.lemmas.Option.{slice_get_read, slice_get_within}
use Rattle.std.proofs.lemmas.Result.{err_from_is_err_and}
use Rattle.c_tree.specs.BareExpr.{Bytes}
use Rattle.resolved_tree.specs.Nodes.{word}
use Rattle.code_image.specs.declared.function.CodeFunction.{CodeFunction}
use Rattle.image_load.specs.MadeTexts.{HasBodies}
use Rattle.image_load.specs.Numbering.{IsNumber, callees_of, words_of}
use Rattle.image_load.proofs.NumberedBodies.{no_bodies_yet, one_body_more}
use Rattle.image_load.proofs.body_rows.body_row.Goals as goal

pub index_mut-requires : goal.index_mut-requires
index_mut-requires c =
    let r = c.args.run.now in
    let own = c.in_ok-name.ensures.number (callees_of r) c.requires.numbers.functions in
    let within = slice_get_within (callees_of r) c.in_ok-name.name _ own.there in
    let many = c.loop-place.invariant.has.many in
    omega (arith, within, many, c.loop-place.row.ok.0)

pub loop-place-init : goal.loop-place-init
loop-place-init c = record {
  from = omega arith;
  to = c.requires.within;
  has = no_bodies_yet c.args.run.now c.args.functions.now c.args.first c.in_ok-row.row.items c.in_ok-row.ensures;
}

pub loop-place-preserved : goal.loop-place-preserved
loop-place-preserved c =
    let r = c.args.run.now in
    let functions = c.args.functions.now in
    let place = c.loop-place.place in
    let f = c.index-functions-place.result in
    let n = c.in_ok-name.name in
    let there : slice_get functions place ≡ Some f =
    slice_get_read functions (length functions) place f refl c.loop-place-test.true c.index-functions-place.is in
    let named : c.text.result.now ≡ word (words_of r) f.name =
    c.text.ensures ∙ ap (λ (g : CodeFunction). word (words_of r) g.name) (sym c.index-functions-place.is) in
    let own : IsNumber (callees_of r) (word (words_of r) f.name) n =
    subst (λ (x : Bytes). IsNumber (callees_of r) x n) named (c.in_ok-name.ensures.number (callees_of r) c.requires.numbers.functions) in
    let before = c.loop-place.invariant in
    record {
      from = omega (arith, before.from);
      to = omega (arith, c.loop-place-test.true);
      has =
          subst (λ (k : ℕ). HasBodies r functions c.args.first (place + 1) (set c.loop-place.row.items n (Some k))) (sym c.in_ok-body.ensures)
          (one_body_more r functions c.args.first place n c.loop-place.row.items f there before.from own before.has);
    }

pub returns-clause-row : goal.returns-clause-row
returns-clause-row c =
    let before = c.loop-place.invariant in
    let all : c.loop-place.place ≡ length c.args.functions.now = omega (arith, before.to, c.loop-place-test.false) in
    subst (λ (k : ℕ). HasBodies c.args.run.now c.args.functions.now c.args.first k c.loop-place.row.items) all before.has

pub returns-in_err-name-clause-fault : goal.returns-in_err-name-clause-fault
returns-in_err-name-clause-fault c =
    let r = c.args.run.now in
    let functions = c.args.functions.now in
    let place = c.loop-place.place in
    let f = c.index-functions-place.result in
    let there : slice_get functions place ≡ Some f =
    slice_get_read functions (length functions) place f refl c.loop-place-test.true c.index-functions-place.is in
    let named : c.text.result.now ≡ word (words_of r) f.name =
    c.text.ensures ∙ ap (λ (g : CodeFunction). word (words_of r) g.name) (sym c.index-functions-place.is) in
    let p = err_from_is_err_and c.from_residual-in_err-name.result c.from_residual-in_err-name.ensures.1 in
    rw (p.1, p.2) (λ all.
    c.in_err-name.ensures.fault (callees_of r) c.requires.numbers.functions
    (subst (λ (x : Bytes). Contains (callees_of r) x) (sym named) (all place f c.loop-place.invariant.from there)))
