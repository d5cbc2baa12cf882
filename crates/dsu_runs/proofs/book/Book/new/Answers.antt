use Rattle.std.proofs.Common.{◌≡◌, ◌∙◌, ap, length, arith}
use Rattle.std.specs.Prelude.{replicate}
use Rattle.source_model.specs.declared.answer.OfferAnswer.TheVariants.{NotOffered}
use Rattle.dsu_runs.proofs.Books.{first_book, first_entries}
use Rattle.dsu_runs.proofs.book.Book.new.Goals as goal

pub invariant_of-result : goal.invariant_of-result
invariant_of-result c =
    let all : c.loop-offer._offer ≡ length c.args.lines.items =
    omega (arith, c.loop-offer-test.false, c.loop-offer.auto._offer-end, c.len-offer-end.ensures) in
    first_entries c.args.lines.items c.loop-offer.answers.items c.requires
    (c.loop-offer.invariant.answers ∙ ap (λ n. replicate n NotOffered) all)

pub returns : goal.returns
returns c = λ setup names is.
    let all : c.loop-offer._offer ≡ length c.args.lines.items =
    omega (arith, c.loop-offer-test.false, c.loop-offer.auto._offer-end, c.len-offer-end.ensures) in
    first_book setup names c.args.lines.items c.loop-offer.answers.items is
    (c.loop-offer.invariant.answers ∙ ap (λ n. replicate n NotOffered) all)
