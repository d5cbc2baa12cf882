use Rattle.std.proofs.Common.{◌∙◌, ◌<◌, ap, subst, sym}
use Rattle.std.specs.Option.{is_some}
use Rattle.dsu_runs.proofs.Books.{may_open}
use Rattle.dsu_runs.proofs.book.Book.may_offer.Goals as goal

pub returns-clause-value : goal.returns-clause-value
returns-clause-value c = λ setup g names book is.
    may_open setup g names c.args.self.now c.args.k c.is_reached.result book
    (ap (λ b. is_some b.open_offer) (sym c.self.view_is) ∙ sym c.is_some.ensures ∙ c.if-is_some.false)
    (subst (λ b. b.greatest < c.args.k) c.self.view_is c.if-k-self.false) (c.is_reached.ensures.value setup g names book is)
