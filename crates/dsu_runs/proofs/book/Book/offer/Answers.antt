use Rattle.std.proofs.Common.{◌∙◌, Some, subst, sym}
use Rattle.std.specs.Prelude.{if◌then◌else◌}
use Rattle.dsu_runs.specs.Books.{AreEntries, IsBook}
use Rattle.dsu_runs.proofs.Books.{opened, opened_entries}
use Rattle.dsu_runs.proofs.book.Book.offer.Goals as goal

pub invariant_of-self : goal.invariant_of-self
invariant_of-self c =
    let within = c.may_offer-may.ensures.within c.if-may.true in
    subst (λ b. AreEntries (record b { open_offer = Some c.args.k; greatest = c.args.k })) (sym c.self.view_is)
    (opened_entries c.args.self.now c.args.k (subst AreEntries c.self.view_is c.self.invariant) within.0 within.1)

pub returns-then-may : goal.returns-then-may
returns-then-may c = λ setup g names book is.
    let k = c.args.k in
    let can = c.may_offer-may.ensures.value setup g names book is in (
      can,
      subst
          (λ x.
          IsBook setup (if x then record g { open_offer = Some k; greatest = k } else g) names
          (record {
            lines = c.self.inside.lines.items;
            open_offer = Some k;
            greatest = k;
            closed = c.self.inside.closed;
            answers = c.self.inside.answers.items;
          }))
          (sym c.if-may.true)
          (subst (λ b. IsBook setup (record g { open_offer = Some k; greatest = k }) names (record b { open_offer = Some k; greatest = k }))
          (sym c.self.view_is) (opened setup g names c.args.self.now k book (sym can ∙ c.if-may.true))),
    )

pub returns-else-may : goal.returns-else-may
returns-else-may c = λ setup g names book is.
    let can = c.may_offer-may.ensures.value setup g names book is in (
      can,
      subst (λ x. IsBook setup (if x then record g { open_offer = Some c.args.k; greatest = c.args.k } else g) names c.args.self.now)
          (sym c.if-may.false) book,
    )
