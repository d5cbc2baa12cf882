use Rattle.std.proofs.Common.{◌∙◌, ◌-◌, ap, length, refl, sym, arith}
use Rattle.std.specs.Prelude.{slice_get}
use Rattle.std.proofs.lemmas.Option.{slice_get_past, slice_get_read}
use Rattle.dsu_runs.proofs.Books.{reached, reached_by}
use Rattle.dsu_runs.proofs.book.Book.is_reached.Goals as goal

pub returns-in-Some-clause-value : goal.returns-in-Some-clause-value
returns-in-Some-clause-value c = λ setup g names book is.
    let h = c.in-Some.ensures.lookup in
    let lines = c.deref.result.now in
    let there = slice_get_read lines (length lines) (c.args.k - 1) c.in-Some.lines.now refl h.3.0 (h.4 (omega arith) c.in-Some.lines.now) in
    sym (ap (λ ls. reached_by c.args.written (slice_get ls (c.args.k - 1)))
    (sym (c.deref.ensures.value ∙ ap (λ b. b.lines) c.self.view_is))
    ∙ ap (reached_by c.args.written) there)
    ∙ reached setup g names c.args.self.now c.args.k c.args.written book is c.if-k-eq0.false

pub returns-in-None-clause-value : goal.returns-in-None-clause-value
returns-in-None-clause-value c = λ setup g names book is.
    let lines = c.deref.result.now in
    let past = slice_get_past lines (c.args.k - 1) (omega (arith, c.in-None.ensures.lookup)) in
    sym (ap (λ ls. reached_by c.args.written (slice_get ls (c.args.k - 1)))
    (sym (c.deref.ensures.value ∙ ap (λ b. b.lines) c.self.view_is))
    ∙ ap (reached_by c.args.written) past)
    ∙ reached setup g names c.args.self.now c.args.k c.args.written book is c.if-k-eq0.false
