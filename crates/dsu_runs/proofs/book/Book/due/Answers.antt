use Rattle.std.proofs.Common.{◌∙◌, ◌+◌, None, Some, ap, sym}
use Rattle.std.specs.Prelude.{if◌then◌else◌}
use Rattle.dsu_runs.proofs.Books.{due_by, none_more, not_due}
use Rattle.dsu_runs.proofs.book.Book.due.Goals as goal

pub returns-then-are_all_offered : goal.returns-then-are_all_offered
returns-then-are_all_offered c = λ setup g names book is.
    none_more setup g names c.args.self.now c.args.written c.are_all_offered.result book is c.are_all_offered.ensures
    c.if-are_all_offered.true

pub returns-then-self : goal.returns-then-self
returns-then-self c = λ setup g names book is.
    not_due setup g names c.args.self.now book
    (λ same. c.if-self.true (ap (λ b. b.closed) c.self.view_is ∙ same ∙ sym (ap (λ b. b.greatest) c.self.view_is)))

pub returns-then-is_reached : goal.returns-then-is_reached
returns-then-is_reached c = λ setup g names book is.
    let next = c.self.inside.greatest + 1 in
    sym (ap (λ b. if b then Some next else None) c.if-is_reached.true)
    ∙ due_by setup g names c.args.self.now next c.is_reached.result book
    (sym (ap (λ b. b.closed) c.self.view_is) ∙ c.if-self.false ∙ ap (λ b. b.greatest) c.self.view_is)
    (ap (λ b. b.greatest + 1) c.self.view_is) (c.is_reached.ensures.value setup g names book is)

pub returns-else-is_reached : goal.returns-else-is_reached
returns-else-is_reached c = λ setup g names book is.
    let next = c.self.inside.greatest + 1 in
    sym (ap (λ b. if b then Some next else None) c.if-is_reached.false)
    ∙ due_by setup g names c.args.self.now next c.is_reached.result book
    (sym (ap (λ b. b.closed) c.self.view_is) ∙ c.if-self.false ∙ ap (λ b. b.greatest) c.self.view_is)
    (ap (λ b. b.greatest + 1) c.self.view_is) (c.is_reached.ensures.value setup g names book is)
