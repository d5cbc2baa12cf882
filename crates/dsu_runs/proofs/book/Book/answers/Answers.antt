use Rattle.std.proofs.Common.{◌∙◌, ap, map}
use Rattle.source_model.specs.Answers.{answer_seen}
use Rattle.dsu_runs.proofs.Books.{answers_now}
use Rattle.dsu_runs.proofs.book.Book.answers.Goals as goal

pub returns : goal.returns
returns c = λ setup g names book.
    ap (map (answer_seen names)) (c.as_slice.ensures.value ∙ ap (λ b. b.answers) c.self.view_is)
    ∙ answers_now setup g names c.args.self.now book
