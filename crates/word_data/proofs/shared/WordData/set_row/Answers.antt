use Rattle.std.proofs.Common.{ℕ, List, ap, ◌∙◌}
use Rattle.std.proofs.lemmas.List.{map-set}
use Rattle.code_runs.specs.CodeData.{Data, with_row}
use Rattle.word_data.proofs.shared.WordData.set_row.Goals as goal

pub returns-then-n-len : goal.returns-then-n-len
returns-then-n-len c =
    let kept = c.self.inside in
    let shared : List (List ℕ) → Data = λ rows. record { cells = rows; objects = kept.objects; holders = kept.locks; version = kept.version } in
    ap shared (map-set (λ v. v.items) kept.cells.items c.args.n c.args.words) ∙ ap (λ (d : Data). with_row d c.args.n c.args.words.items) c.self.view_is
