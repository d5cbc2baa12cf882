use Rattle.std.proofs.Common.{ℕ, Option, option_map, Global, Vec, subst, sym}
use Rattle.word_installs.specs.declared.rows.NewRow.{NewRow}
use Rattle.word_installs.specs.NewRows.{AddsWords}
use Rattle.word_installs.proofs.RowSteps.{adds_row}
use Rattle.word_installs.proofs.rows.add_words.Goals as goal

pub returns-in_ok-push : goal.returns-in_ok-push
returns-in_ok-push c =
    let row : NewRow = record { number = c.args.number; words = c.in-Some.words } in
    subst (λ (o : Option (Vec ℕ Global)). AddsWords c.args.number (option_map (λ v. v.items) o) c.args.rows.now.items c.push.new.self.items)
    (sym c.in-Some.is)
    (adds_row c.args.rows.now.items c.push.new.self.items row c.in_ok-push.ensures.items)
