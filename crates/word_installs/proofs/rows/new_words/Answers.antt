use Rattle.std.proofs.Common.{◌≡◌, option_copied, option_map, Some, None, sym, ap, ◌∙◌}
use Rattle.std.proofs.lemmas.Result.{IfOk-weaker}
use Rattle.word_installs.specs.NewRows.{GetsWords, cells_change, first_if_new}
use Rattle.word_installs.proofs.CarriedWords.{gets_changed, gets_first}
use Rattle.word_installs.proofs.rows.new_words.Goals as goal

pub returns-in_ok-made-in-Some : goal.returns-in_ok-made-in-Some
returns-in_ok-made-in-Some c = λ p q named are.
    let changes = c.args.changes.now in
    let found : cells_change changes c.args.new.now.name ≡ Some c.in-Some.change.now =
    ap (cells_change changes) (sym c.as_str.ensures) ∙ sym c.cells_change.ensures ∙ ap option_copied c.in-Some.is
    in
    gets_changed p q changes named are (option_copied c.args.old) c.args.new.now c.args.words.now c.in_ok-made-in-Some.made.items
    c.in-Some.change.now found
    (λ name before is was kind. c.in_ok-made-in-Some.ensures.transforms p q name before is was (kind ∙ sym c.kind_in.ensures))

pub returns-in-None : goal.returns-in-None
returns-in-None c = λ p q named are.
    let changes = c.args.changes.now in
    let found : cells_change changes c.args.new.now.name ≡ None =
    ap (cells_change changes) (sym c.as_str.ensures) ∙ sym c.cells_change.ensures ∙ ap option_copied c.in-None.is
    in
    IfOk-weaker c.first_words.result
    (λ made. option_map (λ v. v.items) made ≡ first_if_new (option_copied c.args.old) c.args.new.now)
    (λ made. GetsWords p q (option_copied c.args.old) (Some c.args.new.now) c.args.words.now (option_map (λ v. v.items) made))
    (λ made first.
    gets_first p q changes named are (option_copied c.args.old) c.args.new.now c.args.words.now (option_map (λ v. v.items) made) found first)
    c.first_words.ensures
