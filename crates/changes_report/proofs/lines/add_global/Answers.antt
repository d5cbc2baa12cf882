use Rattle.std.proofs.Common.{ap, ◌∙◌, ◌++◌}
use Rattle.std.specs.Prelude.{codes}
use Rattle.std.proofs.lemmas.Result.{on_ok_weaker}
use Rattle.type_transformers.specs.Hows.{how_of_global}
use Rattle.changes_report.specs.ChangesText.{how_word}
use Rattle.changes_report.proofs.Adding.{line_by_two}
use Rattle.changes_report.proofs.lines.add_global.Goals as goal

pub returns : goal.returns
returns c =
    on_ok_weaker c.add_end.result
    (λ ended. line_by_two (codes "transform ") c.args.name.now (codes " ") (how_word (how_of_global c.args.change.now)) (codes "\n") _ _ _
    c.in_ok-add_start.ensures
    (ended ∙ ap (λ word. c.add_start.new.text.items ++ word ++ codes "\n") c.word_of_global.ensures))
    c.add_end.ensures
