use Rattle.std.proofs.Common.{ap, ◌∙◌, ◌++◌}
use Rattle.std.specs.Prelude.{codes}
use Rattle.std.proofs.lemmas.Result.{on_ok_weaker}
use Rattle.type_transformers.specs.Hows.{how_of}
use Rattle.changes_report.specs.ChangesText.{how_word}
use Rattle.changes_report.proofs.Adding.{line_by_three}
use Rattle.changes_report.proofs.lines.add_field.Goals as goal

pub returns : goal.returns
returns c =
    on_ok_weaker c.add_end.result
    (λ ended. line_by_three (codes "transform ") c.args.name.now (codes " ") c.args.field.now.name.text (codes " ")
    (how_word (how_of c.args.change.now)) (codes "\n") _ _ _ _ c.in_ok-add_start.ensures
    (c.in_ok-add.ensures ∙ ap (λ text. c.add_start.new.text.items ++ (text ++ codes " ")) (c.as_bytes.ensures.value ∙ c.as_str.ensures))
    (ended ∙ ap (λ word. c.add.new.text.items ++ word ++ codes "\n") c.word_of_field.ensures))
    c.add_end.ensures
