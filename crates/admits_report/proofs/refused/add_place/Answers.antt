use Rattle.std.proofs.Common.{◌∙◌}
use Rattle.std.specs.Prelude.{codes}
use Rattle.std.specs.Fmt.{decimal}
use Rattle.std.proofs.lemmas.Result.{on_ok_weaker}
use Rattle.admits_report.proofs.Adding.{place_words}
use Rattle.admits_report.proofs.refused.add_place.Goals as goal

pub returns : goal.returns
returns c =
    on_ok_weaker c.add.result
    (place_words (codes "transform ") (decimal c.args.line) (codes ":") (decimal c.args.column) _ _ _ _
    (c.as_bytes-line_text.ensures.value ∙ c.format.ensures.text) (c.as_bytes-column_text.ensures.value ∙ c.format-2.ensures.text))
    c.add.ensures
