use Rattle.std.proofs.Common.{◌∙◌}
use Rattle.std.specs.Prelude.{codes}
use Rattle.std.specs.Fmt.{decimal}
use Rattle.std.proofs.lemmas.Result.{on_ok_weaker}
use Rattle.std.proofs.Common.{ap}
use Rattle.skeletons.specs.Meaning.{check_in_of}
use Rattle.dsu_report.specs.Places.{line_at, column_at}
use Rattle.check_in_places.specs.CheckIns.{kind_word}
use Rattle.admits_report.proofs.Adding.{numbers_and_word}
use Rattle.admits_report.proofs.lines.add_head.Goals as goal

pub returns : goal.returns
returns c =
    let text = c.args.lines.now.text.now in
    let at = c.args.spot.at in
    on_ok_weaker c.add.result
    (numbers_and_word (codes "  ") (decimal (line_at text at)) (codes ":") (decimal (column_at text at)) (codes " ")
    (kind_word (check_in_of c.args.spot.kind)) _ _ _ _ _
    (c.as_bytes-line.ensures.value ∙ c.format.ensures.text ∙ ap decimal c.place-place.ensures.line)
    (c.as_bytes-column.ensures.value ∙ c.format-2.ensures.text ∙ ap decimal c.place-place.ensures.column) c.kind_word.ensures)
    c.add.ensures
