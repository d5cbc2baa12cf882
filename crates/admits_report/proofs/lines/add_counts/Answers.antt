use Rattle.std.proofs.Common.{◌∙◌}
use Rattle.std.specs.Prelude.{codes}
use Rattle.std.specs.Fmt.{decimal}
use Rattle.std.proofs.lemmas.Result.{on_ok_weaker}
use Rattle.admits_report.proofs.Adding.{two_numbers}
use Rattle.admits_report.proofs.lines.add_counts.Goals as goal

pub returns : goal.returns
returns c =
    on_ok_weaker c.add.result
    (two_numbers (codes "admitted at ") (decimal c.args.counts.admitted) (codes " of ") (decimal c.args.counts.all) (codes "\n") _ _ _ _
    (c.as_bytes-admitted.ensures.value ∙ c.format.ensures.text) (c.as_bytes-all.ensures.value ∙ c.format-2.ensures.text))
    c.add.ensures
