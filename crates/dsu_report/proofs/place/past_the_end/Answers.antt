use Rattle.std.proofs.Common.{◌∙◌, arith, sym}
use Rattle.dsu_report.proofs.Past.{column_past, line_past}
use Rattle.dsu_report.proofs.place.past_the_end.Goals as goal

pub returns-clause-line : goal.returns-clause-line
returns-clause-line c = c.counted-line.ensures.line ∙ sym (line_past c.args.text.now c.args.at c.requires)

pub returns-clause-column : goal.returns-clause-column
returns-clause-column c =
    let here = c.counted-line.ensures.column in
    let past = column_past c.args.text.now c.args.at c.requires in
    omega (arith, here, past)
