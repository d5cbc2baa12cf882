use Rattle.std.proofs.Common.{◌+◌, add-one}
use Rattle.dsu_io.proofs.Written.{take-rest}
use Rattle.journal_versions.proofs.Splits.{first_line_of, only_line}
use Rattle.journal_versions.proofs.line.split_line.Goals as goal

pub returns-in-Some-clause-lines : goal.returns-in-Some-clause-lines
returns-in-Some-clause-lines c =
    let text = c.args.text.now in
    let found = c.in-Some.ensures in
    rw (take-rest text (c.in-Some.len + 1), add-one) (first_line_of text c.in-Some.len found.0.before found.1 found.0.high)

pub returns-in-None-clause-lines : goal.returns-in-None-clause-lines
returns-in-None-clause-lines c = only_line c.args.text.now c.requires c.in-None.ensures
