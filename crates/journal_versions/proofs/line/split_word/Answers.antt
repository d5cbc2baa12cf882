use Rattle.std.proofs.Common.{◌+◌, add-one}
use Rattle.dsu_io.proofs.Written.{take-rest}
use Rattle.journal_versions.proofs.Splits.{first_word_of, only_word}
use Rattle.journal_versions.proofs.line.split_word.Goals as goal

pub returns-in-Some : goal.returns-in-Some
returns-in-Some c =
    let text = c.args.text.now in
    let found = c.in-Some.ensures in
    let words = first_word_of text c.in-Some.len found.0.before found.1 found.0.high in
    (words.0, rw (take-rest text (c.in-Some.len + 1), add-one) words.1)

pub returns-in-None : goal.returns-in-None
returns-in-None c = only_word c.args.text.now c.in-None.ensures
