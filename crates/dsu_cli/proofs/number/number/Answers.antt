use Rattle.std.proofs.Common.{◌≢◌, get_or, arith}
use Rattle.std.proofs.lemmas.Bool.{both_ways}
use Rattle.std.proofs.lemmas.Str.Pattern.{starts_char}
use Rattle.dsu_cli.proofs.Numbers.{number_missed, number_read}
use Rattle.dsu_cli.proofs.number.number.Goals as goal

pub returns-in_default : goal.returns-in_default
returns-in_default c =
    let starts = starts_char 43 c.args.word.now c.starts_with.result c.starts_with.ensures.cases (omega arith) (omega arith) in
    let no_plus : get_or c.args.word.now 0 0 ≢ 43 = λ e. both_ways _ c.if-starts_with.false (starts.1 e) in
    number_missed c.args.digits c.args.least c.args.most c.args.word.now c.parse.result c.parse.ensures.value.0 no_plus _ c.in_default.is (omega arith)

pub returns-then-number-most : goal.returns-then-number-most
returns-then-number-most c =
    let starts = starts_char 43 c.args.word.now c.starts_with.result c.starts_with.ensures.cases (omega arith) (omega arith) in
    let no_plus : get_or c.args.word.now 0 0 ≢ 43 = λ e. both_ways _ c.if-starts_with.false (starts.1 e) in
    number_read c.args.digits c.args.least c.args.most c.args.word.now c.parse.result c.parse.ensures.value.0 no_plus c.in-Ok.number c.in-Ok.is
    (omega arith) (omega arith) (omega arith)
