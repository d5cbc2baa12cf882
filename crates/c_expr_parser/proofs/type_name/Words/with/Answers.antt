use Rattle.std.proofs.Common.{sym, ◌∙◌}
use Rattle.c_expr_parser.proofs.IntegerTypeWords.{twice}
use Rattle.c_expr_parser.proofs.type_name.Words.with.Goals as goal

pub returns-then-has : goal.returns-then-has
returns-then-has c words e = twice c.args.word c.args.self words (sym c.has.ensures ∙ c.if-has.true) e
