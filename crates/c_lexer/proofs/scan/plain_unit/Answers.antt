use Rattle.std.proofs.Common.{sym}
use Rattle.c_lexer.proofs.UnitsByFirstBytes.{blank_is}
use Rattle.c_lexer.proofs.scan.plain_unit.Goals as goal

pub returns-then-is_blank : goal.returns-then-is_blank
returns-then-is_blank c = λ starts.
    rw (c.single.ensures.len, c.single.ensures.reading) (blank_is starts c.args.rest.now c.requires.some (sym c.if-is_blank.ensures))
