use Rattle.std.proofs.Common.{subst}
use Rattle.c_lexer.specs.Prefixes.{IsLongest, NonePasses}
use Rattle.c_lexer.proofs.UnitsByFirstBytes.{is_string, string_is, no_string}
use Rattle.c_lexer.proofs.scan.string_unit.Goals as goal

pub returns-in-Some : goal.returns-in-Some
returns-in-Some c = λ starts.
    string_is starts c.args.rest.now c.in-Some.len c.requires.some c.requires.quote
    (subst (λ l. IsLongest is_string l c.in-Some.len) c.split_at.ensures.back c.in-Some.ensures)

pub returns-in-None : goal.returns-in-None
returns-in-None c = λ starts.
    rw (c.single.ensures.len, c.single.ensures.reading)
    (no_string starts c.args.rest.now c.requires.some c.requires.quote (subst (λ l. NonePasses is_string l) c.split_at.ensures.back c.in-None.ensures))
