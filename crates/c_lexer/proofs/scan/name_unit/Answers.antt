use Rattle.c_lexer.proofs.UnitsByFirstBytes.{name_is, no_name}
use Rattle.c_lexer.proofs.scan.name_unit.Goals as goal

pub returns-in-Some : goal.returns-in-Some
returns-in-Some c = λ starts. rw c.kind_of_word.ensures (name_is starts c.args.rest.now c.in-Some.len c.requires.some c.requires.letter c.in-Some.ensures)

pub returns-in-None : goal.returns-in-None
returns-in-None c = λ starts.
    rw (c.single.ensures.len, c.single.ensures.reading) (no_name starts c.args.rest.now c.requires.some c.requires.letter c.in-None.ensures)
