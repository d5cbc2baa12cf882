use Rattle.std.proofs.lemmas.Bool.{ne_eqb}
use Rattle.c_lexer.proofs.UnitsByFirstBytes.{punctuator_is, no_punctuator}
use Rattle.c_lexer.proofs.scan.punctuator_unit.Goals as goal

pub returns-in-Some : goal.returns-in-Some
returns-in-Some c = λ starts.
    punctuator_is starts c.args.rest.now c.in-Some.len c.requires.some
    (record {
      past = record {
        blank = c.requires.blank;
        hash = ne_eqb _ 35 c.requires.hash;
        digit = c.requires.digit;
        quote = ne_eqb _ 39 c.requires.quote;
        double = ne_eqb _ 34 c.requires.double;
      };
      line = c.requires.line;
      block = c.requires.block;
      letter = c.requires.letter;
    })
    c.in-Some.ensures

pub returns-in-None : goal.returns-in-None
returns-in-None c = λ starts.
    rw (c.single.ensures.len, c.single.ensures.reading)
    (no_punctuator starts c.args.rest.now c.requires.some
    (record {
      past = record {
        blank = c.requires.blank;
        hash = ne_eqb _ 35 c.requires.hash;
        digit = c.requires.digit;
        quote = ne_eqb _ 39 c.requires.quote;
        double = ne_eqb _ 34 c.requires.double;
      };
      line = c.requires.line;
      block = c.requires.block;
      letter = c.requires.letter;
    })
    c.in-None.ensures)
