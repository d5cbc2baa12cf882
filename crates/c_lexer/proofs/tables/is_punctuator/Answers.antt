use Rattle.c_lexer.specs.Units.{punctuators}
use Rattle.c_lexer.proofs.tables.is_punctuator.Goals as goal

pub returns : goal.returns
unfolding punctuators
returns c = c.is_one_of.ensures
