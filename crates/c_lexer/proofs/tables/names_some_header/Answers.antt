use Rattle.c_lexer.specs.Units.{headers}
use Rattle.c_lexer.proofs.tables.names_some_header.Goals as goal

pub returns : goal.returns
unfolding headers
returns c = c.is_some_header.ensures
