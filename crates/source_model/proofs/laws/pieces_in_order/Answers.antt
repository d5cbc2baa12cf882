use Rattle.source_model.proofs.Pieces.{parts_of_places, values_change}
use Rattle.source_model.proofs.Pieces.{expressions_in_order, places_stop, statements_as_pieces, declarations_begin, tests_choose}
use Rattle.source_model.proofs.laws.pieces_in_order.Goals as goal

pub returns-clause-expressions : goal.returns-clause-expressions
returns-clause-expressions c = expressions_in_order

pub returns-clause-places : goal.returns-clause-places
returns-clause-places c = places_stop

pub returns-clause-statements : goal.returns-clause-statements
returns-clause-statements c = statements_as_pieces

pub returns-clause-declarations : goal.returns-clause-declarations
returns-clause-declarations c = declarations_begin

pub returns-clause-tests : goal.returns-clause-tests
returns-clause-tests c = tests_choose

pub returns-clause-values : goal.returns-clause-values
returns-clause-values c = values_change

pub returns-clause-parts : goal.returns-clause-parts
returns-clause-parts c = parts_of_places
