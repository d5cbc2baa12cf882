use Rattle.tree_limits.proofs.Statements as statements
use Rattle.tree_limits.proofs.Rooms as rooms
use Rattle.tree_limits.proofs.laws.limits_of_texts_are_enough.Goals as goal

pub returns-clause-few : goal.returns-clause-few
returns-clause-few c = statements.body_small

pub returns-clause-room : goal.returns-clause-room
returns-clause-room c = rooms.body_has
