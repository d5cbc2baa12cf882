use Rattle.typed_trees.proofs.SafePieces as pieces
use Rattle.typed_trees.proofs.laws.local_evaluation_keeps_types.Goals as goal

pub returns-clause-local : goal.returns-clause-local
returns-clause-local c = pieces.local_evaluation_keeps_types

pub returns-clause-bodies : goal.returns-clause-bodies
returns-clause-bodies c = pieces.bodies_go_on
