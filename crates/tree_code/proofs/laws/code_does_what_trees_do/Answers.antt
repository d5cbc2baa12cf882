use Rattle.tree_code.proofs.LocalEvaluation as evaluation
use Rattle.tree_code.proofs.AfterStops as stops
use Rattle.tree_code.proofs.laws.code_does_what_trees_do.Goals as goal

pub returns-clause-local : goal.returns-clause-local
returns-clause-local c = evaluation.code_does_local_evaluation

pub returns-clause-resumed : goal.returns-clause-resumed
returns-clause-resumed c = stops.code_goes_on_after_stops

pub returns-clause-entered : goal.returns-clause-entered
returns-clause-entered c = evaluation.entered_frames_match
