use Rattle.frame_bodies.proofs.CallPoints.{called_are_functions, spawned_are_functions}
use Rattle.frame_bodies.proofs.laws.accepted_functions_call_functions.Goals as goal

pub returns-clause-called : goal.returns-clause-called
returns-clause-called c = called_are_functions

pub returns-clause-spawned : goal.returns-clause-spawned
returns-clause-spawned c = spawned_are_functions
