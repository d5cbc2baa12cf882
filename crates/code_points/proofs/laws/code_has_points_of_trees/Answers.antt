use Rattle.code_points.proofs.Leading as leading
use Rattle.code_points.proofs.Statements as statements
use Rattle.code_points.proofs.Steps as steps
use Rattle.code_points.proofs.laws.code_has_points_of_trees.Goals as goal

pub returns-clause-points : goal.returns-clause-points
returns-clause-points c = statements.body_points

pub returns-clause-numbers : goal.returns-clause-numbers
returns-clause-numbers c = statements.body_numbers

pub returns-clause-ways : goal.returns-clause-ways
returns-clause-ways c = leading.along_skeleton

pub returns-clause-steps : goal.returns-clause-steps
returns-clause-steps c = steps.steps_go_along_ways
