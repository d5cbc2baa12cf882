use Rattle.std.proofs.Common.{length}
use Rattle.expr_gen.proofs.variables.+variable_kind.Given as goal

abbrev pub decreases-variable_kind : goal.decreases-variable_kind
decreases-variable_kind l = length l.variables.now
