use Rattle.std.proofs.Common.{◌≡◌, length}
use Rattle.c_lexer.specs.Units.{past_gaps}
use Rattle.c_lexer.proofs.directives.past_gaps.Given as goal

abbrev pub invariant-loop-rest : goal.invariant-loop-rest
invariant-loop-rest l = past_gaps l.rest ≡ past_gaps l.bytes

abbrev pub decreases-loop-rest : goal.decreases-loop-rest
decreases-loop-rest l = length l.rest
