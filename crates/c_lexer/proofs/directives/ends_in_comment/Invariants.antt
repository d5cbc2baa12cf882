use Rattle.std.proofs.Common.{◌≡◌, length}
use Rattle.c_lexer.specs.Units.{ends_in_comment}
use Rattle.c_lexer.proofs.directives.ends_in_comment.Given as goal

abbrev pub invariant-loop-rest : goal.invariant-loop-rest
invariant-loop-rest l = ends_in_comment l.rest ≡ ends_in_comment l.bytes

abbrev pub decreases-loop-rest : goal.decreases-loop-rest
decreases-loop-rest l = length l.rest
