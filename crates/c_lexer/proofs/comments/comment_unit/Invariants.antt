use Rattle.std.proofs.Common.{length, ◌-◌}
use Rattle.c_lexer.specs.Prefixes.{Passes}
use Rattle.c_lexer.specs.Units.{read_comment}
use Rattle.c_lexer.proofs.comments.comment_unit.Given as goal

abbrev pub invariant-loop-at : goal.invariant-loop-at
invariant-loop-at l = Passes read_comment l.bytes l.at

abbrev pub decreases-loop-at : goal.decreases-loop-at
decreases-loop-at l = length l.bytes - l.at
