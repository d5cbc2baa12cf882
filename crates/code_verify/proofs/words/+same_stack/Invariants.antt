use Rattle.std.proofs.Common.{length}
use Rattle.code_verify.proofs.words.+same_stack.Given as goal

abbrev pub decreases-same_stack : goal.decreases-same_stack
decreases-same_stack l = length l.a.now
