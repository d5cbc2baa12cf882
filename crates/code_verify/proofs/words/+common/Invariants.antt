use Rattle.std.proofs.Common.{length}
use Rattle.code_verify.proofs.words.+common.Given as goal

abbrev pub decreases-common : goal.decreases-common
decreases-common l = length l.a.now
