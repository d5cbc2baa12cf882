use Rattle.std.proofs.Common.{length}
use Rattle.name_resolution.proofs.known.+local_type.Given as goal

abbrev pub decreases-local_type : goal.decreases-local_type
decreases-local_type l = length l.locals.now
