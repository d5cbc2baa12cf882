use Rattle.c_semantics.proofs.Along.{goes_along, depth_is_lexical}
use Rattle.c_semantics.proofs.laws.frames_go_along_skeletons.Goals as goal

pub returns-clause-along : goal.returns-clause-along
returns-clause-along c = goes_along

pub returns-clause-depth : goal.returns-clause-depth
returns-clause-depth c = depth_is_lexical
