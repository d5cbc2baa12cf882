use Rattle.fused_tests.proofs.OperatorHeights.{operators_sound}
use Rattle.fused_tests.proofs.codes.fused_operators.Goals as goal

pub fuse-requires : goal.fuse-requires
fuse-requires c = operators_sound

pub burst-requires-clause-sound : goal.burst-requires-clause-sound
burst-requires-clause-sound c = operators_sound
