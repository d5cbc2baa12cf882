use Rattle.fused_tests.proofs.OperatorHeights.{operators_sound}
use Rattle.fused_tests.proofs.codes.plain_operators.Goals as goal

pub burst-requires-clause-sound : goal.burst-requires-clause-sound
burst-requires-clause-sound c = operators_sound
