use Rattle.fused_tests.proofs.RightHeights.{forms_sound}
use Rattle.fused_tests.proofs.codes.plain.Goals as goal

pub burst-requires-clause-sound : goal.burst-requires-clause-sound
burst-requires-clause-sound c = forms_sound
