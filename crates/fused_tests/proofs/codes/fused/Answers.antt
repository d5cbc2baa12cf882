use Rattle.fused_tests.proofs.RightHeights.{forms_sound}
use Rattle.fused_tests.proofs.codes.fused.Goals as goal

pub fuse-requires : goal.fuse-requires
fuse-requires c = forms_sound

pub burst-requires-clause-sound : goal.burst-requires-clause-sound
burst-requires-clause-sound c = forms_sound
