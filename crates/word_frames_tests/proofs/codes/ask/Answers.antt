use Rattle.word_frames_tests.proofs.RightHeights.{ask_sound}
use Rattle.word_frames_tests.proofs.codes.ask.Goals as goal

pub go_on-requires-clause-sound : goal.go_on-requires-clause-sound
go_on-requires-clause-sound c = ask_sound

pub fuse-requires : goal.fuse-requires
fuse-requires c = ask_sound
