use Rattle.std.proofs.Common.{List, subst, sym}
use Rattle.fused_code.specs.Fused.{AreFused}
use Rattle.fused_operations.specs.declared.op.Op.{Op}
use Rattle.word_frames_tests.proofs.RightHeights.{digits_sound}
use Rattle.word_frames_tests.proofs.codes.digits.Goals as goal

pub go_on-requires-clause-sound : goal.go_on-requires-clause-sound
go_on-requires-clause-sound c = digits_sound

pub fuse-requires : goal.fuse-requires
fuse-requires c = digits_sound

pub go_on-requires-clause-fused : goal.go_on-requires-clause-fused
go_on-requires-clause-fused c = subst (λ (os : List Op). AreFused _ _ _ os) (sym c.as_slice.ensures.value) c.in-Ok.ensures
