use Rattle.word_frames.proofs.FrameCalls.{stack_changed}
use Rattle.word_frames.proofs.laws.stack_changes_alone.Goals as goal

pub returns : goal.returns
returns c = stack_changed
