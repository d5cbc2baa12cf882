use Rattle.word_frames.proofs.FrameCalls.{copied_out}
use Rattle.word_frames.proofs.frames.Frames.copy_out.Goals as goal

pub returns-clause-copied : goal.returns-clause-copied
returns-clause-copied c =
    copied_out c.args.self.now c.copy.new.to c.as_slice.result.now c.last_base-base.result c.variables.result c.stack-height.result.1
    c.as_slice.ensures.value c.last_base-base.ensures.value c.variables.ensures.value c.stack-height.ensures.height c.copy.ensures.copied
