use Rattle.word_frames.proofs.FrameCalls.{copied_out}
use Rattle.word_frames.proofs.frames.Frames.is_copied.Goals as goal

pub returns : goal.returns
returns c = λ same.
    copied_out c.args.self.now c.args.row.now c.as_slice.result.now c.last_base-base.result c.variables.result c.stack-height.result.1
    c.as_slice.ensures.value c.last_base-base.ensures.value c.variables.ensures.value c.stack-height.ensures.height (c.is_copy.ensures same)
