use Rattle.word_frames.proofs.FrameCalls.{put_off}
use Rattle.word_frames.proofs.frames.Frames.put_off.Goals as goal

pub returns-clause-puts : goal.returns-clause-puts
returns-clause-puts c = λ t.
    put_off t c.args.self.now c.stand.new.self c.args.point c.args.place c.args.height c.requires.kept c.requires.frame c.stand.ensures.high c.stand.ensures.words c.stand.ensures.frames
